-- A record that passes its tests, in facts, both ways.
-- Assumes nothing.
use mathlib.Core.Path.{◌≡◌, refl, ap}
use mathlib.Core.Bool.{Bool, true, false, not, cond}
use Prim.Native.Nat.{ℕ, ◌+◌, ◌<◌, ◌≤◌}
use native.Mathlib.Omega.{arith}
use lib.Dec.{eqb, ltb}
use borrow.Author.Tests.{le-leb, leb-true, eq-eqb, ne_eqb, eqb-true, ltb-true}
use Rattle.tag.specs.Checks.{fine, first_of}
use Rattle.tag.proofs.Checks.{fine-all, all-fine}
use Rattle.tag.proofs.Logic.{nope}
use Rattle.ndef.specs.Record.{tnf_allows}
use Rattle.ndef.specs.Header.{mb, me, cf, tnf}
use Rattle.ndef.specs.Message.{checks_by}

pub record Sound (flags header type id payload size first : ℕ) : Type 0 where
  pub unchunked : cf flags ≡ 0
  pub whole : header + type + id + payload ≤ size
  pub allowed : tnf_allows (tnf flags) type id payload ≡ true
  pub begins : mb flags ≡ first
  pub ends : me flags ≡ cond (eqb (header + type + id + payload) size) 1 0

-- what both of two tests say
pub both : (a b : Bool) → cond a b false ≡ true → (a ≡ true) × (b ≡ true)
both true b h = (refl, h)
both false b h = absurd (nope (cc))

pub tnf_small : (t type id payload : ℕ) → tnf_allows t type id payload ≡ true → t < 6
unfolding tnf_allows
tnf_small t type id payload h = ltb-true t 6 (both (ltb t 6) _ h).0

module _ (flags header type id payload size first : ℕ) where
  pub sound : first_of (checks_by flags header type id payload size first) ≡ fine → Sound flags header type id payload size first
  unfolding checks_by
  sound e =
      let p = fine-all (checks_by flags header type id payload size first) e in
      let after-cut = p.1.1 in
      let after-tnf = after-cut.1 in
      record {
        unchunked = eqb-true (cf flags) 0 p.0;
        whole = leb-true (header + type + id + payload) size after-cut.0;
        allowed = after-tnf.0;
        begins = eqb-true (mb flags) first after-tnf.1.0;
        ends = eqb-true (me flags) (cond (eqb (header + type + id + payload) size) 1 0) after-tnf.1.1.0;
      }

  pub passes : Sound flags header type id payload size first → first_of (checks_by flags header type id payload size first) ≡ fine
  unfolding checks_by
  passes w =
      let small : tnf flags < 6 = tnf_small (tnf flags) type id payload w.allowed in
      all-fine (checks_by flags header type id payload size first) (
        eq-eqb (cf flags) 0 w.unchunked,
        (
          ap not (ne_eqb (tnf flags) 6 (λ e. omega arith)),
          (
            le-leb (header + type + id + payload) size w.whole,
            (
              w.allowed,
              (
                eq-eqb (mb flags) first w.begins,
                (
                  eq-eqb (me flags) (cond (eqb (header + type + id + payload) size) 1 0) w.ends,
                  tt,
                ),
              ),
            ),
          ),
        ),
      )
