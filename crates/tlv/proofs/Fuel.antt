-- The walk's fuel does not matter. Each step that passes a TLV takes at least one address, so as much fuel as there are addresses
-- is enough. The walk is therefore what its steps make it, and a loop in the code can follow it step by step.
-- Assumes nothing.
use mathlib.Core.Path.{◌≡◌, refl, sym, ap, ◌∙◌}
use mathlib.Core.Bool.{Bool, true, false}
use mathlib.Core.Logic.{⊎_elim}
use mathlib.Core.List.{List, [], ◌∷◌}
use Prim.Native.Nat.{ℕ, zero, suc, ◌<◌, ◌≤◌}
use native.Mathlib.Omega.{arith}
use lib.ListN.{length, length-drop}
use Rattle.tag.specs.Bytes.{byte}
use Rattle.tag.specs.Refusals.{no_message_tlv}
use Rattle.tag.proofs.Logic.{nope}
use Rattle.tlv.specs.Areas.{Control, Area, covers, without, area_of}
use Rattle.tlv.specs.Walk.{len, length_of, more, stop, pass_value, Kind, null, message, terminator, other, control, kind_of, Step, on, hit, lost, found, control_value, pass_control, step_at, step, find}
use Rattle.tlv.proofs.Locality.{pass_value-is, area_by-is, control_by-is}
use Rattle.tlv.proofs.Sizes.{length-size}

-- ---- a step takes an address

length_without : (r : Area) (us : List ℕ) → length (without r us) ≤ length us
unfolding without
length_without r [] = omega arith
length_without r (a ∷ us) = go (covers r a) refl (length_without r us)
  where
    go : (b : Bool) → covers r a ≡ b → length (without r us) ≤ length us → length (without r (a ∷ us)) ≤ suc (length us)
    go true q ih = rw (q, without) (omega arith)
    go false q ih = rw (q, without) (omega arith)

length-less : (i us ws : List ℕ) (n : ℕ) → length_of i us ≡ len n ws → length ws < length us
length-less i us ws n e = ⊎_elim (λ c. omega (arith, c.1)) (λ c. omega (arith, c.1)) (length-size i us ws n e)

value-less : (i us ws : List ℕ) → pass_value (length_of i us) ≡ more ws → length ws < length us
value-less i us ws e =
    let (n, vs, q, u) = pass_value-is (length_of i us) ws e in
    omega (arith, length-less i us vs n q, ap length u, length-drop n vs)

module _ (allowed : Area → Bool) where
  control-less : (c : Control) (i us ws : List ℕ) → pass_control allowed c i us ≡ more ws → length ws < length us
  control-less c i [] ws e = absurd (nope (cc))
  control-less c i (l ∷ us) ws e = go us (control_by-is allowed (byte i l) c i us ws e).1
    where
      go : (us : List ℕ) → control_value allowed c i us ≡ more ws → length ws < suc (length us)
      go [] f = absurd (nope (cc))
      go (a ∷ []) f = absurd (nope (cc))
      go (a ∷ b ∷ []) f = absurd (nope (cc))
      go (a ∷ b ∷ d ∷ us) f =
          let r : Area = area_of c (byte i a) (byte i b) (byte i d) in
          let u : without r us ≡ ws = area_by-is allowed c (byte i a) (byte i b) (byte i d) us ws f in
          omega (arith, ap length u, length_without r us)

  pub step_less : (i us ws : List ℕ) → step allowed i us ≡ on (more ws) → length ws < length us
  step_less i [] ws e = absurd (nope (cc))
  step_less i (a ∷ us) ws e = go (kind_of (byte i a)) e
    where
      go : (k : Kind) → step_at allowed k i a us ≡ on (more ws) → length ws < suc (length us)
      go null f = let u : us ≡ ws = cc in omega (arith, ap length u)
      go (control c) f = omega (arith, control-less c i us ws (cc))
      go message f = absurd (nope (cc))
      go terminator f = absurd (nope (cc))
      go other f = omega (arith, value-less i us ws (cc))

  -- ---- fuel

  nothing_left : (k : ℕ) (i us : List ℕ) → length us ≤ 0 → find allowed k i us ≡ lost no_message_tlv
  unfolding find
  nothing_left zero i us p = refl
  nothing_left (suc k) i [] p = refl
  nothing_left (suc k) i (a ∷ us) p = absurd (omega arith)

  pub find-fuel : (k l : ℕ) (i us : List ℕ) → length us ≤ k → length us ≤ l → find allowed k i us ≡ find allowed l i us
  unfolding find
  find-fuel zero l i us p q = nothing_left zero i us p ∙ sym (nothing_left l i us p)
  find-fuel (suc k) zero i us p q = nothing_left (suc k) i us q ∙ sym (nothing_left zero i us q)
  find-fuel (suc k) (suc l) i us p q = go (step allowed i us) refl (λ vs. find-fuel k l i vs)
    where
      go : (s : Step) → step allowed i us ≡ s
          → ((vs : List ℕ) → length vs ≤ k → length vs ≤ l → find allowed k i vs ≡ find allowed l i vs)
          → find allowed (suc k) i us ≡ find allowed (suc l) i us
      go (on (more vs)) e ih = rw (e, find) (ih vs (omega (arith, step_less i us vs e)) (omega (arith, step_less i us vs e)))
      go (on (stop r)) e ih = rw (e, find)
      go (hit b vs) e ih = rw (e, find)

  -- ---- the walk by its steps

  pub walk_more : (k : ℕ) (i us vs : List ℕ) → length us ≤ k → step allowed i us ≡ on (more vs)
      → find allowed k i us ≡ find allowed k i vs
  unfolding find
  walk_more zero i us vs p e = absurd (omega (arith, step_less i us vs e))
  walk_more (suc k) i us vs p e =
      rw (e, find) (find-fuel k (suc k) i vs (omega (arith, step_less i us vs e)) (omega (arith, step_less i us vs e)))

  -- a NULL TLV is its type byte alone
  pub null-passed : (k : ℕ) (i : List ℕ) (a : ℕ) (us : List ℕ) → byte i a ≡ 0 → suc (length us) ≤ k → find allowed k i (a ∷ us) ≡ find allowed k i us
  null-passed k i a us z p = let e : step allowed i (a ∷ us) ≡ on (more us) = rw z in walk_more k i (a ∷ us) us p e

  pub walk-stop : (k : ℕ) (i us : List ℕ) (r : ℕ) → length us ≤ k → step allowed i us ≡ on (stop r)
      → find allowed k i us ≡ lost r
  unfolding find
  walk-stop zero i [] r p e = cc
  walk-stop zero i (a ∷ us) r p e = absurd (omega arith)
  walk-stop (suc k) i us r p e = rw (e, find)

  pub walk-hit : (k : ℕ) (i us : List ℕ) (a : ℕ) (vs : List ℕ) → length us ≤ k → step allowed i us ≡ hit a vs
      → find allowed k i us ≡ found a vs
  unfolding find
  walk-hit zero i [] a vs p e = absurd (nope (cc))
  walk-hit zero i (b ∷ us) a vs p e = absurd (omega arith)
  walk-hit (suc k) i us a vs p e = rw (e, find)
