-- Tests that run in order. The answer is 'fine' exactly if each test passes; a fault is the refusal of one of them. The code gives the
-- answer as a number.
-- Assumes nothing.
use mathlib.Core.Path.{◌≡◌, refl, subst}
use mathlib.Core.Bool.{Bool, true, false}
use mathlib.Core.List.{List, [], ◌∷◌}
use Prim.Native.Nat.{ℕ, ◌≤◌}
use Rattle.tag.specs.Checks.{Check, fine, fault, first_of}
use Rattle.tag.proofs.Logic.{nope}
use Rattle.tag.proofs.Each.{Each}

abbrev pub AllPass : List Check → Type 0
AllPass [] = Unit {0}
AllPass (c ∷ cs) = (c.passes ≡ true) × AllPass cs

pub fine-all : (cs : List Check) → first_of cs ≡ fine → AllPass cs
fine-all [] e = tt
fine-all (c ∷ cs) e = go c.passes refl (fine-all cs)
  where
    go : (b : Bool) → c.passes ≡ b → (first_of cs ≡ fine → AllPass cs) → (c.passes ≡ true) × AllPass cs
    go false q ih = let e' : fault c.refusal ≡ fine = rw (q, first_of) at e in absurd (nope (cc))
    go true q ih = (q, ih (rw (q, first_of) at e))

pub all-fine : (cs : List Check) → AllPass cs → first_of cs ≡ fine
all-fine [] h = refl
all-fine (c ∷ cs) h = rw (h.0, first_of) (all-fine cs h.1)

-- a refusal that reading gives: 1 to 8
abbrev pub OfReading : ℕ → Type 0
OfReading r = (1 ≤ r) × (r ≤ 8)

-- what holds of each test's refusal holds of the one given
pub first-among : (P : ℕ → Type 0) (cs : List Check) → Each (λ c. P c.refusal) cs → (r : ℕ) → first_of cs ≡ fault r → P r
first-among P [] h r e = absurd (nope (cc))
first-among P (c ∷ cs) h r e = go c.passes refl (first-among P cs h.1 r)
  where
    go : (b : Bool) → c.passes ≡ b → (first_of cs ≡ fault r → P r) → P r
    go false q ih =
        let e' : fault c.refusal ≡ fault r = rw (q, first_of) at e in
        let s : c.refusal ≡ r = cc in
        subst P s h.0
    go true q ih = ih (rw (q, first_of) at e)

-- ---- the answer as a number
