-- A tag that has a TLV area is refused with one of 1 to 8, so 0 can mean none.
-- Assumes nothing.
use mathlib.Core.Path.{◌≡◌, refl, subst}
use mathlib.Core.Bool.{Bool, true, false, cond}
use mathlib.Core.List.{List}
use Prim.Native.Nat.{ℕ, zero, suc}
use native.Mathlib.Omega.{arith}
use lib.Dec.{leb, eqb}
use lib.ListN.{length}
use Rattle.tag.specs.Refusals.{bad_control_tlv, bad_length, no_message_tlv}
use Rattle.tag.specs.Checks.{Checked, fine, fault, first_of}
use Rattle.tag.specs.Reading.{unreadable}
use Rattle.tag.proofs.Logic.{nope}
use Rattle.tag.proofs.Checks.{OfReading, first-among}
use Rattle.tlv.specs.Areas.{Control, Area, reserved, area_of}
use Rattle.tlv.specs.Walk.{Taken, none, took, take_byte, on_byte, Length, bad, len, length_of, Passed, more, stop, pass_value, Kind, null, message, terminator, other, control, kind_of, Step, on, hit, Found, lost, found, area_by, control_value, control_by, step_at, step, find, message_tlv}
use Rattle.tlv_tag.specs.Message.{TlvTag, Located, refuse, located, locate_by, locate_from, locate_after, locate, reading_of, reading}
use Rattle.tlv_tag.proofs.Tag.{TlvLaws}

abbrev PassNumbered : Passed → Type 0
PassNumbered (more us) = Unit {0}
PassNumbered (stop r) = OfReading r

abbrev StepNumbered : Step → Type 0
StepNumbered (on p) = PassNumbered p
StepNumbered (hit a us) = Unit {0}

abbrev FindNumbered : Found → Type 0
FindNumbered (lost r) = OfReading r
FindNumbered (found a us) = Unit {0}

abbrev LocatedNumbered : Located → Type 0
LocatedNumbered (refuse r) = OfReading r
LocatedNumbered (located us ms) = Unit {0}

-- the refusals of the walk
control-number : OfReading bad_control_tlv
control-number = (omega arith, omega arith)

length-number : OfReading bad_length
length-number = (omega arith, omega arith)

lost-number : OfReading no_message_tlv
lost-number = (omega arith, omega arith)

by_byte : {A : Type 0} (P : A → Type 0) (t : Taken) (x : A) (f : ℕ → ℕ → List ℕ → A) → P x → ((b a : ℕ) (us : List ℕ) → P (f b a us)) → P (on_byte t x f)
by_byte P none x f p q = p
by_byte P (took b a us) x f p q = q b a us

by-test : {A : Type 0} (P : A → Type 0) (b : Bool) (x y : A) → P x → P y → P (cond b x y)
by-test P true x y p q = p
by-test P false x y p q = q

value-passing : (l : Length) → PassNumbered (pass_value l)
unfolding pass_value
value-passing bad = length-number
value-passing (len n us) = by-test PassNumbered (leb n (length us)) _ (stop bad_length) tt length-number

module _ (allowed : Area → Bool) where
  area-passing : (c : Control) (b0 b1 b2 : ℕ) (us : List ℕ) → PassNumbered (area_by allowed c b0 b1 b2 us)
  unfolding area_by
  area-passing c b0 b1 b2 us =
      by-test PassNumbered (reserved c b2) (stop bad_control_tlv) _ control-number
      (by-test PassNumbered (allowed (area_of c b0 b1 b2)) _ (stop bad_control_tlv) tt control-number)

  control-passing : (n : ℕ) (c : Control) (i us : List ℕ) → PassNumbered (control_by allowed n c i us)
  unfolding control_by
  control-passing n c i us =
      by-test PassNumbered (eqb n 3) (control_value allowed c i us) (stop bad_control_tlv)
      (by_byte PassNumbered (take_byte i us) (stop bad_length) _ length-number (λ b0 a0 vs.
      by_byte PassNumbered (take_byte i vs) (stop bad_length) _ length-number (λ b1 a1 ws.
      by_byte PassNumbered (take_byte i ws) (stop bad_length) _ length-number (λ b2 a2 xs. area-passing c b0 b1 b2 xs))))
      control-number

  kind-stepping : (k : Kind) (i : List ℕ) (a : ℕ) (us : List ℕ) → StepNumbered (step_at allowed k i a us)
  kind-stepping null i a us = tt
  kind-stepping (control c) i a us = by_byte PassNumbered (take_byte i us) (stop bad_length) _ length-number (λ n b vs. control-passing n c i vs)
  kind-stepping message i a us = tt
  kind-stepping terminator i a us = lost-number
  kind-stepping other i a us = value-passing (length_of i us)

  step-stepping : (i us : List ℕ) → StepNumbered (step allowed i us)
  step-stepping i us = by_byte StepNumbered (take_byte i us) (on (stop no_message_tlv)) _ lost-number (λ t a vs. kind-stepping (kind_of t) i a vs)

  finding : (fuel : ℕ) (i us : List ℕ) → FindNumbered (find allowed fuel i us)
  unfolding find
  finding zero i us = lost-number
  finding (suc fuel) i us = go (step allowed i us) (step-stepping i us) (finding fuel i)
    where
      go : (s : Step) → StepNumbered s → ((vs : List ℕ) → FindNumbered (find allowed fuel i vs))
          → FindNumbered (elim s [ on p ↦ elim p [ more vs ↦ find allowed fuel i vs | stop r ↦ lost r ] | hit a vs ↦ found a vs ])
      go (on (more vs)) h more_of = more_of vs
      go (on (stop r)) h more_of = h
      go (hit a vs) h more_of = tt

length-locating : (us : List ℕ) (l : Length) → LocatedNumbered (locate_by us l)
unfolding locate_by
length-locating us bad = length-number
length-locating us (len n vs) = by-test LocatedNumbered (leb n (length vs)) _ (refuse bad_length) tt length-number

found-locating : (i : List ℕ) (f : Found) → FindNumbered f → LocatedNumbered (locate_from i f)
found-locating i (lost r) h = h
found-locating i (found a us) h = length-locating us (length_of i us)

module _ (T : TlvTag) (L : TlvLaws T) where
  locating : (i : List ℕ) → LocatedNumbered (locate T i)
  unfolding locate
  locating i = go (first_of (T.checks i)) refl
    where
      go : (c : Checked) → first_of (T.checks i) ≡ c → LocatedNumbered (locate_after T i c)
      go fine e = found-locating i (message_tlv T.layout i) (finding (T.layout.allowed (length i)) (T.layout.size i) i _)
      go (fault r) e = first-among OfReading (T.checks i) (L.numbered i) r e

  pub numbered : (i : List ℕ) (r : ℕ) → reading T i ≡ unreadable r → OfReading r
  unfolding reading
  numbered i r e = go (locate T i) (locating i) e
    where
      go : (v : Located) → LocatedNumbered v → reading_of (T.writable i) i v ≡ unreadable r → OfReading r
      go (refuse s) h e = let q : s ≡ r = cc in subst OfReading q h
      go (located us ms) h e = absurd (nope (cc))
