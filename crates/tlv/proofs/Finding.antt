-- The code's steps to the message TLV against the definitions' steps.
-- Assumes nothing.
use mathlib.Core.Path.{◌≡◌, sym, ap}
use mathlib.Core.Bool.{Bool}
use mathlib.Core.List.{List}
use Prim.Native.Nat.{ℕ, ◌+◌, ◌-◌, ◌≤◌}
use native.Mathlib.Omega.{arith}
use lib.ListN.{length, replicate}
use Rattle.tag.specs.Bytes.{run}
use Rattle.tlv.specs.declared.walk.Walk.{Walk}
use Rattle.tlv.specs.Areas.{Area}
use Rattle.tag.specs.Refusals.{no_message_tlv}
use Rattle.tlv.specs.Walk.{none, took, take_byte, on_byte, stop, kind_of, on, step_at, step, find}
use Rattle.tlv.specs.Views.Walks.{ahead, Onward, Walked}
use Rattle.tlv.proofs.Skipping.{unskipped-few, unskipped-all}
use Rattle.tlv.proofs.Steps.{onward}

-- ---- a step, by the type byte taken

pub stepped : (allowed : Area → Bool) (i us vs : List ℕ) (b a : ℕ) → took b a vs ≡ take_byte i us → step allowed i us ≡ step_at allowed (kind_of b) i a vs
stepped allowed i us vs b a e = ap (λ k. on_byte k (on (stop no_message_tlv)) (λ t x ws. step_at allowed (kind_of t) i x ws)) (sym e)

pub no-step : (allowed : Area → Bool) (i us : List ℕ) → none ≡ take_byte i us → step allowed i us ≡ on (stop no_message_tlv)
no-step allowed i us e = ap (λ k. on_byte k (on (stop no_message_tlv)) (λ t x ws. step_at allowed (kind_of t) i x ws)) (sym e)

-- ---- the steps so far

pub walked_on : {s t x : List ℕ} {u v w : Walk} → Walked s t u v → Walked t x v w → Walked s x u w
walked_on p q = (_, onward p.1 q.1)

-- ---- fuel

-- what is still to come is no more than there was
pub fuel-enough : {s t : List ℕ} {n : ℕ} {v w : Walk} → Onward s t n v w → length (ahead t w) ≤ v.end.0 - v.at.0
fuel-enough {s} {t} {n} {v} {w} p = omega (arith, unskipped-few t w.at.0 (w.end.0 - w.at.0), p.farther, p.same_end)

-- ---- the walk from the start of the data area, with nothing skipped yet

ahead-all : (m : ℕ) (w : Walk) → ahead (replicate m 0) w ≡ run w.at.0 (w.end.0 - w.at.0)
ahead-all m w = unskipped-all m w.at.0 (w.end.0 - w.at.0)

pub find-all : (allowed : Area → Bool) (m : ℕ) (i : List ℕ) (w : Walk) (first size : ℕ) → w.at.0 ≡ first → w.end.0 ≡ first + size
    → find allowed (w.end.0 - w.at.0) i (ahead (replicate m 0) w) ≡ find allowed size i (run first size)
find-all allowed m i w first size e f =
    let n : w.end.0 - w.at.0 ≡ size = omega arith in
    rw (ahead-all m w, n, e)
