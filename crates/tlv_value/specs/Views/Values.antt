-- What the code does with the usable bytes from a walk's place on, as the definitions have it.
-- Assumes nothing.
use Rattle.std.specs.Prelude.{Bool, not, cond, List, ℕ, ◌<◌, ◌≤◌, leb, length, get_or, take, Option, Some, None}
use Rattle.tag.specs.Bytes.{consecutive}
use Rattle.tlv_value.specs.declared.value.Value as code

-- a value of n bytes, n at least 1: short if fewer usable bytes are left, else its first address and whether it is interrupted
pub data Value : Type 0 where
  short : Value
  at : ℕ → Bool → Value

unfoldable pub measured : ℕ → List ℕ → Value
measured n us = cond (leb n (length us)) (at (get_or us 0 0) (not (consecutive (take n us)))) short

abbrev pub value_as : Option code.Value → Value
value_as None = short
value_as (Some v) = at v.address.0 v.interrupted

-- whether n bytes are left, as a bound
abbrev pub ValueRoom : ℕ → List ℕ → Option code.Value → Type 0
ValueRoom n us None = length us < n
ValueRoom n us (Some v) = n ≤ length us
