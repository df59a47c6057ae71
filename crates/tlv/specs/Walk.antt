-- The walk over the TLVs of a data area. Its state, the place reached, is the list of the usable addresses still to come: taking a
-- byte takes the first of them, a control TLV takes out those that its area covers, and a TLV that is passed over takes away those
-- of its length and value. So an area counts from the byte after its TLV on, even in the middle of a length.
-- Assumes nothing.
use Rattle.std.specs.Prelude.{Bool, cond, List, [], ◌∷◌, ℕ, zero, suc, ◌+◌, ◌*◌, leb, eqb, length, drop}
use Rattle.tag.specs.Bytes.{byte, run}
use Rattle.tag.specs.Refusals.{bad_control_tlv, bad_length, no_message_tlv}
use Rattle.tlv.specs.Areas.{Control, lock, memory, Area, without, reserved, area_of}

-- a byte taken: its value, its address, and the usable addresses after it; or none is left
pub data Taken : Type 0 where
  none : Taken
  took : ℕ → ℕ → List ℕ → Taken

abbrev pub take_byte : List ℕ → List ℕ → Taken
take_byte i [] = none
take_byte i (a ∷ us) = took (byte i a) a us

-- what a byte decides, and what is answered if none is left
abbrev pub on_byte : {A : Type 0} → Taken → A → (ℕ → ℕ → List ℕ → A) → A
on_byte none x f = x
on_byte (took b a us) x f = f b a us

-- a length field: its number, and the usable addresses after it
pub data Length : Type 0 where
  bad : Length
  len : ℕ → List ℕ → Length

-- three bytes: FFh, then 255 to 65,534
unfoldable pub long_by : ℕ → List ℕ → Length
long_by n us = cond (leb 255 n) (cond (leb n 65534) (len n us) bad) bad

-- the two bytes after FFh, high first
abbrev pub long_of : List ℕ → List ℕ → Length
long_of i us = on_byte (take_byte i us) bad (λ h _ vs. on_byte (take_byte i vs) bad (λ l _ ws. long_by (256 * h + l) ws))

-- one byte 00h to FEh, or three
unfoldable pub length_by : ℕ → List ℕ → List ℕ → Length
length_by n i us = cond (leb n 254) (len n us) (long_of i us)

abbrev pub length_of : List ℕ → List ℕ → Length
length_of i us = on_byte (take_byte i us) bad (λ n _ vs. length_by n i vs)

-- a TLV passed: the usable addresses left, or a refusal
pub data Passed : Type 0 where
  more : List ℕ → Passed
  stop : ℕ → Passed

-- the value passed over
unfoldable pub pass_value : Length → Passed
pass_value bad = stop bad_length
pass_value (len n us) = cond (leb n (length us)) (more (drop n us)) (stop bad_length)

pub data Kind : Type 0 where
  null message terminator other : Kind
  control : Control → Kind

abbrev pub kind_of : ℕ → Kind
kind_of t =
    cond (eqb t 0x00) null
    (cond (eqb t 0x01) (control lock)
    (cond (eqb t 0x02) (control memory)
    (cond (eqb t 0x03) message
    (cond (eqb t 0xFE) terminator other))))

-- a step of the walk: a TLV passed, or the message TLV, by its type byte's address and the usable addresses after it
pub data Step : Type 0 where
  on : Passed → Step
  hit : ℕ → List ℕ → Step

pub data Found : Type 0 where
  lost : ℕ → Found
  found : ℕ → List ℕ → Found

-- allowed is the rule that says which areas may be declared
module _ (allowed : Area → Bool) where
  -- a control TLV's value, once its three bytes are taken
  unfoldable pub area_by : Control → ℕ → ℕ → ℕ → List ℕ → Passed
  area_by c b0 b1 b2 us =
      cond (reserved c b2) (stop bad_control_tlv)
      (cond (allowed (area_of c b0 b1 b2)) (more (without (area_of c b0 b1 b2) us)) (stop bad_control_tlv))

  abbrev pub control_value : Control → List ℕ → List ℕ → Passed
  control_value c i us =
      on_byte (take_byte i us) (stop bad_length) (λ b0 _ vs.
      on_byte (take_byte i vs) (stop bad_length) (λ b1 _ ws.
      on_byte (take_byte i ws) (stop bad_length) (λ b2 _ xs. area_by c b0 b1 b2 xs)))

  -- its length byte: 3 and nothing else
  unfoldable pub control_by : ℕ → Control → List ℕ → List ℕ → Passed
  control_by n c i us = cond (eqb n 3) (control_value c i us) (stop bad_control_tlv)

  abbrev pub pass_control : Control → List ℕ → List ℕ → Passed
  pass_control c i us = on_byte (take_byte i us) (stop bad_length) (λ n _ vs. control_by n c i vs)

  -- a TLV of this kind whose type byte is at a
  abbrev pub step_at : Kind → List ℕ → ℕ → List ℕ → Step
  step_at null i a us = on (more us)
  step_at (control c) i a us = on (pass_control c i us)
  step_at message i a us = hit a us
  step_at terminator i a us = on (stop no_message_tlv)
  step_at other i a us = on (pass_value (length_of i us))

  abbrev pub step : List ℕ → List ℕ → Step
  step i us = on_byte (take_byte i us) (on (stop no_message_tlv)) (λ t a vs. step_at (kind_of t) i a vs)

  -- the walk. Each step takes a byte, so as much fuel as there are usable addresses is enough.
  unfoldable pub find : ℕ → List ℕ → List ℕ → Found
  find zero i us = lost no_message_tlv
  find (suc fuel) i us =
      elim (step i us) [
        | on p ↦ elim p [ more vs ↦ find fuel i vs | stop r ↦ lost r ]
        | hit a vs ↦ found a vs
      ]

-- where a type of tag has its data area
pub record Layout : Type 0 where
  -- the data area's first address, and its size in bytes
  pub first : ℕ
  pub size : List ℕ → ℕ
  -- which areas may be declared in an image of a given length
  pub allowed : ℕ → Area → Bool

abbrev pub message_tlv : Layout → List ℕ → Found
message_tlv L i = find (L.allowed (length i)) (L.size i) i (run L.first (L.size i))
