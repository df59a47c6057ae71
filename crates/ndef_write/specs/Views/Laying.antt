-- What laying records into a buffer asks and does.
-- Assumes nothing.
use Rattle.std.specs.Prelude.{◌≡◌, true, List, ℕ, ◌+◌, ◌<◌, ◌≤◌, ◌^◌, length}
use Rattle.std.proofs.lemmas.List.Edits.{sets}
use Rattle.ndef.specs.declared.Place.{Place}
use Rattle.ndef.specs.Shortest.{message_bytes}
use Rattle.ndef_write.specs.Views.Sizes.{named, is_list_of}

-- xs stand in the buffer from `at` on, and end at r
pub record PutAt (before after : List ℕ) (at : ℕ) (xs : List ℕ) (r : ℕ) : Type 0 where
  pub stored : after ≡ sets before at xs
  pub behind : r ≡ at + length xs

-- a place that names, in `size` bytes, a record that can be written
pub record Lays (size : ℕ) (p : Place) : Type 0 where
  pub tnf_small : p.tnf < 6
  pub type_small : p.rtype.len < 256
  pub id_small : p.id.len < 256
  pub payload_small : p.payload.len < 2 ^ 32
  pub type_inside : p.rtype.at + p.rtype.len ≤ size
  pub id_inside : p.id.at + p.id.len ≤ size
  pub payload_inside : p.payload.at + p.payload.len ≤ size

-- rows whose records can be written, and whose message fits in `room` bytes
pub record Fits (bytes : List ℕ) (rows : List (List ℕ)) (room : ℕ) : Type 0 where
  pub given : is_list_of bytes rows ≡ true
  pub enough : length (message_bytes 1 (named bytes rows)) ≤ room
