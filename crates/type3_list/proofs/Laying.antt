-- A command as the code lays it: its opening and count, its block list, its block data.
-- Assumes nothing.
use mathlib.Core.Path.{◌≡◌, sym, ap, ◌∙◌}
use mathlib.Core.List.{List, [], ◌∷◌, ◌++◌, append_assoc}
use Prim.Native.Nat.{ℕ, ◌+◌, ◌-◌, ◌*◌, ◌≤◌}
use native.Mathlib.Omega.{arith}
use borrow.Rule.Slice.PartMut.{put_mid}
use lib.ListN.{length, take, drop, length-append, length-drop}
use lib.Seq.{drop-drop}
use Rattle.tag.proofs.Filling.{lay-more, lay-part}
use Rattle.type3.specs.Codec.{block_list_bytes, opening, command_bytes}
use Rattle.type3.proofs.Codec.{length-opening, length-block-list}

-- bytes laid after those laid at the front of a buffer
pub lay-next : (xs p t : List ℕ) (a : ℕ) → xs ≡ p ++ drop a t → length p ≡ a → (y : List ℕ) (k : ℕ) → put_mid a k xs y ≡ (p ++ y) ++ drop (a + k) t
lay-next xs p t a q e y k = ap (λ r. take a xs ++ (y ++ r)) (drop-drop k a xs) ∙ lay-more xs p t a q e y k

-- a command laid in three parts: its opening and count, its block list, its block data
module _ (idm bs t o z : List ℕ) (n : ℕ) (eight : length idm ≡ 8) (many : length bs ≡ n) (full : 13 + 18 * n ≤ length t)
    (begun : o ≡ (opening idm ++ (n ∷ [])) ++ drop 13 t) (listed : z ≡ block_list_bytes bs ++ drop (2 * n) (take (length o - 13) (drop 13 o))) where
  abbrev two : List ℕ
  two = put_mid 13 (length o - 13) o z

  abbrev front : List ℕ
  front = opening idm ++ (n ∷ [])

  thirteen : length front ≡ 13
  thirteen = omega (arith, length-append (opening idm) (n ∷ []), length-opening idm)

  as_long : length o ≡ length t
  as_long = ap length begun ∙ omega (arith, thirteen, length-append front (drop 13 t), length-drop 13 t)

  two-laid : two ≡ (front ++ block_list_bytes bs) ++ drop (13 + 2 * n) t
  two-laid = lay-part o front t 13 begun thirteen (block_list_bytes bs) z (length o) (2 * n) (omega (arith, as_long)) (omega arith) listed

  front-long : length (front ++ block_list_bytes bs) ≡ 13 + 2 * n
  front-long = omega (arith, thirteen, length-append front (block_list_bytes bs), length-block-list bs)

  two-long : length two ≡ length t
  two-long = ap length two-laid ∙ omega (arith, front-long, length-append (front ++ block_list_bytes bs) (drop (13 + 2 * n) t), length-drop (13 + 2 * n) t)

  whole : (bytes : List ℕ) → ((front ++ block_list_bytes bs) ++ bytes) ++ drop (13 + 2 * n + 16 * n) t ≡ command_bytes idm bs bytes ++ drop (13 + 18 * n) t
  whole bytes =
      let all : 13 + 2 * n + 16 * n ≡ 13 + 18 * n = omega arith in
      rw all (ap (λ k. ((((opening idm ++ (k ∷ [])) ++ block_list_bytes bs) ++ bytes) ++ drop (13 + 18 * n) t)) (sym many) ∙ simp append_assoc)

  -- the data copied, or put through the rest of the buffer
  pub lay-data : (bytes : List ℕ) → put_mid (13 + 2 * n) (16 * n) two bytes ≡ command_bytes idm bs bytes ++ drop (13 + 18 * n) t
  lay-data bytes = lay-next two (front ++ block_list_bytes bs) t (13 + 2 * n) two-laid front-long bytes (16 * n) ∙ whole bytes

  pub lay-command : (bytes y : List ℕ) → y ≡ bytes ++ drop (16 * n) (take (length two - (13 + 2 * n)) (drop (13 + 2 * n) two))
      → put_mid (13 + 2 * n) (length two - (13 + 2 * n)) two y ≡ command_bytes idm bs bytes ++ drop (13 + 18 * n) t
  lay-command bytes y put =
      lay-part two (front ++ block_list_bytes bs) t (13 + 2 * n) two-laid front-long bytes y (length two) (16 * n) (omega (arith, two-long)) (omega arith) put
      ∙ whole bytes
