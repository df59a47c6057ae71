-- What a command stores, block by block; and where a well-formed command's blocks lie.
-- Assumes nothing.
use mathlib.Core.Path.{◌≡◌, sym, ap, ◌∙◌}
use mathlib.Core.Bool.{true, ◌&&◌}
use mathlib.Core.List.{List, [], ◌∷◌, map}
use Prim.Native.Nat.{ℕ, suc, ◌+◌, ◌*◌, ◌/◌, ◌<◌, ◌≤◌}
use native.Mathlib.Omega.{arith}
use lib.Dec.{leb}
use lib.ListN.{length, get_or, take, drop, drop_of_length-le}
use lib.Seq.{drop-cons, drop-drop}
use Rattle.std.proofs.lemmas.List.{get_or-map, length-map}
use Rattle.tag.specs.Stores.{puts}
use Rattle.tag.proofs.Logic.{and_r}
use Rattle.type3.specs.Update.{blocks_per_command}
use Rattle.type3.specs.Codec.{listable, decoded, decode, stores_of}
use Rattle.type3.proofs.Codec.{encode_decode}
use Rattle.type3_commands.specs.Views.InPlace.{number}
use Rattle.type3_commands.proofs.BlockLists.{listable-each}
use Rattle.std.proofs.lemmas.List.Edits.{sets}

-- one turn of storing
pub stored-next : (image : List ℕ) (elements : List (List ℕ)) (bytes : List ℕ) (k : ℕ) → k < length elements
    → puts image (stores_of (map number (drop k elements)) (drop (16 * k) bytes))
    ≡ puts (sets image (16 * number (get_or elements k [])) (take 16 (drop (16 * k) bytes))) (stores_of (map number (drop (k + 1) elements)) (drop (16 * (k + 1)) bytes))
stored-next image elements bytes k h =
    let further : drop 16 (drop (16 * k) bytes) ≡ drop (16 * (k + 1)) bytes = drop-drop 16 (16 * k) bytes ∙ ap (λ n. drop n bytes) next in
    ap (λ es. puts image (stores_of (map number es) (drop (16 * k) bytes))) (drop-cons elements k [] h ∙ ap (λ m. get_or elements k [] ∷ drop m elements) (sym one))
    ∙ ap (λ b. puts (sets image (16 * number (get_or elements k [])) (take 16 (drop (16 * k) bytes))) (stores_of (map number (drop (k + 1) elements)) b)) further
  where
    next : 16 * k + 16 ≡ 16 * (k + 1)
    next = omega arith

    one : k + 1 ≡ suc k
    one = omega arith

pub stored-all : (image : List ℕ) (elements : List (List ℕ)) (bytes : List ℕ) (k : ℕ) → length elements ≤ k
    → puts image (stores_of (map number (drop k elements)) bytes) ≡ image
stored-all image elements bytes k h = rw (drop_of_length-le elements h)

-- a well-formed command's blocks lie in an image that has blocks 0 to Nmaxb
pub listed-inside : (idm : List ℕ) (nbw nmaxb : ℕ) (all : List ℕ) (elements : List (List ℕ)) (bytes : List ℕ) (n : ℕ)
    → decoded (map number elements) bytes ≡ decode idm nbw nmaxb all → nmaxb < n / 16
    → (k : ℕ) → k < length elements → 16 * number (get_or elements k []) + 16 ≤ n
listed-inside idm nbw nmaxb all elements bytes n e h k l =
    let ns = map number elements in
    let many : length ns ≡ length elements = length-map elements number in
    let listed : listable nmaxb ns ≡ true
    = and_r (leb 1 (length ns) && leb (length ns) (blocks_per_command nbw)) (listable nmaxb ns) (encode_decode idm nbw nmaxb all ns bytes (sym e)).0 in
    omega (arith, (listable-each nmaxb ns listed k (omega (arith, many))).0, get_or-map number elements k [] 0 l)
