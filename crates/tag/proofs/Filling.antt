-- A buffer that is filled from its front. It holds the bytes written so far, then what was there at first. More bytes are added at
-- once, or through a part of the buffer that another function fills at its front.
-- Assumes nothing.
use mathlib.Core.Path.{◌≡◌, sym, ap, ◌∙◌}
use mathlib.Core.List.{List, ◌++◌, append-nil, append_assoc}
use Prim.Native.Nat.{ℕ, ◌+◌, ◌-◌, ◌≤◌}
use native.Mathlib.Omega.{arith}
use borrow.Rule.Slice.PartMut.{put_mid}
use lib.ListN.{length, take, drop, length-append, length-take, length-drop, take-append-drop, drop_of_length-le}
use lib.Seq.{take-length, take_at, drop_at, drop-drop, drop-append-le}

-- ---- a part that another function fills

-- a list is cut at m; its front without the first k, joined with its back, is the list without its first k
rejoin : (k m : ℕ) (l : List ℕ) → k ≤ m → m ≤ length l → drop k (take m l) ++ drop m l ≡ drop k l
rejoin k m l h g =
    let e : k ≤ length (take m l) = simp length-take (omega arith) in
    sym (drop-append-le k (take m l) (drop m l) e) ∙ ap (drop k) (take-append-drop m l)

-- the part from a to e has become z: y for its first k bytes, the rest as it was
pub lent : (xs y z : List ℕ) (a e k : ℕ) → a + k ≤ e → e ≤ length xs → z ≡ y ++ drop k (take (e - a) (drop a xs))
    → put_mid a (e - a) xs z ≡ take a xs ++ (y ++ drop (a + k) xs)
lent xs y z a e k h g q =
    let f : k ≤ e - a = omega arith in
    let s : e - a ≤ length (drop a xs) = simp length-drop (omega arith) in
    rw (q, append_assoc, rejoin k (e - a) (drop a xs) f s, drop-drop k a xs)

-- ---- xs has p laid over t

module _ (xs p t : List ℕ) (a : ℕ) (laid : xs ≡ p ++ drop a t) (far : length p ≡ a) where
  -- with k more bytes, y
  pub lay-more : (y : List ℕ) (k : ℕ) → take a xs ++ (y ++ drop (a + k) xs) ≡ (p ++ y) ++ drop (a + k) t
  lay-more y k =
      rw (laid, take_at p (drop a t) a far, ← drop-drop k a (p ++ drop a t), drop_at p (drop a t) a far, drop-drop k a t, append_assoc)

  -- the same, through the part from a to e
  pub lay-part : (y z : List ℕ) (e k : ℕ) → a + k ≤ e → e ≤ length xs
      → z ≡ y ++ drop k (take (e - a) (drop a xs)) → put_mid a (e - a) xs z ≡ (p ++ y) ++ drop (a + k) t
  lay-part y z e k h g r = lent xs y z a e k h g r ∙ lay-more y k

-- ---- all of a buffer

-- a list copied over another of the same length
pub copied : (xs ys : List ℕ) → length ys ≡ length xs → take (length xs) xs ++ drop (length xs) ys ≡ xs
copied xs ys e =
    let h : length ys ≤ length xs = omega arith in
    rw (take-length xs, drop_of_length-le ys h) (append-nil xs)

-- ---- three parts

-- the first laid at the front, the other two through parts of the buffer
module _ (list first x y part : List ℕ) (a b c : ℕ) (begun : first ≡ x ++ drop a list) (as_long : length first ≡ length list)
    (x-long : length x ≡ a) (y-long : length y ≡ b) (room : a + b + c ≤ length list)
    (second : part ≡ y ++ drop b (take (length first - a) (drop a first))) where
  abbrev two : List ℕ
  two = put_mid a (length first - a) first part

  two-laid : two ≡ (x ++ y) ++ drop (a + b) list
  two-laid = lay-part first x list a begun x-long y part (length first) b (omega arith) (omega arith) second

  two-long : length two ≡ length list
  two-long = ap length two-laid ∙ length-append (x ++ y) (drop (a + b) list) ∙ omega (arith, length-append x y, length-drop (a + b) list)

  pub three-laid : (z w : List ℕ) → w ≡ z ++ drop c (take (length two - (a + b)) (drop (a + b) two))
      → put_mid (a + b) (length two - (a + b)) two w ≡ (x ++ (y ++ z)) ++ drop (a + b + c) list
  three-laid z w third =
      lay-part two (x ++ y) list (a + b) two-laid (length-append x y ∙ omega arith) z w (length two) c (omega (arith, two-long)) (omega arith) third
      ∙ ap (λ bytes. bytes ++ drop (a + b + c) list) (append_assoc x y z)
