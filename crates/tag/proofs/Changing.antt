-- No command of a list but the last leaves the tag as it was. When the command of a block between the guard block's two comes, the
-- block still has the bytes of the tag handed in, and its new bytes differ from those.
-- Assumes nothing.
use mathlib.Core.Path.{◌≡◌, refl, sym, ap, ◌∙◌}
use mathlib.Core.Bool.{Bool, true, false, not}
use mathlib.Core.Logic.{inl, inr, ⊎_elim}
use mathlib.Core.List.{List, [], ◌∷◌, ◌++◌, map, map-append}
use Prim.Native.Nat.{ℕ, zero, suc, ◌+◌, ◌-◌, ◌*◌, ◌/◌, ◌<◌, ◌≤◌}
use native.Mathlib.Nat.{mul-le-mul_left}
use native.Mathlib.Omega.{arith}
use borrow.Author.Tests.{eqb-false, not-true}
use lib.Dec.{eqb}
use lib.ListN.{length, take, drop, length-append, length-map, length-take}
use lib.Seq.{length-sets, get_or-take, take-nil}
use Rattle.tag.specs.Bytes.{byte}
use Rattle.tag.specs.Stores.{Store, Command, stores, put, puts, cut}
use Rattle.tag.specs.Plan.{Plan, new_image, block_of, is_there, between, picks, chunk, first_store, last_store, middle, list}
use Rattle.tag.specs.Views.Picked.{picked}
use Rattle.tag.proofs.Logic.{and_l, and_r, true-false}
use Rattle.tag.proofs.Each.{Each}
use Rattle.tag.proofs.Images.{length-overlay}
use Rattle.tag.proofs.Runs.{map-take}
use Rattle.tag.proofs.Guarded.{PartOf, put-cases, runs, Some, new-puts}
use Rattle.tag.proofs.Chunks.{rounded-up, length-chunk}
use Rattle.tag.proofs.Blocks.{in_block, Blockwise, in-block, one_block, block-part, block_in}
use Rattle.tag.proofs.Picks.{picked-in, picked-rises, picks-picked}
use Rattle.tag.proofs.There.{new-there}

-- ---- the byte at an address after some blocks of the image n are stored

module _ (z : ℕ) (n : List ℕ) where
  abbrev blocks : List ℕ → List Store
  blocks bs = map (block_of z n) bs

  -- blocks that lie in the image
  abbrev Inside : List ℕ → Type 0
  Inside bs = (k : ℕ) → k < length bs → z * byte bs k + z ≤ length n

  stored-length : (j : List ℕ) (b : ℕ) → length (put j (block_of z n b)) ≡ length j
  stored-length j b = length-sets j (z * b) (take z (drop (z * b) n))

  -- outside the blocks it is kept
  outside : (bs j : List ℕ) (a : ℕ) → a < length j → Inside bs → ((k : ℕ) → k < length bs → in_block z (byte bs k) a ≡ true → ⊥)
      → byte (puts j (blocks bs)) a ≡ byte j a
  outside [] j a l r h = refl
  outside (b ∷ bs) j a l r h =
      outside bs (put j (block_of z n b)) a (omega (arith, stored-length j b)) (λ k u. r (suc k) (omega arith)) (λ k u. h (suc k) (omega arith))
      ∙ ⊎_elim (λ c. absurd (h 0 (omega arith) ((block_in z n b a (r 0 (omega arith))).0 c.0))) (λ c. c.1)
      (put-cases n j (block_of z n b) a (block-part z n b (r 0 (omega arith))) l)

  -- inside one of them it is new
  parts : (bs : List ℕ) → Inside bs → Each (PartOf n) (blocks bs)
  parts [] r = tt
  parts (b ∷ bs) r = (block-part z n b (r 0 (omega arith)), parts bs (λ k u. r (suc k) (omega arith)))

  some : (bs : List ℕ) (a k : ℕ) → Inside bs → k < length bs → in_block z (byte bs k) a ≡ true → Some a (blocks bs)
  some [] a k r h e = absurd (omega arith)
  some (b ∷ bs) a zero r h e = inl ((block_in z n b a (r 0 (omega arith))).1 e)
  some (b ∷ bs) a (suc k) r h e = inr (some bs a k (λ k u. r (suc k) (omega arith)) (omega arith) e)

  within : (bs j : List ℕ) (a k : ℕ) → a < length j → Inside bs → k < length bs → in_block z (byte bs k) a ≡ true → byte (puts j (blocks bs)) a ≡ byte n a
  within bs j a k l r h e = new-puts n (blocks bs) j a l (parts bs r) (inl (some bs a k r h e))

-- ---- the tag after some of the commands

puts-append : (xs ys : List Store) (j : List ℕ) → puts j (xs ++ ys) ≡ puts (puts j xs) ys
puts-append [] ys j = refl
puts-append (s ∷ xs) ys j = puts-append xs ys (put j s)

take_more : (a b : ℕ) (xs : List Store) → take (a + b) xs ≡ take a xs ++ take b (drop a xs)
take_more zero b xs = let e : 0 + b ≡ b = omega arith in rw e
take_more (suc a) b [] = let e : suc a + b ≡ suc (a + b) = omega arith in rw e (sym (take-nil b))
take_more (suc a) b (x ∷ xs) =
    let e : suc a + b ≡ suc (a + b) = omega arith in
    rw e (ap (λ r. x ∷ r) (take_more a b xs))

runs-chunk : (w c l : ℕ) (ss : List Store) (j : List ℕ) → l ≤ c → runs j (take l (chunk w c ss)) ≡ puts j (take (w * l) ss)
runs-chunk w c zero ss j h = let e : w * 0 ≡ 0 = omega arith in rw e
runs-chunk w zero (suc l) ss j h = absurd (omega arith)
runs-chunk w (suc c) (suc l) ss j h =
    let e : w * suc l ≡ w + w * l = omega arith in
    runs-chunk w c l (drop w ss) (puts j (take w ss)) (omega arith)
    ∙ sym (puts-append (take w ss) (take (w * l) (drop w ss)) j)
    ∙ ap (puts j) (sym (take_more w (w * l) ss))
    ∙ ap (λ k. puts j (take k ss)) (sym e)

cut_at : (l : ℕ) (sss : List (List Store)) (j : List ℕ) (cs : List Command) → l ≤ length sss → cut l j (map stores sss ++ cs) ≡ runs j (take l sss)
cut_at zero sss j cs h = refl
cut_at (suc l) [] j cs h = absurd (omega arith)
cut_at (suc l) (ss ∷ sss) j cs h = cut_at l sss (puts j ss) cs (omega arith)

-- numbers that rise from place to place
rises : (bs : List ℕ) → ((k : ℕ) → k + 1 < length bs → byte bs k < byte bs (k + 1)) → (k d : ℕ) → k + d + 1 < length bs → byte bs k < byte bs (k + d + 1)
rises bs h k zero l = let e : k + 0 + 1 ≡ k + 1 = omega arith in rw e (h k (omega arith))
rises bs h k (suc d) l =
    let e : k + suc d + 1 ≡ k + d + 1 + 1 = omega arith in
    rw e (omega (arith, rises bs h k d (omega arith), h (k + d + 1) (omega arith)))

-- ---- the list

module _ (p : Plan) (i : List ℕ) (w : Blockwise p i) where
  abbrev z : ℕ
  z = p.block_size

  abbrev new : List ℕ
  new = new_image p i

  -- the blocks between
  abbrev bs : List ℕ
  bs = picked (between p i) 0 (length i / p.block_size)

  new-long : length new ≡ length i
  new-long = length-overlay p.addresses p.values i

  room : (b : ℕ) → b < length i / z → z * b + z ≤ length new
  room b l = let h : z * suc b ≤ z * (length i / z) = mul-le-mul_left z l in omega (arith, w.whole, new-long)

  -- some of them, from the front
  front_at : (m k : ℕ) → k < m → byte (take m bs) k ≡ byte bs k
  front_at m k l = get_or-take m bs k 0 l

  front-inside : (m : ℕ) → Inside z new (take m bs)
  front-inside m k l =
      let long = length-take m bs in
      rw (front_at m k (omega arith)) (room (byte bs k) (omega (arith, (picked-in (between p i) (length i / z) 0 k (omega arith)).1)))

  module _ (j : List ℕ) (long : length j ≡ length i) (off : (a : ℕ) → a < length i → in_block z p.guard a ≡ false → byte j a ≡ byte i a) where
    -- place k of the blocks between, with m the first place after its command
    module _ (k m : ℕ) (here : k < length bs) (later : k < m) where
      known : (byte bs k < length i / z) × (between p i (byte bs k) ≡ true)
      known = let h = picked-in (between p i) (length i / z) 0 k here in (omega (arith, h.1), h.2)

      beside : (a : ℕ) → in_block z (byte bs k) a ≡ true → in_block z p.guard a ≡ false
      beside a q = go (in_block z p.guard a) refl
        where
          go : (c : Bool) → in_block z p.guard a ≡ c → in_block z p.guard a ≡ false
          go false r = r
          go true r =
              absurd (eqb-false (byte bs k) p.guard (not-true (eqb (byte bs k) p.guard) (and_l _ (not (is_there z i new (byte bs k))) known.1))
              (one_block z (byte bs k) p.guard a q r))

      inside : (a : ℕ) → in_block z (byte bs k) a ≡ true → a < length j
      inside a q = omega (arith, ((in-block z (byte bs k) a).0 q).1, room (byte bs k) known.0, new-long, long)

      -- before its command the block has its old bytes
      still-old : (a : ℕ) → in_block z (byte bs k) a ≡ true → byte (puts j (blocks z new (take k bs))) a ≡ byte i a
      still-old a q =
          outside z new (take k bs) j a (inside a q) (front-inside k) lower
          ∙ off a (omega (arith, inside a q, long)) (beside a q)
        where
          lower : (l : ℕ) → l < length (take k bs) → in_block z (byte (take k bs) l) a ≡ true → ⊥
          lower l u r =
              let few : l < k = omega (arith, u, length-take k bs) in
              let e : l + (k - l - 1) + 1 ≡ k = omega arith in
              let less : byte bs l < byte bs k = rw e at (rises bs (picked-rises (between p i) (length i / z) 0) l (k - l - 1) (omega arith)) in
              let same : byte bs l ≡ byte bs k = one_block z (byte bs l) (byte bs k) a (rw (front_at k l few) at r) q in
              omega arith

      -- and after it the new ones
      then-new : (a : ℕ) → in_block z (byte bs k) a ≡ true → byte (puts j (blocks z new (take m bs))) a ≡ byte new a
      then-new a q = within z new (take m bs) j a k (inside a q) (front-inside m) (omega (arith, length-take m bs)) (rw (front_at m k later) q)

      -- so it changes the tag
      changed : puts j (blocks z new (take m bs)) ≡ puts j (blocks z new (take k bs)) → ⊥
      changed e =
          true-false
          (new-there z (byte bs k) i new new-long (λ a q. sym (still-old a q) ∙ ap (λ x. byte x a) (sym e) ∙ then-new a q))
          (not-true (is_there z i new (byte bs k)) (and_r (not (eqb (byte bs k) p.guard)) (not (is_there z i new (byte bs k))) known.1))

    -- the commands between
    ss : List Store
    ss = picks (between p i) z new 0 (length i / z)

    are : ss ≡ blocks z new bs
    unfolding ss
    are = picks-picked (between p i) z new (length i / z) 0

    after : (l : ℕ) → l ≤ length (middle p i) → runs j (take l (middle p i)) ≡ puts j (blocks z new (take (p.width * l) bs))
    unfolding ss
    after l h =
        runs-chunk p.width ((length ss + (p.width - 1)) / p.width) l ss j
        (omega (arith, h, length-chunk p.width ((length ss + (p.width - 1)) / p.width) ss))
        ∙ ap (λ x. puts j (take (p.width * l) x)) are
        ∙ ap (puts j) (map-take (block_of z new) (p.width * l) bs)

    place : (l : ℕ) → l < length (middle p i) → p.width * l < length bs
    unfolding ss
    place l h =
        let c = (length ss + (p.width - 1)) / p.width in
        let few : suc l ≤ c = omega (arith, h, length-chunk p.width c ss) in
        let step : p.width * suc l ≤ p.width * c = mul-le-mul_left p.width few in
        let many : length ss ≡ length bs = ap length are ∙ length-map bs (block_of z new) in
        omega (arith, (rounded-up p.width (length ss) w.some_width).1)

    middle-changes : (l : ℕ) → l < length (middle p i) → runs j (take (suc l) (middle p i)) ≡ runs j (take l (middle p i)) → ⊥
    middle-changes l h e =
        changed (p.width * l) (p.width * suc l) (place l h) (omega (arith, w.some_width))
        (sym (after (suc l) h) ∙ e ∙ after l (omega arith))

    -- cuts of the commands between and the last
    abbrev rest : List Command
    rest = map stores (middle p i) ++ stores (last_store p i ∷ []) ∷ []

    rest-changes : (k : ℕ) → k < length (middle p i) → cut (suc k) j rest ≡ cut k j rest → ⊥
    rest-changes k h e =
        let last = stores (last_store p i ∷ []) ∷ [] in
        middle-changes k h (sym (cut_at (suc k) (middle p i) j last h) ∙ e ∙ cut_at k (middle p i) j last (omega arith))

  rest_is : map stores (middle p i ++ (last_store p i ∷ []) ∷ []) ≡ map stores (middle p i) ++ stores (last_store p i ∷ []) ∷ []
  rest_is = map-append stores (middle p i) ((last_store p i ∷ []) ∷ [])

  -- the tag with its guard block shut
  first_off : (a : ℕ) → a < length i → in_block z p.guard a ≡ false → byte (put i (first_store p)) a ≡ byte i a
  first_off a l q =
      let inside : z * p.guard + z ≤ length p.closed = omega (arith, room p.guard w.inside, new-long, w.closed-length) in
      ⊎_elim (λ c. absurd (true-false ((block_in z p.closed p.guard a inside).0 c.0) q)) (λ c. c.1)
      (put-cases p.closed i (first_store p) a (block-part z p.closed p.guard inside) l)

  -- no command but the last leaves the tag as it was, if the first, where it stays, does not
  pub list-changes : (p.is_shut ≡ false → put i (first_store p) ≡ i → ⊥)
      → (k : ℕ) → suc k < length (list p i) → cut (suc k) i (map stores (list p i)) ≡ cut k i (map stores (list p i)) → ⊥
  list-changes opens k l e = go p.is_shut refl k l e
    where
      go : (c : Bool) → p.is_shut ≡ c → (k : ℕ) → suc k < length (list p i) → cut (suc k) i (map stores (list p i)) ≡ cut k i (map stores (list p i)) → ⊥
      go true q k l e =
          rest-changes i refl (λ a u r. refl) k (omega (arith, rw q at l, length-append (middle p i) ((last_store p i ∷ []) ∷ []))) (rw (q, rest_is) at e)
      go false q zero l e = opens q (rw q at e)
      go false q (suc k) l e =
          rest-changes (put i (first_store p)) (length-sets i (z * p.guard) (take z (drop (z * p.guard) p.closed))) first_off k
          (omega (arith, rw q at l, length-append (middle p i) ((last_store p i ∷ []) ∷ []))) (rw (q, rest_is) at e)
