-- The length field as writing sets it. What is set at rising addresses with room reads back as the length and the message. If a
-- length reads back with as many bytes after it, the capacity says that there is room. The capacity is 01's fit.
-- Assumes nothing.
use mathlib.Core.Path.{◌≡◌, refl, ◌∙◌}
use mathlib.Core.Bool.{Bool, true, false}
use mathlib.Core.Logic.{inl, inr, ⊎_elim}
use mathlib.Core.List.{List, [], ◌∷◌, ◌++◌, map}
use Prim.Native.Nat.{ℕ, ◌+◌, ◌-◌, ◌*◌, ◌/◌, ◌%◌, ◌<◌, ◌≤◌}
use native.Mathlib.Omega.{arith}
use native.Mathlib.Decide.{dec_lt}
use borrow.Author.Tests.{leb-true, leb-false, le-leb, lt-leb, lt-ltb, le-ltb, eq-eqb}
use lib.Dec.{leb, eqb}
use lib.ListN.{length, set, take, length-set}
use lib.Seq.{get_or-set_same, get_or-set_other}
use Rattle.tag.specs.Bytes.{byte, overlay, is_set}
use Rattle.tag.proofs.Logic.{or_l}
use Rattle.tag.proofs.Images.{length-overlay}
use Rattle.tag.proofs.Addresses.{Above, above-less, above-hi, above-take, above-length, map-out, overlay-reads}
use Rattle.tlv.specs.Walk.{len, long_by, length_by, length_of}
use Rattle.tlv.proofs.Sizes.{Sized, length-size}
use Rattle.tlv_tag.specs.Message.{capacity_in}
use Rattle.tlv_tag.specs.Update.{FitsIn, length_field, tlv_bytes, length_at}

-- ---- room

-- the three cases of the capacity
pub capacity-below : (u : ℕ) → u < 255 → capacity_in u ≡ u - 1
unfolding capacity_in
capacity-below u l = rw (lt-ltb u 255 l)

pub capacity-between : (u : ℕ) → 255 ≤ u → u ≤ 257 → capacity_in u ≡ 254
unfolding capacity_in
capacity-between u l h = rw (le-ltb u 255 l, le-leb u 257 h)

pub capacity-above : (u : ℕ) → 257 < u → capacity_in u ≡ u - 3
unfolding capacity_in
capacity-above u l = rw (le-ltb u 255 (omega arith), lt-leb u 257 l)

-- 01's words: a length that fits is at most the capacity
pub fits-capacity : (u n : ℕ) → FitsIn u n → n ≤ capacity_in u
fits-capacity u n f = go (dec_lt u 255) (dec_lt 257 u)
  where
    go : Dec (u < 255) → Dec (257 < u) → n ≤ capacity_in u
    go (yes l) d = ⊎_elim (λ c. omega (arith, c.1, capacity-below u l)) (λ c. absurd (omega (arith, c.0, c.1))) f
    go (no l) (yes h) = ⊎_elim (λ c. omega (arith, c.0, capacity-above u h)) (λ c. omega (arith, c.1, capacity-above u h)) f
    go (no l) (no h) =
        let e : capacity_in u ≡ 254 = capacity-between u (omega arith) (omega arith) in
        ⊎_elim (λ c. omega (arith, c.0)) (λ c. absurd (omega (arith, c.0, c.1))) f

-- and one that is at most the capacity fits; without a usable byte not even length 0 does
pub capacity-fits : (u n : ℕ) → 0 < u + n → n ≤ capacity_in u → FitsIn u n
capacity-fits u n s l = go (dec_lt u 255) (dec_lt 257 u) (dec_lt 254 n)
  where
    go : Dec (u < 255) → Dec (257 < u) → Dec (254 < n) → FitsIn u n
    go (yes h) d (yes b) = absurd (omega (arith, capacity-below u h))
    go (yes h) d (no b) = inl (omega arith, omega (arith, capacity-below u h))
    go (no h) (yes k) (yes b) = inr (omega arith, omega (arith, capacity-above u k))
    go (no h) (yes k) (no b) = inl (omega arith, omega arith)
    go (no h) (no k) (yes b) = absurd (omega (arith, capacity-between u (omega arith) (omega arith)))
    go (no h) (no k) (no b) = inl (omega arith, omega arith)

-- a message that is not empty and fits leaves a byte for its length
pub fits-less : (u n : ℕ) → (n ≡ 0 → ⊥) → n ≤ capacity_in u → n < u
fits-less u n z l = ⊎_elim (λ c. omega (arith, c.1)) (λ c. omega (arith, c.1)) (capacity-fits u n (omega (arith, z)) l)

pub fits-of : (n u k : ℕ) → Sized n u k → n ≤ k → n ≤ capacity_in u
fits-of n u k (inl c) l = fits-capacity u n (inl (leb-true n 254 c.0, omega (arith, c.1)))
fits-of n u k (inr c) l = fits-capacity u n (inr (omega (arith, leb-false n 254 c.0), omega (arith, c.1)))

-- a length takes a byte at least
pub length_some : (i us vs : List ℕ) (n : ℕ) → length_of i us ≡ len n vs → 0 < length us
length_some i us vs n e = ⊎_elim (λ c. omega (arith, c.1)) (λ c. omega (arith, c.1)) (length-size i us vs n e)

-- ---- what is written reads back

-- in the image n, the addresses us have the length of m and then m
pub record Written (us m n : List ℕ) : Type 0 where
  -- the addresses after the length
  pub rest : List ℕ
  pub field : length_of n us ≡ len (length m) rest
  pub enough : length m ≤ length rest
  pub bytes : map (byte n) (take (length m) rest) ≡ m

module _ (hi : ℕ) where
  written-short : (us m r i : List ℕ) (x : ℕ) → Above hi x us → hi ≤ length i → leb (length m) 254 ≡ true → 1 + length m ≤ length us
      → Written us m (overlay us (length m ∷ (m ++ r)) i)
  unfolding length_by
  written-short [] m r i x h l q k = absurd (omega arith)
  written-short (a ∷ us) m r i x h l q k =
      let o = overlay us (m ++ r) i in
      let e : byte (set o a (length m)) a ≡ length m
      = get_or-set_same o a (length m) 0 (omega (arith, length-overlay us (m ++ r) i, above-hi hi a us h.1)) in
      record {
        rest = us;
        field = rw e (rw (q, length_by));
        enough = omega arith;
        bytes =
            map-out hi (take (length m) us) o a (length m) (above-take hi (length m) a us h.1)
            ∙ overlay-reads hi m r us i a h.1 l (omega arith);
      }

  written-long : (us m r i : List ℕ) (x : ℕ) → Above hi x us → hi ≤ length i → leb (length m) 254 ≡ false → length m ≤ 65534
      → 3 + length m ≤ length us → Written us m (overlay us (0xFF ∷ length m / 256 ∷ length m % 256 ∷ (m ++ r)) i)
  unfolding length_by long_by
  written-long [] m r i x h l q w k = absurd (omega arith)
  written-long (a ∷ []) m r i x h l q w k = absurd (omega arith)
  written-long (a ∷ b ∷ []) m r i x h l q w k = absurd (omega arith)
  written-long (a ∷ b ∷ c ∷ us) m r i x h l q w k =
      let n = length m in
      -- the image with the message, and with each byte of the field from the last on
      let o = overlay us (m ++ r) i in
      let oc = set o c (n % 256) in
      let ob = set oc b (n / 256) in
      let oa = set ob a 0xFF in
      let hc : c < length o = omega (arith, length-overlay us (m ++ r) i, above-hi hi c us h.1.1.1) in
      let lc : length oc ≡ length o = length-set o c (n % 256) in
      let lb : length ob ≡ length oc = length-set oc b (n / 256) in
      let ea : byte oa a ≡ 0xFF = get_or-set_same ob a 0xFF 0 (omega (arith, h.1.0, h.1.1.0)) in
      let eb : byte oa b ≡ n / 256
      = get_or-set_other ob a b 0xFF 0 (omega (arith, h.1.0)) ∙ get_or-set_same oc b (n / 256) 0 (omega (arith, h.1.1.0)) in
      let ec : byte oa c ≡ n % 256
      = get_or-set_other ob a c 0xFF 0 (omega (arith, h.1.0, h.1.1.0))
      ∙ get_or-set_other oc b c (n / 256) 0 (omega (arith, h.1.1.0))
      ∙ get_or-set_same o c (n % 256) 0 hc in
      let sum : 256 * byte oa b + byte oa c ≡ n = rw (eb, ec) (omega arith) in
      let p : leb 255 n ≡ true = le-leb 255 n (omega (arith, leb-false n 254 q)) in
      let g : Above hi c (take n us) = above-take hi n c us h.1.1.1 in
      record {
        rest = us;
        field = rw ea (rw sum (rw (p, le-leb n 65534 w, long_by)));
        enough = omega arith;
        bytes =
            map-out hi (take n us) ob a 0xFF (above-less hi a c (take n us) (omega (arith, h.1.0, h.1.1.0)) g)
            ∙ map-out hi (take n us) oc b (n / 256) (above-less hi b c (take n us) (omega (arith, h.1.1.0)) g)
            ∙ map-out hi (take n us) o c (n % 256) g
            ∙ overlay-reads hi m r us i c h.1.1.1 l (omega arith);
      }

  -- the bound on hi keeps the length in the three-byte form's range
  pub written : (us m i : List ℕ) (x : ℕ) → Above hi x us → hi ≤ length i → hi ≤ 65534 → FitsIn (length us) (length m)
      → Written us m (overlay us (tlv_bytes m) i)
  unfolding length_field
  written us m i x h l w (inl c) =
      let q : leb (length m) 254 ≡ true = le-leb (length m) 254 c.0 in
      rw (q, length_field) (written-short us m (0xFE ∷ []) i x h l q c.1)
  written us m i x h l w (inr c) =
      let q : leb (length m) 254 ≡ false = lt-leb (length m) 254 (omega (arith, c.0)) in
      rw (q, length_field) (written-long us m (0xFE ∷ []) i x h l q (omega (arith, above-length hi x us h, c.1)) c.1)

-- ---- the first length byte

pub above-first : (hi x : ℕ) (us : List ℕ) → Above hi x us → 0 < length us → (x < length_at us) × (length_at us < hi)
above-first hi x [] h l = absurd (omega arith)
above-first hi x (y ∷ us) h l = (h.0, above-hi hi y us h.1)

tlv-bytes-cons : (m : List ℕ) → (v : ℕ) × (vs : List ℕ) × (tlv_bytes m ≡ v ∷ vs)
unfolding length_field
tlv-bytes-cons m = go (leb (length m) 254) refl
  where
    go : (b : Bool) → leb (length m) 254 ≡ b → (v : ℕ) × (vs : List ℕ) × (tlv_bytes m ≡ v ∷ vs)
    go true q = (length m, m ++ 0xFE ∷ [], rw (q, length_field))
    go false q = (0xFF, length m / 256 ∷ length m % 256 ∷ (m ++ 0xFE ∷ []), rw (q, length_field))

-- it is one of the bytes to set
pub first-set : (us m : List ℕ) → 0 < length us → is_set us (tlv_bytes m) (length_at us) ≡ true
first-set [] m l = absurd (omega arith)
first-set (x ∷ us) m l = let (v, vs, e) = tlv-bytes-cons m in rw e (or_l (eqb x x) (is_set us vs x) (eq-eqb x x refl))
