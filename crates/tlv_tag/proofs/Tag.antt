-- What an image holds on a tag with a TLV area. An image that a message was written to holds that message; one with a first length
-- byte 00h holds none; and no image that agrees up to the message TLV's type byte holds a message that does not fit. This is so for
-- every type of tag that meets the laws `TlvLaws`: reading looks at the image up to that byte and then at the usable addresses
-- after it, so an image that agrees up to there is read by its length field alone.
-- Assumes nothing.
use mathlib.Core.Path.{◌≡◌, refl, sym, ap, ◌∙◌}
use mathlib.Core.Bool.{Bool, true, false, not}
use mathlib.Core.List.{List, [], ◌∷◌, map}
use Prim.Native.Nat.{ℕ, suc, ◌+◌, ◌*◌, ◌/◌, ◌<◌, ◌≤◌}
use native.Mathlib.Omega.{arith}
use borrow.Author.Tests.{leb-true, le-leb}
use lib.Dec.{leb, leb-zero}
use lib.ListN.{length, take, length-map}
use lib.Seq.{length-take-le}
use Rattle.tag.specs.Bytes.{byte, run, overlay, is_set}
use Rattle.tag.specs.Refusals.{bad_length}
use Rattle.tag.specs.Checks.{Checked, fine, fault, first_of}
use Rattle.tag.specs.Reading.{Report, unreadable, reads, broken, nothing, holds, held_of}
use Rattle.tag.proofs.Logic.{nope}
use Rattle.tag.proofs.Each.{Each}
use Rattle.tag.proofs.Checks.{OfReading}
use Rattle.tag.proofs.Images.{length-overlay, overlay-out}
use Rattle.tag.proofs.Addresses.{Above, above-unset, above-run}
use Rattle.tlv.specs.Walk.{Length, bad, len, length_by, length_of, Found, lost, found, message_tlv}
use Rattle.tlv.proofs.Locality.{find-above, find-same}
use Rattle.tlv.proofs.Sizes.{length-size}
use Rattle.tlv_tag.specs.Message.{TlvTag, Located, refuse, located, locate_by, locate, capacity_in, report_of, reading_of, reading}
use Rattle.tlv_tag.specs.Update.{usable, FitsIn, tlv_bytes, length_at}
use Rattle.tlv_tag.proofs.Field.{Written, written, capacity-fits, fits-less, fits-of, length_some, above-first}

-- ---- a message TLV by its length field

-- what is located by a length has the same addresses, and its message lies at the first of those after the length
pub locate_by-is : (us ms vs : List ℕ) (l : Length) → locate_by us l ≡ located vs ms
    → (us ≡ vs) × (n : ℕ) × (ws : List ℕ) × (l ≡ len n ws) × (take n ws ≡ ms)
unfolding locate_by
locate_by-is us ms vs bad e = absurd (nope (cc))
locate_by-is us ms vs (len n ws) e = go (leb n (length ws)) refl
  where
    go : (b : Bool) → leb n (length ws) ≡ b → (us ≡ vs) × (n' : ℕ) × (ws' : List ℕ) × (len n ws ≡ len n' ws') × (take n' ws' ≡ ms)
    go false q = let e' : refuse bad_length ≡ located vs ms = rw (q, locate_by) at e in absurd (nope (cc))
    go true q = let e' : located us (take n ws) ≡ located vs ms = rw (q, locate_by) at e in (cc, n, ws, refl, cc)

module _ (w : Bool) where
  located-holds : (us m j ms : List ℕ) → map (byte j) ms ≡ m → (length m ≡ 0 → ⊥) → held_of (reading_of w j (located us ms)) ≡ holds m
  located-holds us m j [] e z = absurd (z (sym (ap length e)))
  located-holds us m j (a ∷ ms) e z = ap holds e

  located-written : (us m j : List ℕ) → Written us m j → (length m ≡ 0 → ⊥)
      → held_of (reading_of w j (locate_by us (length_of j us))) ≡ holds m
  unfolding locate_by
  located-written us m j r z =
      let q : leb (length m) (length r.rest) ≡ true = le-leb (length m) (length r.rest) r.enough in
      rw r.field (rw (q, locate_by) (located-holds us m j (take (length m) r.rest) r.bytes z))

  located-quiet : (us j : List ℕ) → 0 < length us → byte j (length_at us) ≡ 0
      → held_of (reading_of w j (locate_by us (length_of j us))) ≡ nothing
  unfolding locate_by length_by
  located-quiet [] j l e = absurd (omega arith)
  located-quiet (a ∷ us) j l e = rw e (rw (leb-zero (length us), locate_by))

  located_fits : (us j m : List ℕ) → held_of (reading_of w j (locate_by us (length_of j us))) ≡ holds m
      → length m ≤ capacity_in (length us)
  unfolding locate_by
  located_fits us j m e = go (length_of j us) refl
    where
      by_bytes : (ms : List ℕ) → held_of (reading_of w j (located us ms)) ≡ holds m → length ms ≡ length m
      by_bytes [] f = absurd (nope (cc))
      by_bytes (a ∷ ms) f = let g : map (byte j) (a ∷ ms) ≡ m = cc in sym (length-map (a ∷ ms) (byte j)) ∙ ap length g

      go : (l : Length) → length_of j us ≡ l → length m ≤ capacity_in (length us)
      go bad q = let e' : broken ≡ holds m = rw q at e in absurd (nope (cc))
      go (len n ws) q = room (leb n (length ws)) refl
        where
          room : (t : Bool) → leb n (length ws) ≡ t → length m ≤ capacity_in (length us)
          room false t = let e' : broken ≡ holds m = rw (q, t, locate_by) at e in absurd (nope (cc))
          room true t =
              let e' : held_of (reading_of w j (located us (take n ws))) ≡ holds m = rw (q, t, locate_by) at e in
              let l : n ≤ length ws = leb-true n (length ws) t in
              let k : n ≡ length m = sym (length-take-le n ws l) ∙ by_bytes (take n ws) e' in
              rw (← k) (fits-of n (length us) (length ws) (length-size j us ws n q) l)

-- ---- what a type has to show, and what is known of a tag

pub record TlvLaws (T : TlvTag) : Type 0 where
  pub block-pos : 0 < T.block_size
  -- the address before the data area
  pub before : ℕ
  pub first_is : T.layout.first ≡ suc before
  -- an image whose checks pass: whole blocks, short enough for a length field, and the data area inside
  pub bound : (i : List ℕ) → first_of (T.checks i) ≡ fine
      → (length i ≡ T.block_size * (length i / T.block_size)) × (length i ≤ 65534) × (before + T.layout.size i < length i)
  -- the refusals of the checks are among 1 to 8
  pub numbered : (i : List ℕ) → Each (λ c. OfReading c.refusal) (T.checks i)
  -- what reading depends on before the walk lies before the data area
  pub local : (i j : List ℕ) → length j ≡ length i → ((x : ℕ) → x ≤ before → byte j x ≡ byte i x)
      → (T.checks j ≡ T.checks i) × (T.layout.size j ≡ T.layout.size i) × (T.writable j ≡ T.writable i)

module _ (T : TlvTag) where
  -- the checks pass, and the message TLV has the usable addresses us after its type byte
  pub record TlvPlaced (i us : List ℕ) : Type 0 where
    pub at : ℕ
    pub sound : first_of (T.checks i) ≡ fine
    pub tlv-at : message_tlv T.layout i ≡ found at us

  -- and the message m may be written there
  pub record TlvReady (i m us : List ℕ) : Type 0 where
    pub placed : TlvPlaced i us
    pub some_bytes : length m ≡ 0 → ⊥
    pub room : length m ≤ capacity_in (length us)

  -- it fits, in 01's words
  pub fits : (i m us : List ℕ) → TlvReady i m us → FitsIn (length us) (length m)
  fits i m us r = capacity-fits (length us) (length m) (omega (arith, r.some_bytes)) r.room

  pub located-placed : (i us ms : List ℕ) → locate T i ≡ located us ms → TlvPlaced i us
  unfolding locate
  located-placed i us ms e = go (first_of (T.checks i)) refl (message_tlv T.layout i) refl
    where
      go : (c : Checked) → first_of (T.checks i) ≡ c → (f : Found) → message_tlv T.layout i ≡ f → TlvPlaced i us
      go (fault r) p f q = let e' : refuse r ≡ located us ms = rw p at e in absurd (nope (cc))
      go fine p (lost r) q = let e' : refuse r ≡ located us ms = rw (p, q) at e in absurd (nope (cc))
      go fine p (found a vs) q =
          let e' : locate_by vs (length_of i vs) ≡ located us ms = rw (p, q) at e in
          record { at = a; sound = p; tlv-at = q ∙ ap (found a) (locate_by-is vs ms us (length_of i vs) e').0 }

  -- a tag that reads has its message located
  pub reads-located : (i : List ℕ) → (held_of (reading T i) ≡ broken → ⊥)
      → (us : List ℕ) × (ms : List ℕ) × (locate T i ≡ located us ms) × TlvPlaced i us
  unfolding reading
  reads-located i h = go (locate T i) refl
    where
      go : (v : Located) → locate T i ≡ v → (us : List ℕ) × (ms : List ℕ) × (locate T i ≡ located us ms) × TlvPlaced i us
      go (refuse r) q = absurd (h (rw q))
      go (located us ms) q = (us, ms, q, located-placed i us ms q)

  -- and its report is made from that
  pub by-report : (i : List ℕ) (p : Report) → reading T i ≡ reads p
      → (us : List ℕ) × (ms : List ℕ) × (locate T i ≡ located us ms) × (report_of (T.writable i) (capacity_in (length us)) i ms ≡ p)
  unfolding reading
  by-report i p e = go (locate T i) refl
    where
      go : (v : Located) → locate T i ≡ v → (us : List ℕ) × (ms : List ℕ) × (locate T i ≡ located us ms) × (report_of (T.writable i) (capacity_in (length us)) i ms ≡ p)
      go (refuse r) q = let e' : unreadable r ≡ reads p = rw q at e in absurd (nope (cc))
      go (located us ms) q = let e' : reads (report_of (T.writable i) (capacity_in (length us)) i ms) ≡ reads p = rw q at e in (us, ms, q, cc)

  -- the message TLV, by its length field
  pub located-field : (i us ms : List ℕ) → locate T i ≡ located us ms
      → (n : ℕ) × (ws : List ℕ) × (length_of i us ≡ len n ws) × (take n ws ≡ ms)
  unfolding locate
  located-field i us ms e =
      let p : TlvPlaced i us = located-placed i us ms e in
      let e' : locate_by us (length_of i us) ≡ located us ms = sym (rw p.sound (rw p.tlv-at)) ∙ e in
      let (u, n, ws, f, t) = locate_by-is us ms us (length_of i us) e' in
      (n, ws, f, t)

  -- a tag that reads has a usable byte for the length
  pub some-usable : (i : List ℕ) (p : Report) → reading T i ≡ reads p → 0 < length (usable (locate T i))
  some-usable i p e =
      let (us, ms, q, r) = by-report i p e in
      let (n, ws, f, t) = located-field i us ms q in
      rw q (length_some i us ws n f)

  -- its usable addresses are those of the message TLV
  pub usable-is : (i us : List ℕ) → TlvPlaced i us → (held_of (reading T i) ≡ broken → ⊥) → usable (locate T i) ≡ us
  usable-is i us p h =
      let (vs, ms, q, r) = reads-located i h in
      let e : found r.at vs ≡ found p.at us = sym r.tlv-at ∙ p.tlv-at in
      let u : vs ≡ us = cc in
      ap usable q ∙ u

-- ---- the laws

module _ (T : TlvTag) (laws : TlvLaws T) where
  module _ (i us : List ℕ) (p : TlvPlaced T i us) where
    pub bounds : (length i ≡ T.block_size * (length i / T.block_size)) × (length i ≤ 65534)
        × (laws.before + T.layout.size i < length i)
    bounds = laws.bound i p.sound

    started : (hi : ℕ) → laws.before + T.layout.size i < hi
        → Above hi laws.before (run T.layout.first (T.layout.size i))
    started hi l = rw laws.first_is (above-run (T.layout.size i) laws.before hi l)

    -- the type byte lies in the data area, and so do the usable addresses after it, rising below hi, which is the data area's end
    -- or more
    pub within : (hi : ℕ) → laws.before + T.layout.size i < hi → (laws.before < p.at) × Above hi p.at us
    within hi l =
        find-above hi (T.layout.allowed (length i)) (T.layout.size i) i (run T.layout.first (T.layout.size i))
        p.at laws.before us p.tlv-at (started hi l)

    pub beyond : (laws.before < p.at) × Above (length i) p.at us
    beyond = within (length i) bounds.2

    pub front : 0 < length us → (p.at < length_at us) × (length_at us < length i)
    front = above-first (length i) p.at us beyond.1

    -- an image that agrees up to and with the type byte
    module _ (j : List ℕ) (same_length : length j ≡ length i) (agree : (x : ℕ) → x ≤ p.at → byte j x ≡ byte i x) where
      alike : (T.checks j ≡ T.checks i) × (T.layout.size j ≡ T.layout.size i) × (T.writable j ≡ T.writable i)
      alike = laws.local i j same_length (λ x l. agree x (omega (arith, beyond.0)))

      pub same-writable : T.writable j ≡ T.writable i
      same-writable = alike.2

      pub same-placed : TlvPlaced T j us
      same-placed = record {
        at = p.at;
        sound = ap first_of alike.0 ∙ p.sound;
        tlv-at =
            rw (alike.1, same_length)
            (find-same (length i) (T.layout.allowed (length i)) (T.layout.size i) i j
            (run T.layout.first (T.layout.size i)) p.at laws.before us (started (length i) bounds.2) p.tlv-at agree);
      }

      pub same-located : locate T j ≡ locate_by us (length_of j us)
      unfolding locate
      same-located = rw same-placed.sound (rw same-placed.tlv-at)

      same-held : held_of (reading T j) ≡ held_of (reading_of (T.writable j) j (locate_by us (length_of j us)))
      unfolding reading
      same-held = rw same-located

      -- with a first length byte 00h it holds no message
      pub first-quiet : 0 < length us → byte j (length_at us) ≡ 0 → held_of (reading T j) ≡ nothing
      first-quiet l e = same-held ∙ located-quiet (T.writable j) us j l e

      -- what it holds fits
      pub held_fits : (m : List ℕ) → held_of (reading T j) ≡ holds m → length m ≤ capacity_in (length us)
      held_fits m e = located_fits (T.writable j) us j m (sym same-held ∙ e)

      -- so it holds no message that does not fit
      pub too_long : (m : List ℕ) → capacity_in (length us) < length m → held_of (reading T j) ≡ holds m → ⊥
      too_long m l e = omega (arith, held_fits m e)

  -- what writing sets
  module _ (i m us : List ℕ) (r : TlvReady T i m us) where
    pub new-agrees : (x : ℕ) → x ≤ r.placed.at → byte (overlay us (tlv_bytes m) i) x ≡ byte i x
    new-agrees x l =
        overlay-out us (tlv_bytes m) i x (above-unset (length i) us (tlv_bytes m) r.placed.at x (beyond i us r.placed).1 l)

    pub reads-new : held_of (reading T (overlay us (tlv_bytes m) i)) ≡ holds m
    reads-new =
        let j = overlay us (tlv_bytes m) i in
        let p = r.placed in
        let b : length i ≤ 65534 = (bounds i us p).1 in
        let w : Written us m j = written (length i) us m i p.at (beyond i us p).1 (omega arith) b (fits T i m us r) in
        same-held i us p j (length-overlay us (tlv_bytes m) i) new-agrees ∙ located-written (T.writable j) us m j w r.some_bytes

    pub some-room : 0 < length us
    some-room = omega (arith, fits-less (length us) (length m) r.some_bytes r.room)

    -- a message that fits is held by an image of equal length that agrees wherever no byte is to be set
    pub long-enough : (length (overlay us (tlv_bytes m) i) ≡ length i)
        × ((x : ℕ) → not (is_set us (tlv_bytes m) x) ≡ true → byte (overlay us (tlv_bytes m) i) x ≡ byte i x)
        × (held_of (reading T (overlay us (tlv_bytes m) i)) ≡ holds m)
    long-enough = (length-overlay us (tlv_bytes m) i, overlay-out us (tlv_bytes m) i, reads-new)
