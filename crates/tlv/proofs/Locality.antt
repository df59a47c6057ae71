-- The walk is local: it reads nothing beyond the type byte that it finds. So the usable addresses after that byte lie behind
-- all that the walk has read, and an image that agrees up to and with that byte has the same message TLV: storing a message
-- behind it moves nothing. Each part of the walk is shown to be local, from a single byte up to the whole.
-- Assumes nothing.
use mathlib.Core.Path.{◌≡◌, refl, sym, ap, ◌∙◌}
use mathlib.Core.Bool.{Bool, true, false}
use mathlib.Core.List.{List, [], ◌∷◌}
use Prim.Native.Nat.{ℕ, zero, suc, ◌+◌, ◌*◌, ◌<◌, ◌≤◌}
use native.Mathlib.Omega.{arith}
use borrow.Author.Tests.{eqb-true, leb-true}
use lib.Dec.{leb, eqb}
use lib.ListN.{length, drop}
use Rattle.tag.specs.Bytes.{byte}
use Rattle.tag.specs.Refusals.{bad_control_tlv, bad_length}
use Rattle.tag.proofs.Logic.{nope}
use Rattle.tag.proofs.Addresses.{Above, Rising, above-less, above-rising, above-drop}
use Rattle.tlv.specs.Areas.{Control, Area, covers, without, reserved, area_of}
use Rattle.tlv.specs.Walk.{Length, bad, len, long_by, long_of, length_by, length_of, Passed, more, stop, pass_value, Kind, null, message, terminator, other, control, kind_of, Step, on, hit, lost, found, area_by, control_value, control_by, pass_control, step_at, step, find}

-- ---- what a part of the walk has found, if it goes on

pub long_by-is : (m n : ℕ) (us ws : List ℕ) → long_by m us ≡ len n ws → (255 ≤ m) × (m ≡ n) × (us ≡ ws)
unfolding long_by
long_by-is m n us ws e = go (leb 255 m) refl (leb m 65534) refl
  where
    go : (s : Bool) → leb 255 m ≡ s → (t : Bool) → leb m 65534 ≡ t → (255 ≤ m) × (m ≡ n) × (us ≡ ws)
    go false p t q = let e' : bad ≡ len n ws = rw (p, long_by) at e in absurd (nope (cc))
    go true p false q = let e' : bad ≡ len n ws = rw (p, q, long_by) at e in absurd (nope (cc))
    go true p true q = let e' : len m us ≡ len n ws = rw (p, q, long_by) at e in (leb-true 255 m p, cc, cc)

pub pass_value-is : (l : Length) (ws : List ℕ) → pass_value l ≡ more ws → (n : ℕ) × (vs : List ℕ) × (l ≡ len n vs) × (drop n vs ≡ ws)
unfolding pass_value
pass_value-is bad ws e = absurd (nope (cc))
pass_value-is (len n vs) ws e = go (leb n (length vs)) refl
  where
    go : (t : Bool) → leb n (length vs) ≡ t → (n' : ℕ) × (vs' : List ℕ) × (len n vs ≡ len n' vs') × (drop n' vs' ≡ ws)
    go false q = let e' : stop bad_length ≡ more ws = rw (q, pass_value) at e in absurd (nope (cc))
    go true q = let e' : more (drop n vs) ≡ more ws = rw (q, pass_value) at e in (n, vs, refl, cc)

module _ (allowed : Area → Bool) where
  pub area_by-is : (c : Control) (b0 b1 b2 : ℕ) (us ws : List ℕ) → area_by allowed c b0 b1 b2 us ≡ more ws
      → without (area_of c b0 b1 b2) us ≡ ws
  unfolding area_by
  area_by-is c b0 b1 b2 us ws e = go (reserved c b2) refl (allowed (area_of c b0 b1 b2)) refl
    where
      go : (r : Bool) → reserved c b2 ≡ r → (s : Bool) → allowed (area_of c b0 b1 b2) ≡ s → without (area_of c b0 b1 b2) us ≡ ws
      go true p s q = let e' : stop bad_control_tlv ≡ more ws = rw (p, area_by) at e in absurd (nope (cc))
      go false p false q = let e' : stop bad_control_tlv ≡ more ws = rw (p, q, area_by) at e in absurd (nope (cc))
      go false p true q = let e' : more (without (area_of c b0 b1 b2) us) ≡ more ws = rw (p, q, area_by) at e in cc

  pub control_by-is : (n : ℕ) (c : Control) (i us ws : List ℕ) → control_by allowed n c i us ≡ more ws
      → (n ≡ 3) × (control_value allowed c i us ≡ more ws)
  unfolding control_by
  control_by-is n c i us ws e = go (eqb n 3) refl
    where
      go : (b : Bool) → eqb n 3 ≡ b → (n ≡ 3) × (control_value allowed c i us ≡ more ws)
      go false q = let e' : stop bad_control_tlv ≡ more ws = rw (q, control_by) at e in absurd (nope (cc))
      go true q = (eqb-true n 3 q, rw (q, control_by) at e)

  -- a hit is the TLV's own type byte, and which TLV it is depends on no other byte
  step_at-hit : (k : Kind) (i j : List ℕ) (a : ℕ) (us : List ℕ) (b : ℕ) (vs : List ℕ) → step_at allowed k i a us ≡ hit b vs
      → (step_at allowed k j a us ≡ hit b vs) × (a ≡ b) × (us ≡ vs)
  step_at-hit null i j a us b vs e = absurd (nope (cc))
  step_at-hit (control c) i j a us b vs e = absurd (nope (cc))
  step_at-hit message i j a us b vs e = (e, cc, cc)
  step_at-hit terminator i j a us b vs e = absurd (nope (cc))
  step_at-hit other i j a us b vs e = absurd (nope (cc))

  -- how a walk that succeeds starts: with a hit, or with a TLV passed
  data Begins (k : ℕ) (i us : List ℕ) (a : ℕ) (vs : List ℕ) : Type 0 where
    here : step allowed i us ≡ hit a vs → Begins k i us a vs
    later : (ws : List ℕ) → step allowed i us ≡ on (more ws) → find allowed k i ws ≡ found a vs → Begins k i us a vs

  begins : (k : ℕ) (i us : List ℕ) (a : ℕ) (vs : List ℕ) → find allowed (suc k) i us ≡ found a vs → Begins k i us a vs
  unfolding find
  begins k i us a vs e = go (step allowed i us) refl
    where
      go : (s : Step) → step allowed i us ≡ s → Begins k i us a vs
      go (on (more ws)) q = later ws q (rw (q, find) at e)
      go (on (stop r)) q = let e' : lost r ≡ found a vs = rw (q, find) at e in absurd (nope (cc))
      go (hit b ws) q = let e' : found b ws ≡ found a vs = rw (q, find) at e in here (q ∙ (cc))

-- ---- parts of the walk are local

module _ (hi : ℕ) where
  -- what lies below all the addresses lies below those that an area leaves
  above-without : (x : ℕ) (r : Area) (us : List ℕ) → Above hi x us → Above hi x (without r us)
  unfolding without
  above-without x r [] h = h
  above-without x r (y ∷ us) h = go (covers r y) refl (λ z. above-without z r us)
    where
      go : (b : Bool) → covers r y ≡ b → ((z : ℕ) → Above hi z us → Above hi z (without r us)) → Above hi x (without r (y ∷ us))
      go true q ih = rw (q, without) (ih x (above-less hi x y us (omega (arith, h.0)) h.1))
      go false q ih = rw (q, without) (h.0, ih y h.1)

  -- f, a part of the walk, went from us to ws with the outcome r on the image i: what lies below us lies below ws, and on an
  -- image that agrees below ws the outcome is the same
  record Local {R : Type 0} (f : List ℕ → R) (r : R) (i us ws : List ℕ) : Type 0 where
    up : (x : ℕ) → Above hi x us → Above hi x ws
    stays : (j : List ℕ) → Rising hi us → ((x : ℕ) → Above hi x ws → byte j x ≡ byte i x) → f j ≡ r

  -- a byte taken, and then a part that is local
  after-byte : {R : Type 0} {r : R} {i : List ℕ} {a : ℕ} {us ws : List ℕ} (g : ℕ → List ℕ → R)
      → Local (g (byte i a)) r i us ws → Local (λ j. g (byte j a) j) r i (a ∷ us) ws
  after-byte {R} {r} {i} {a} {us} {ws} g l = record {
    up = λ x h. l.up x (above-less hi x a us (omega (arith, h.0)) h.1);
    stays = λ j s h. let q : byte j a ≡ byte i a = h a (l.up a s) in rw q (l.stays j (above-rising hi a us s) h);
  }

  -- no more bytes are read
  settled : {R : Type 0} {c r : R} {i us ws : List ℕ} → c ≡ r → us ≡ ws → Local (λ j. c) r i us ws
  settled e u = record { up = λ x h. rw (← u) h; stays = λ j s h. e }

  long-local : (i us ws : List ℕ) (n : ℕ) → long_of i us ≡ len n ws → Local (λ j. long_of j us) (len n ws) i us ws
  long-local i [] ws n e = absurd (nope (cc))
  long-local i (a ∷ []) ws n e = absurd (nope (cc))
  long-local i (a ∷ b ∷ us) ws n e =
      after-byte (λ h j. long_by (256 * h + byte j b) us)
      (after-byte (λ l j. long_by (256 * byte i a + l) us)
      (settled e (long_by-is (256 * byte i a + byte i b) n us ws e).2))

  length_by-local : (x : ℕ) (i us ws : List ℕ) (n : ℕ) → length_by x i us ≡ len n ws → Local (λ j. length_by x j us) (len n ws) i us ws
  unfolding length_by
  length_by-local x i us ws n e = go (leb x 254) refl
    where
      go : (t : Bool) → leb x 254 ≡ t → Local (λ j. length_by x j us) (len n ws) i us ws
      go true q = let e' : len x us ≡ len n ws = rw (q, length_by) at e in simp (q, length_by) (settled e' (cc))
      go false q = simp (q, length_by) (long-local i us ws n (rw (q, length_by) at e))

  length-local : (i us ws : List ℕ) (n : ℕ) → length_of i us ≡ len n ws → Local (λ j. length_of j us) (len n ws) i us ws
  length-local i [] ws n e = absurd (nope (cc))
  length-local i (a ∷ us) ws n e = after-byte (λ x j. length_by x j us) (length_by-local (byte i a) i us ws n e)

  -- what lies below the addresses from a length on lies below those after it
  pub length_above : (i us ws : List ℕ) (n : ℕ) → length_of i us ≡ len n ws → (x : ℕ) → Above hi x us → Above hi x ws
  length_above i us ws n e = (length-local i us ws n e).up

  value-local : (i us ws : List ℕ) → pass_value (length_of i us) ≡ more ws → Local (λ j. pass_value (length_of j us)) (more ws) i us ws
  value-local i us ws e =
      let (n, vs, q, u) = pass_value-is (length_of i us) ws e in
      let l : Local (λ j. length_of j us) (len n vs) i us vs = length-local i us vs n q in
      let down : (x : ℕ) → Above hi x vs → Above hi x ws = λ x h. rw (← u) (above-drop hi x n vs h) in
      record {
        up = λ x h. down x (l.up x h);
        stays = λ j s h. let p : length_of j us ≡ length_of i us = l.stays j s (λ x b. h x (down x b)) ∙ sym q in rw p e;
      }

  -- a TLV passed, as a step
  onward : {f : List ℕ → Passed} {i us ws : List ℕ} → Local f (more ws) i us ws → Local (λ j. on (f j)) (on (more ws)) i us ws
  onward l = record { up = l.up; stays = λ j s h. ap on (l.stays j s h) }

  -- ---- control TLVs, steps, the walk

  module _ (allowed : Area → Bool) where
    area-local : (c : Control) (i us ws : List ℕ) → control_value allowed c i us ≡ more ws
        → Local (λ j. control_value allowed c j us) (more ws) i us ws
    area-local c i [] ws e = absurd (nope (cc))
    area-local c i (a ∷ []) ws e = absurd (nope (cc))
    area-local c i (a ∷ b ∷ []) ws e = absurd (nope (cc))
    area-local c i (a ∷ b ∷ d ∷ us) ws e =
        let r : Area = area_of c (byte i a) (byte i b) (byte i d) in
        let u : without r us ≡ ws = area_by-is allowed c (byte i a) (byte i b) (byte i d) us ws e in
        after-byte (λ x j. area_by allowed c x (byte j b) (byte j d) us)
        (after-byte (λ x j. area_by allowed c (byte i a) x (byte j d) us)
        (after-byte (λ x j. area_by allowed c (byte i a) (byte i b) x us)
        (record { up = λ x h. rw (← u) (above-without x r us h); stays = λ j s h. e })))

    control_by-local : (x : ℕ) (c : Control) (i us ws : List ℕ) → control_by allowed x c i us ≡ more ws
        → Local (λ j. control_by allowed x c j us) (more ws) i us ws
    unfolding control_by
    control_by-local x c i us ws e = let (q, e') = control_by-is allowed x c i us ws e in rw q (area-local c i us ws e')

    control-local : (c : Control) (i us ws : List ℕ) → pass_control allowed c i us ≡ more ws
        → Local (λ j. pass_control allowed c j us) (more ws) i us ws
    control-local c i [] ws e = absurd (nope (cc))
    control-local c i (a ∷ us) ws e = after-byte (λ x j. control_by allowed x c j us) (control_by-local (byte i a) c i us ws e)

    step_at-local : (k : Kind) (i : List ℕ) (a : ℕ) (us ws : List ℕ) → step_at allowed k i a us ≡ on (more ws)
        → Local (λ j. step_at allowed k j a us) (on (more ws)) i us ws
    step_at-local null i a us ws e = settled e (cc)
    step_at-local (control c) i a us ws e = onward (control-local c i us ws (cc))
    step_at-local message i a us ws e = absurd (nope (cc))
    step_at-local terminator i a us ws e = absurd (nope (cc))
    step_at-local other i a us ws e = onward (value-local i us ws (cc))

    step_local : (i us ws : List ℕ) → step allowed i us ≡ on (more ws) → Local (λ j. step allowed j us) (on (more ws)) i us ws
    step_local i [] ws e = absurd (nope (cc))
    step_local i (a ∷ us) ws e =
        after-byte (λ x j. step_at allowed (kind_of x) j a us) (step_at-local (kind_of (byte i a)) i a us ws e)

    -- what lies below all the addresses lies below the type byte, and the usable addresses after it lie above it
    pub find-above : (k : ℕ) (i us : List ℕ) (a x : ℕ) (vs : List ℕ) → find allowed k i us ≡ found a vs
        → Above hi x us → (x < a) × Above hi a vs
    unfolding find
    find-above zero i us a x vs e h = absurd (nope (cc))
    find-above (suc k) i us a x vs e h = go (begins allowed k i us a vs e) (λ ws. find-above k i ws a x vs)
      where
        at : (us : List ℕ) → Above hi x us → step allowed i us ≡ hit a vs → (x < a) × Above hi a vs
        at [] g q = absurd (nope (cc))
        at (b ∷ us) g q = let (_, p, u) = step_at-hit allowed (kind_of (byte i b)) i i b us a vs q in rw (← p, ← u) g

        go : Begins allowed k i us a vs
            → ((ws : List ℕ) → find allowed k i ws ≡ found a vs → Above hi x ws → (x < a) × Above hi a vs) → (x < a) × Above hi a vs
        go (here q) ih = at us h q
        go (later ws q f) ih = ih ws f ((step_local i us ws q).up x h)

    -- an image that agrees up to and with the type byte has the same message TLV
    pub find-same : (k : ℕ) (i j us : List ℕ) (a o : ℕ) (vs : List ℕ) → Above hi o us → find allowed k i us ≡ found a vs
        → ((x : ℕ) → x ≤ a → byte j x ≡ byte i x) → find allowed k j us ≡ found a vs
    unfolding find
    find-same zero i j us a o vs r e h = absurd (nope (cc))
    find-same (suc k) i j us a o vs r e h = go (begins allowed k i us a vs e) (λ ws b f. find-same k i j ws a o vs b f h)
      where
        at : (us : List ℕ) → step allowed i us ≡ hit a vs → step allowed j us ≡ hit a vs
        at [] q = absurd (nope (cc))
        at (b ∷ us) q =
            let (s, p, u) = step_at-hit allowed (kind_of (byte i b)) i j b us a vs q in
            let g : byte j b ≡ byte i b = h b (omega (arith, p)) in
            rw g s

        go : Begins allowed k i us a vs
            → ((ws : List ℕ) → Above hi o ws → find allowed k i ws ≡ found a vs → find allowed k j ws ≡ found a vs)
            → find allowed (suc k) j us ≡ found a vs
        go (here q) ih = rw (at us q, find)
        go (later ws q f) ih =
            let l : Local (λ j. step allowed j us) (on (more ws)) i us ws = step_local i us ws q in
            -- what lies below ws lies below the type byte, so j agrees there
            let g : (x : ℕ) → Above hi x ws → byte j x ≡ byte i x = λ x b. h x (omega (arith, (find-above k i ws a x vs f b).0)) in
            let s : step allowed j us ≡ on (more ws) = l.stays j (above-rising hi o us r) g in
            rw (s, find) (ih ws (l.up o r) f)
