-- The claims of `specs/Claims.antt`, proved.
-- Assumes nothing.
use mathlib.Core.Path.{◌≡◌, refl, sym, ap, ◌∙◌}
use mathlib.Core.Logic.Iff
use mathlib.Core.Logic.{◌↔◌, ◌⊎◌, inl, inr}
use mathlib.Core.Bool.{Bool, true, false, cond}
use mathlib.Core.List.{List, [], ◌∷◌, ◌++◌}
use Prim.Native.Nat.{ℕ, ◌+◌, ◌≤◌, ◌<◌}
use native.Mathlib.Omega.{arith}
use lib.Dec.{ltb, leb}
use lib.ListN.{length, take, drop, length-append, length-drop}
use lib.Seq.{take-append_seam, drop-append_seam}
use borrow.Author.Tests.{ltb-true, ltb-false, le-leb, lt-leb, leb-false}
use Rattle.std.specs.Prelude.{Result, Ok}
use Rattle.tag.specs.declared.refusals.Refusal.{Refusal}
use Rattle.tag.specs.declared.refusals.Refusal.TheVariants.{BadUri, ShortBuffer}
use Rattle.tag.specs.TagType.{Output, refused_output, output, fitted}
use Rattle.tag.specs.PublicContracts.{PutOut}
use Rattle.tag.proofs.Logic.{nope, same-eq, same_refl}
use Rattle.tag.proofs.Outputs.{put_all, put-counted, refused-exactly}
use Rattle.uri.specs.Prefixes.{codes, prefixes, prefix}
use Rattle.uri.specs.Payload.{uri, refused, uri_of, expand_by, expand, begins, longest, payload_of, shorten}
use Rattle.uri.specs.PublicContracts.{ShortenedTo}
use Rattle.uri.specs.Claims.{SameUri, LongestPrefix, ShortestPayload, StandsFor, RefusesExactly, Calls}
use Rattle.uri.proofs.Choosing.{begins-inside, begins-whole, all-chosen, prefix-rest}
use Rattle.uri.proofs.Expanding.{no_byte, no_code, some-code}
use Rattle.uri.proofs.Distinct.{same_code}

-- ---- bytes for a buffer

module _ (room : ℕ) (bs : List ℕ) where
  abbrev for-room : Output
  for-room = fitted room (length bs) bs

  fits : length bs ≤ room → for-room ≡ output (length bs) bs
  fits h = rw (le-leb (length bs) room h)

  given : (n : ℕ) (all : List ℕ) → for-room ≡ output n all → (length bs ≡ n) × (bs ≡ all)
  given n all e = go (leb (length bs) room) e
    where
      go : (b : Bool) → cond b (output (length bs) bs) (refused_output 12) ≡ output n all → (length bs ≡ n) × (bs ≡ all)
      go true e = (cc, cc)
      go false e = absurd (nope (cc))

  refused-by : (r : ℕ) → for-room ≡ refused_output r → (r ≡ 12) × (room < length bs)
  refused-by r e = go (leb (length bs) room) refl e
    where
      go : (b : Bool) → leb (length bs) room ≡ b → cond b (output (length bs) bs) (refused_output 12) ≡ refused_output r → (r ≡ 12) × (room < length bs)
      go true q e = absurd (nope (cc))
      go false q e = (cc, leb-false (length bs) room q)

  short-exactly : for-room ≡ refused_output 12 ↔ room < length bs
  short-exactly = (λ e. (refused-by 12 e).1, λ h. rw (lt-leb (length bs) room h))

-- ---- what a payload stands for

stood-for : (p u : List ℕ) → StandsFor p u → uri_of p ≡ uri u
stood-for p u (code, rest, e, h, q) = ap uri_of e ∙ some-code (code ∷ rest) (λ z. omega arith) h ∙ ap uri (sym q)

-- for nothing, or for some URI
abbrev Meaning : List ℕ → Type 0
Meaning p = (uri_of p ≡ refused 34) ⊎ ((u : List ℕ) × StandsFor p u)

meaning : (p : List ℕ) → Meaning p
meaning [] = inl (no_byte [] refl)
meaning (code ∷ rest) = go (ltb code codes) refl
  where
    go : (b : Bool) → ltb code codes ≡ b → Meaning (code ∷ rest)
    go true q = inr (prefix code ++ rest, (code, rest, refl, ltb-true code codes q, refl))
    go false q = inl (no_code (code ∷ rest) (ltb-false code codes q))

stands-for : (p u : List ℕ) → uri_of p ≡ uri u → StandsFor p u
stands-for p u e = go (meaning p)
  where
    go : Meaning p → StandsFor p u
    go (inl q) = absurd (nope (cc))
    go (inr (v, s)) = let q : v ≡ u = cc (stood-for p v s) in rw q at s

-- the payload of a URI stands for it
back : (u : List ℕ) → uri_of (payload_of u) ≡ uri u
back u = stood-for (payload_of u) u (longest u, drop (length (prefix (longest u))) u, refl, (all-chosen u).known, sym (prefix-rest u))

-- ---- the claims about the definitions

pub same-uri : SameUri
same-uri = record {
  expands_back = back;
  in_buffers = λ room room' u n bs e. rw (← (given room (payload_of u) n bs e).1) (ap (expand_by room') (back u));
}

begins-if : (p rest : List ℕ) → begins p (p ++ rest) ≡ true
unfolding begins
begins-if p rest = rw (take-append_seam p rest) (same_refl p)

-- two beginnings as long as each other
same-beginning : (p q u : List ℕ) → begins p u ≡ true → begins q u ≡ true → length p ≡ length q → p ≡ q
unfolding begins
same-beginning p q u e f l = same-eq p (take (length p) u) e ∙ ap (λ n. take n u) l ∙ sym (same-eq q (take (length q) u) f)

each-prefix : length prefixes ≡ codes
unfolding prefixes
each-prefix = refl

longest-only : (u : List ℕ) (k : ℕ) → k < codes → begins (prefix k) u ≡ true → length (prefix k) ≡ length (prefix (longest u)) → k ≡ longest u
longest-only u k h b l =
    let w = all-chosen u in
    same_code k (longest u) h w.known (same-beginning (prefix k) (prefix (longest u)) u b w.begins-it l)

pub longest-prefix : LongestPrefix
longest-prefix = record {
  beginning = λ p u. (λ e. (drop (length p) u, begins-whole p u e), λ (rest, e). rw (← e) (begins-if p rest));
  each_code = each-prefix;
  is_code = λ u. (all-chosen u).known;
  is_beginning = λ u. (all-chosen u).begins-it;
  none_longer = λ u. (all-chosen u).none_longer;
  no_other = longest-only;
}

-- a code and a rest, beside the payload that is chosen for the same URI
module _ (code : ℕ) (rest : List ℕ) (h : code < codes) where
  abbrev whole : List ℕ
  whole = prefix code ++ rest

  abbrev best : ℕ
  best = longest whole

  -- the two numbers of bytes are apart by as much as the lengths of the two prefixes
  apart : length (payload_of whole) + length (prefix best) ≡ length (code ∷ rest) + length (prefix code)
  apart =
      let inside : length (prefix best) ≤ length whole = begins-inside (prefix best) whole (all-chosen whole).begins-it in
      omega (arith, length-drop (length (prefix best)) whole, length-append (prefix code) rest)

  no_shorter : length (payload_of whole) ≤ length (code ∷ rest)
  no_shorter = omega (arith, apart, (all-chosen whole).none_longer code h (begins-if (prefix code) rest))

  no_other : length (code ∷ rest) ≡ length (payload_of whole) → code ∷ rest ≡ payload_of whole
  no_other e =
      let k : code ≡ best = longest-only whole code h (begins-if (prefix code) rest) (omega (arith, apart)) in
      ap (λ r. code ∷ r) (sym (drop-append_seam (prefix code) rest)) ∙ ap (λ c. c ∷ drop (length (prefix c)) whole) k

shortest : (u p : List ℕ) → StandsFor p u → (length (payload_of u) ≤ length p) × (length p ≡ length (payload_of u) → p ≡ payload_of u)
shortest u p (code, rest, e, h, q) = rw (e, q) (no_shorter code rest h, no_other code rest h)

pub shortest-payload : ShortestPayload
shortest-payload = record {
  no_shorter = λ u p e. (shortest u p (stands-for p u e)).0;
  no_other = λ u p e. (shortest u p (stands-for p u e)).1;
}

module _ (room : ℕ) (p : List ℕ) where
  -- a payload that stands for u is expanded to u
  expands-to : (u : List ℕ) → StandsFor p u → expand room p ≡ for-room room u
  expands-to u s = ap (expand_by room) (stood-for p u s)

  bad-exactly : expand room p ≡ refused_output 34 ↔ ((u : List ℕ) → StandsFor p u → ⊥)
  bad-exactly = (λ e u s. let z = (refused-by room u 34 (sym (expands-to u s) ∙ e)).0 in omega arith, λ none. go none (meaning p))
    where
      go : ((u : List ℕ) → StandsFor p u → ⊥) → Meaning p → expand room p ≡ refused_output 34
      go none (inl q) = ap (expand_by room) q
      go none (inr (u, s)) = absurd (none u s)

  too_long_exactly : expand room p ≡ refused_output 12 ↔ ((u : List ℕ) × StandsFor p u × (room < length u))
  too_long_exactly = (λ e. go e (meaning p), λ (u, s, l). expands-to u s ∙ (short-exactly room u).1 l)
    where
      go : expand room p ≡ refused_output 12 → Meaning p → (u : List ℕ) × StandsFor p u × (room < length u)
      go e (inl q) = let z : ◌≡◌ {A = ℕ} 34 12 = cc in absurd (omega arith)
      go e (inr (u, s)) = (u, s, (short-exactly room u).0 (sym (expands-to u s) ∙ e))

pub refuses-exactly : RefusesExactly
refuses-exactly = record {
  stands = λ p u. (stands-for p u, stood-for p u);
  bad = bad-exactly;
  too_long = too_long_exactly;
  shorten_too_long = λ room u. short-exactly room (payload_of u);
  shorten_only = λ room u r e. (refused-by room (payload_of u) r e).0;
}

-- ---- the claims about the code's answers

-- bytes that fit are counted, and lie at the buffer's front
put_front : (o : ℕ → Output) (buffer out : List ℕ) (r : Result ℕ Refusal) (bs : List ℕ) → PutOut o buffer r out
    → o (length buffer) ≡ for-room (length buffer) bs → length bs ≤ length buffer → (r ≡ Ok (length bs)) × (take (length bs) out ≡ bs)
put_front o buffer out r bs w e h =
    let a = put_all o buffer out r (length bs) bs w (e ∙ fits (length buffer) bs h) in
    (a.0, ap (take (length bs)) a.1 ∙ take-append_seam bs (drop (length bs) buffer))

-- shortening that gave a count: the payload lies at the buffer's front
shortened : (u buffer : List ℕ) (n : ℕ) (out : List ℕ) → ShortenedTo u buffer (Ok n) out → take n out ≡ payload_of u
shortened u buffer n out w =
    let p = put-counted (λ room. shorten room u) buffer out n w in
    let g = given (length buffer) (payload_of u) n p.0 p.1 in
    rw (p.2, ← g.1, ← g.0) (take-append_seam (payload_of u) (drop (length (payload_of u)) buffer))

pub calls : Calls
calls = record {
  there_and_back = λ u buffer n out buffer' r out' h w v.
      put_front (λ room. expand room (take n out)) buffer' out' r u v (rw (shortened u buffer n out w) (ap (expand_by (length buffer')) (back u))) h;
  bad = λ p buffer r out w. Iff.trans (refused-exactly (expand (length buffer) p) r BadUri w.0) (bad-exactly (length buffer) p);
  too_long = λ p buffer r out w. Iff.trans (refused-exactly (expand (length buffer) p) r ShortBuffer w.0) (too_long_exactly (length buffer) p);
  shortens = λ u buffer r out w h. put_front (λ room. shorten room u) buffer out r (payload_of u) w refl h;
}
