-- What a payload stands for, from the tests that the code makes.
-- Assumes nothing.
use mathlib.Core.Path.{◌≡◌, refl}
use mathlib.Core.Bool.{Bool, true, false, cond}
use mathlib.Core.List.{List, [], ◌∷◌, ◌++◌}
use Prim.Native.Nat.{ℕ, ◌-◌, ◌≤◌, ◌<◌}
use native.Mathlib.Omega.{arith}
use lib.Dec.{ltb}
use lib.ListN.{length, take, drop, length-drop}
use lib.Seq.{take_all}
use borrow.Author.Tests.{lt-ltb, le-ltb}
use Rattle.tag.specs.Bytes.{byte}
use Rattle.tag.proofs.Logic.{true-false}
use Rattle.uri.specs.Prefixes.{codes, prefix}
use Rattle.uri.specs.Payload.{uri, refused, uri_of, is_uri}

pub no_byte : (payload : List ℕ) → length payload ≡ 0 → uri_of payload ≡ refused 34
unfolding uri_of
no_byte [] e = refl
no_byte (code ∷ rest) e = absurd (omega arith)

pub no_code : (payload : List ℕ) → codes ≤ byte payload 0 → uri_of payload ≡ refused 34
unfolding uri_of
no_code [] h = refl
no_code (code ∷ rest) h = rw (le-ltb code codes h)

pub some-code : (payload : List ℕ) → (length payload ≡ 0 → ⊥) → byte payload 0 < codes → uri_of payload ≡ uri (prefix (byte payload 0) ++ drop 1 payload)
unfolding uri_of
some-code [] f h = absurd (f refl)
some-code (code ∷ rest) f h = rw (lt-ltb code codes h)

-- the only refusal is 34
pub not-a-uri : (payload : List ℕ) → is_uri (uri_of payload) ≡ false → uri_of payload ≡ refused 34
unfolding uri_of
not-a-uri [] e = refl
not-a-uri (code ∷ rest) e = go (ltb code codes) e
  where
    go : (b : Bool) → is_uri (cond b (uri (prefix code ++ rest)) (refused 34)) ≡ false → cond b (uri (prefix code ++ rest)) (refused 34) ≡ refused 34
    go true e = absurd (true-false refl e)
    go false e = refl

-- a code and the rest, as the code takes them
pub taken_apart : (payload p : List ℕ) → 1 ≤ length payload → byte payload 0 < codes → p ≡ prefix (byte payload 0)
    → uri_of payload ≡ uri (p ++ take (length payload - 1) (drop 1 payload))
taken_apart payload p some h e =
    let rest : take (length payload - 1) (drop 1 payload) ≡ drop 1 payload = take_all (length payload - 1) (drop 1 payload) (rw length-drop (omega arith)) in
    rw (e, rest) (some-code payload (λ z. omega arith) h)
