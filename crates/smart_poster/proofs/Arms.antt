-- What a record gives by its kind, and a message that does not read.
-- Assumes nothing.
use mathlib.Core.Path.{◌≡◌, refl}
use mathlib.Core.Bool.{false}
use mathlib.Core.List.{List}
use Prim.Native.Nat.{ℕ, zero, suc, ◌-◌}
use native.Mathlib.Numerals.{sub-one}
use Rattle.ndef.specs.Message.{message_of}
use Rattle.ndef.specs.Message as message
use Rattle.uri.specs.Payload.{uri_of, is_uri}
use Rattle.uri.proofs.Expanding.{not-a-uri}
use Rattle.smart_poster.specs.Uris.{Uris, of_payload, of_parsed, of_poster, of_message}
use Rattle.smart_poster.specs.First.{refused, first_in}

pub no-uri : (payload : List ℕ) → is_uri (uri_of payload) ≡ false → refused 34 ≡ first_in (of_payload (uri_of payload))
unfolding of_payload first_in
no-uri payload q = rw (not-a-uri payload q) refl

pub too-deep : (payload : List ℕ) (posters : ℕ) → posters ≡ 0 → refused 35 ≡ first_in (of_poster posters payload)
unfolding of_poster first_in
too-deep payload posters z = rw z refl

-- the poster's message, one poster less being allowed inside it
pub inside-it : (payload : List ℕ) (posters : ℕ) → (posters ≡ 0 → ⊥) → of_message (posters - 1) payload ≡ of_poster posters payload
unfolding of_poster
inside-it payload zero f = absurd (f refl)
inside-it payload (suc n) f = rw sub-one refl

pub unreadable : (inner : List ℕ → Uris) (s : List ℕ) (r : ℕ) → message_of s ≡ message.refused r → refused r ≡ first_in (of_parsed inner (message_of s))
unfolding of_parsed first_in
unreadable inner s r e = rw e refl
