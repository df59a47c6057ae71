-- How a command's bytes are tested: by the opening, in three parts, and by what follows it.
-- Assumes nothing.
use mathlib.Core.Path.{◌≡◌, refl, sym, ap, ◌∙◌}
use mathlib.Core.Bool.{Bool, true, false, ◌&&◌, and-false}
use mathlib.Core.List.{List, [], ◌∷◌, ◌++◌}
use Prim.Native.Nat.{ℕ, zero, suc, ◌+◌, ◌-◌, ◌*◌, ◌/◌, ◌<◌, ◌≤◌}
use native.Mathlib.Omega.{arith}
use borrow.Author.Tests.{leb-true, leb-false, eqb-true, eqb-false, eq-eqb, ne_eqb}
use lib.Dec.{leb, eqb}
use lib.Pointwise.{pointwise}
use lib.ListN.{length, take, drop, length-take, length-drop, get_or-eq_default}
use lib.Seq.{length-take-le, drop-drop, get_or-drop, take-add}
use Rattle.std.specs.List.{list_all}
use Rattle.std.specs.Simd.{first_chunks}
use Rattle.std.proofs.lemmas.List.{take-take, drop-take}
use Rattle.tag.specs.Bytes.{byte, same}
use Rattle.tag.proofs.Same.{same-append, same-lengths}
use Rattle.type3.specs.Update.{blocks_per_command}
use Rattle.type3.specs.Codec.{opening}
use Rattle.type3.proofs.Codec.{length-opening}
use Rattle.type3_commands.specs.Views.InPlace.{is_begun, well_begun, framed_by, framed}

eqb-below : (a b k l m : ℕ) → l ≡ k + a → m ≡ k + b → eqb l m ≡ eqb a b
eqb-below a b k l m p q = go (eqb a b) refl
  where
    go : (c : Bool) → eqb a b ≡ c → eqb l m ≡ c
    go true e = let h = eqb-true a b e in eq-eqb l m (omega arith)
    go false e = ne_eqb l m (λ h. eqb-false a b e (omega arith))

-- the code's comparison is the definition's
pointwise-same : (a b : List ℕ) → pointwise eqb a b ≡ same a b
pointwise-same [] [] = refl
pointwise-same [] (y ∷ b) = refl
pointwise-same (x ∷ a) [] = refl
pointwise-same (x ∷ a) (y ∷ b) = ap (λ q. eqb x y && q) (pointwise-same a b)

module _ (idm bytes : List ℕ) where
  abbrev one : Bool
  one = pointwise eqb (take 1 bytes) (0x08 ∷ [])

  abbrev two : Bool
  two = pointwise eqb (take 8 (drop 1 bytes)) idm

  abbrev three : Bool
  three = pointwise eqb (take 3 (drop 8 (drop 1 bytes))) (0x01 ∷ 0x09 ∷ 0x00 ∷ [])

  -- the opening is compared in three parts
  opening-parts : length idm ≡ 8 → 12 ≤ length bytes → same (take 12 bytes) (opening idm) ≡ one && (two && three)
  opening-parts n l =
      ap (λ x. same x (opening idm)) (take-add 1 11 bytes ∙ ap (λ x. take 1 bytes ++ x) (take-add 8 3 (drop 1 bytes)))
      ∙ same-append (take 1 bytes) (take 8 (drop 1 bytes) ++ take 3 (drop 8 (drop 1 bytes))) (0x08 ∷ []) (idm ++ 0x01 ∷ 0x09 ∷ 0x00 ∷ [])
      (length-take-le 1 bytes (omega arith))
      ∙ ap (λ q. same (take 1 bytes) (0x08 ∷ []) && q)
      (same-append (take 8 (drop 1 bytes)) (take 3 (drop 8 (drop 1 bytes))) idm (0x01 ∷ 0x09 ∷ 0x00 ∷ []) (omega (arith, length-take-le 8 (drop 1 bytes) (omega (arith, length-drop 1 bytes)))))
      ∙ sym (rw (pointwise-same (take 1 bytes) (0x08 ∷ []), pointwise-same (take 8 (drop 1 bytes)) idm, pointwise-same (take 3 (drop 8 (drop 1 bytes))) (0x01 ∷ 0x09 ∷ 0x00 ∷ [])))

  -- where it is too short, it differs
  unopened : length idm ≡ 8 → one && (two && three) ≡ false → same (take 12 bytes) (opening idm) ≡ false
  unopened n q = go (leb 12 (length bytes)) refl
    where
      go : (c : Bool) → leb 12 (length bytes) ≡ c → same (take 12 bytes) (opening idm) ≡ false
      go true e = opening-parts n (leb-true 12 (length bytes) e) ∙ q
      go false e =
          same-lengths (take 12 bytes) (opening idm)
          (λ h. omega (arith, h, length-take 12 bytes, length-opening idm, leb-false 12 (length bytes) e))

  -- the three tests, one after the other
  module _ (n : length idm ≡ 8) where
    pub not-code : one ≡ false → same (take 12 bytes) (opening idm) ≡ false
    not-code q = unopened n (rw q)

    module _ (first : List ℕ) (past-code : first ≡ drop 1 bytes) where
      id-is : pointwise eqb (take (length idm) first) idm ≡ two
      id-is = ap (λ k. pointwise eqb (take k first) idm) n ∙ rw past-code

      pub not-ours : pointwise eqb (take (length idm) first) idm ≡ false → same (take 12 bytes) (opening idm) ≡ false
      not-ours q = unopened n (rw (sym id-is ∙ q, and-false one))

      module _ (second : List ℕ) (past-id : second ≡ drop (length idm) first) where
        second-is : second ≡ drop 8 (drop 1 bytes)
        second-is = past-id ∙ ap (λ k. drop k first) n ∙ ap (drop 8) past-code

        service-is : pointwise eqb (take 3 second) (0x01 ∷ 0x09 ∷ 0x00 ∷ []) ≡ three
        service-is = rw second-is

        pub not-service : pointwise eqb (take 3 second) (0x01 ∷ 0x09 ∷ 0x00 ∷ []) ≡ false → same (take 12 bytes) (opening idm) ≡ false
        not-service q = unopened n (rw (sym service-is ∙ q, and-false two, and-false one))

        pub all-open : one ≡ true → pointwise eqb (take (length idm) first) idm ≡ true → pointwise eqb (take 3 second) (0x01 ∷ 0x09 ∷ 0x00 ∷ []) ≡ true
            → 12 ≤ length bytes → same (take 12 bytes) (opening idm) ≡ true
        all-open a b c l = opening-parts n l ∙ rw (a, sym id-is ∙ b, sym service-is ∙ c)

        module _ (third : List ℕ) (past-service : third ≡ drop 3 second) where
          third-is : third ≡ drop 12 bytes
          third-is = past-service ∙ ap (drop 3) second-is ∙ drop-drop 3 8 (drop 1 bytes) ∙ drop-drop 11 1 bytes

          pub count-is : byte third 0 ≡ byte bytes 12
          count-is = ap (λ r. byte r 0) third-is ∙ get_or-drop 12 bytes 0 0

          pub rest-is : drop 1 third ≡ drop 13 bytes
          rest-is = ap (drop 1) third-is ∙ drop-drop 1 12 bytes

-- the first elements are among the first bytes
first-chunks-take : (k n : ℕ) (xs : List ℕ) → 2 * k ≤ n → first_chunks 2 k (take n xs) ≡ first_chunks 2 k xs
first-chunks-take zero n xs h = refl
first-chunks-take (suc k) n xs h =
    let e : n ≡ 2 + (n - 2) = omega arith in
    let rest : drop 2 (take n xs) ≡ take (n - 2) (drop 2 xs) = ap (λ m. drop 2 (take m xs)) e ∙ drop-take 2 (n - 2) xs in
    rw (take-take 2 n xs (omega arith), rest, first-chunks-take k (n - 2) (drop 2 xs) (omega arith))

module _ (idm : List ℕ) (nbw : ℕ) (bytes : List ℕ) where
  -- the count is 0 where it is not there
  pub framed-short : length bytes < 13 → framed idm nbw bytes ≡ false
  unfolding framed_by
  framed-short l =
      let none : byte bytes 12 ≡ 0 = get_or-eq_default bytes 0 (omega arith) in
      rw none

  -- the opening
  abbrev opened : Bool
  opened = same (take 12 bytes) (opening idm)

  pub not-opened : opened ≡ false → framed idm nbw bytes ≡ false
  unfolding framed_by
  not-opened q =
      let counted = leb 1 (byte bytes 12) && leb (byte bytes 12) (blocks_per_command nbw) && eqb (length bytes) (13 + 18 * byte bytes 12) in
      rw (q, and-false counted)

  module _ (o : opened ≡ true) (l : 13 ≤ length bytes) (rest : List ℕ) (r : rest ≡ drop 13 bytes) (k : ℕ) (count : k ≡ byte bytes 12) where
    abbrev allowed : Bool
    allowed = leb 1 k && leb k (blocks_per_command nbw)

    pub framed-parts : framed idm nbw bytes ≡ allowed && eqb (length rest) (18 * k) && true && well_begun k rest
    unfolding framed_by
    framed-parts =
        let sized : eqb (length bytes) (13 + 18 * k) ≡ eqb (length rest) (18 * k)
        = eqb-below (length rest) (18 * k) 13 (length bytes) (13 + 18 * k) (omega (arith, ap length r, length-drop 13 bytes)) refl in
        ap (λ b. framed_by idm nbw b bytes) (sym count) ∙ rw (sized, o, sym r)

    pub blockdata-is : drop (2 * k) rest ≡ drop (13 + 2 * byte bytes 12) bytes
    blockdata-is = ap (drop (2 * k)) r ∙ drop-drop (2 * k) 13 bytes ∙ ap (λ m. drop (13 + 2 * m) bytes) count

    pub not-countable : allowed ≡ false → framed idm nbw bytes ≡ false
    not-countable q = framed-parts ∙ rw q

    pub not-sized : (length rest ≡ 18 * k → ⊥) → framed idm nbw bytes ≡ false
    not-sized q = framed-parts ∙ rw (ne_eqb (length rest) (18 * k) q, and-false allowed)

    module _ (elements : List (List ℕ)) (are : elements ≡ first_chunks 2 (length (take (2 * k) rest) / 2) (take (2 * k) rest)) (size : length rest ≡ 18 * k) where
      pub elements-are : elements ≡ first_chunks 2 (byte bytes 12) (drop 13 bytes)
      elements-are =
          let half : length (take (2 * k) rest) / 2 ≡ k = omega (arith, length-take-le (2 * k) rest (omega arith)) in
          are
          ∙ ap (λ m. first_chunks 2 m (take (2 * k) rest)) half
          ∙ first-chunks-take k (2 * k) rest (omega arith)
          ∙ ap (λ m. first_chunks 2 m rest) count
          ∙ ap (first_chunks 2 (byte bytes 12)) r

      begun-are : list_all is_begun elements ≡ well_begun k rest
      begun-are = ap (list_all is_begun) elements-are ∙ rw (sym count, sym r)

      pub not-begun : list_all is_begun elements ≡ false → framed idm nbw bytes ≡ false
      not-begun q = framed-parts ∙ rw (sym begun-are ∙ q, and-false (allowed && eqb (length rest) (18 * k) && true))

      pub is-framed : allowed ≡ true → list_all is_begun elements ≡ true → framed idm nbw bytes ≡ true
      is-framed q b = framed-parts ∙ rw (q, eq-eqb (length rest) (18 * k) size, sym begun-are ∙ b)
