-- The first n bytes and the last n, compared as arrays.
use Rattle.std.proofs.Common.{arith, ◌≡◌, ◌-◌, ◌*◌, ◌<◌, ◌≤◌, ◌∙◌, sym, ap, length, take, drop, ℕ, Bool, true, false, List, MatchOption}
use mathlib.Core.Bool.{◌&&◌}
use Rattle.std.specs.Array.{IsFirstChunk, IsWholeChunk}
use Rattle.tag.specs.Bytes.{same}
use Rattle.one_block_write.proofs.Ends.{Part, equal, compared, same_ends}
use Rattle.one_block_write.proofs.between.same_ends.Goals as goal

module _ (n : ℕ) (a b : List ℕ) (w : (n ≤ length a) × (length a ≤ 2 * n) × (length b ≡ length a)) where
  abbrev k : ℕ
  k = length a - n

  firsts : (r s : Part) → MatchOption r (length a < n) (λ x. IsFirstChunk a x.now n) → MatchOption s (length b < n) (λ x. IsFirstChunk b x.now n)
      → equal r s ≡ same (take n a) (take n b)
  firsts = compared (take n a) (take n b) (λ h. omega (arith, w)) (λ h. omega (arith, w)) (λ x i. i.same) (λ x i. i.same)

  lasts : (r s : Part) → MatchOption r (length a < n) (λ x. (n ≤ length a) × IsWholeChunk (drop k a) x.now n)
      → MatchOption s (length b < n) (λ x. (n ≤ length b) × IsWholeChunk (drop (length b - n) b) x.now n)
      → equal r s ≡ same (drop k a) (drop k b)
  lasts r s i j =
      compared (drop k a) (drop (length b - n) b) (λ h. omega (arith, w)) (λ h. omega (arith, w)) (λ x i. i.1.same) (λ x i. i.1.same) r s i j
      ∙ ap (λ l. same (drop k a) (drop (l - n) b)) w.2

  -- the comparison of the first n gave t
  both : (t : Bool) → t ≡ same (take n a) (take n b) → t && same (drop k a) (drop k b) ≡ same a b
  both t e = ap (λ t. t && same (drop k a) (drop k b)) e ∙ same_ends n k a b (omega (arith, w)) w.0 w.2

pub returns-then-eq : goal.returns-then-eq
returns-then-eq g c =
    let n = g.row.N in
    let a = c.args.a.now in
    let b = c.args.b.now in
    let first = firsts n a b c.requires c.first_chunk.result c.first_chunk-2.result c.first_chunk.ensures.cases c.first_chunk-2.ensures.cases in
    let last = lasts n a b c.requires c.last_chunk.result c.last_chunk-then-eq.result c.last_chunk.ensures.cases c.last_chunk-then-eq.ensures.cases in
    c.eq-then-eq.ensures ∙ last ∙ both n a b c.requires true (sym c.if-eq.true ∙ c.eq.ensures ∙ first)

pub returns-else-eq : goal.returns-else-eq
returns-else-eq g c =
    let n = g.row.N in
    let a = c.args.a.now in
    let b = c.args.b.now in
    let first = firsts n a b c.requires c.first_chunk.result c.first_chunk-2.result c.first_chunk.ensures.cases c.first_chunk-2.ensures.cases in
    c.if-eq.false ∙ both n a b c.requires false (sym c.if-eq.false ∙ c.eq.ensures ∙ first)
