-- The code's skip table, and the addresses that it leaves usable. A skipped address has as its entry the end of an area that covers
-- it, or the end of the data area if that comes first. Any other address has 0: the usable addresses still to come are those whose
-- entry is 0.
-- Assumes nothing.
use Rattle.std.specs.Prelude.{Bool, true, false, ◌&&◌, List, [], ◌∷◌, ℕ, zero, suc, leb, ltb, eqb}
use Rattle.tag.specs.Bytes.{byte}

-- the usable addresses among the n from a on
unfoldable pub unskipped : List ℕ → ℕ → ℕ → List ℕ
unskipped table a zero = []
unskipped table a (suc n) = elim (eqb (byte table a) 0) [ true ↦ a ∷ unskipped table (suc a) n | false ↦ unskipped table (suc a) n ]

-- are the n addresses from a on all usable
unfoldable pub none_skipped : List ℕ → ℕ → ℕ → Bool
none_skipped table a zero = true
none_skipped table a (suc n) = eqb (byte table a) 0 && none_skipped table (suc a) n

-- is x a usable address from first up to stop
abbrev pub usable_in : List ℕ → ℕ → ℕ → ℕ → Bool
usable_in table first stop x = leb first x && (ltb x stop && eqb (byte table x) 0)
