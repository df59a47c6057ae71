-- Worked skip tables, with the addresses that a search tests there. `SpecimensTested` claims all rows at once, and the checker computes
-- them.
-- Assumes nothing.
use Rattle.std.specs.Prelude.{◌≡◌, ◌&&◌, cond, List, [], ◌∷◌, map, ℕ, suc, ◌-◌, leb, ltb, replicate}
use Rattle.tlv.specs.Views.Search.{tests}

-- ---- tables

-- entries with an area from first up to stop entered; x is the address of the first entry
unfoldable pub entered_from : ℕ → ℕ → ℕ → List ℕ → List ℕ
entered_from first stop x [] = []
entered_from first stop x (e ∷ es) = cond (leb first x && ltb x stop) stop e ∷ entered_from first stop (suc x) es

-- the table with one area more
abbrev pub entered : ℕ → ℕ → List ℕ → List ℕ
entered first stop t = entered_from first stop 0 t

-- the table with these areas more, one after the other, each given by its first address and its end
abbrev pub entered_all : List (ℕ × ℕ) → List ℕ → List ℕ
entered_all [] t = t
entered_all (r ∷ rs) t = entered_all rs (entered r.0 r.1 t)

-- ---- searches

-- a search from `at` on, and the addresses that it tests
pub record Row : Type 0 where
  pub areas : List (ℕ × ℕ)
  pub end : ℕ
  pub at : ℕ
  pub tested : List ℕ

abbrev pub rows : List Row
rows =
    -- no area: the address itself; at the end nothing is tested
    record { areas = []; end = 9; at = 4; tested = 4 ∷ [] }
    ∷ record { areas = []; end = 9; at = 9; tested = [] }
    -- one area: from its first address, from its last, from before it, from behind it
    ∷ record { areas = (2, 6) ∷ []; end = 9; at = 2; tested = 2 ∷ 6 ∷ [] }
    ∷ record { areas = (2, 6) ∷ []; end = 9; at = 5; tested = 5 ∷ 6 ∷ [] }
    ∷ record { areas = (2, 6) ∷ []; end = 9; at = 1; tested = 1 ∷ [] }
    ∷ record { areas = (2, 6) ∷ []; end = 9; at = 6; tested = 6 ∷ [] }
    -- an area up to the end
    ∷ record { areas = (2, 9) ∷ []; end = 9; at = 2; tested = 2 ∷ [] }
    -- one area behind the other
    ∷ record { areas = (2, 4) ∷ (4, 6) ∷ []; end = 9; at = 2; tested = 2 ∷ 4 ∷ 6 ∷ [] }
    -- the same area twice
    ∷ record { areas = (2, 6) ∷ (2, 6) ∷ []; end = 9; at = 2; tested = 2 ∷ 6 ∷ [] }
    -- two that overlap, in both orders
    ∷ record { areas = (2, 6) ∷ (4, 8) ∷ []; end = 9; at = 2; tested = 2 ∷ 6 ∷ 8 ∷ [] }
    ∷ record { areas = (2, 6) ∷ (4, 8) ∷ []; end = 9; at = 4; tested = 4 ∷ 8 ∷ [] }
    ∷ record { areas = (4, 8) ∷ (2, 6) ∷ []; end = 9; at = 4; tested = 4 ∷ 6 ∷ 8 ∷ [] }
    -- one inside the other: the outer first, the inner first
    ∷ record { areas = (2, 6) ∷ (3, 5) ∷ []; end = 9; at = 2; tested = 2 ∷ 6 ∷ [] }
    ∷ record { areas = (2, 6) ∷ (3, 5) ∷ []; end = 9; at = 3; tested = 3 ∷ 5 ∷ 6 ∷ [] }
    ∷ record { areas = (3, 5) ∷ (2, 6) ∷ []; end = 9; at = 3; tested = 3 ∷ 6 ∷ [] }
    -- three, each an address shorter than the one before: as many tests as the bound allows; in the other order two
    ∷ record { areas = (2, 8) ∷ (2, 7) ∷ (2, 6) ∷ []; end = 9; at = 2; tested = 2 ∷ 6 ∷ 7 ∷ 8 ∷ [] }
    ∷ record { areas = (2, 6) ∷ (2, 7) ∷ (2, 8) ∷ []; end = 9; at = 2; tested = 2 ∷ 8 ∷ [] }
    ∷ []

abbrev pub SpecimensTested : Type 0
SpecimensTested =
    map (λ (r : Row). tests (entered_all r.areas (replicate r.end 0)) r.end (r.end - r.at) r.at) rows ≡ map (λ (r : Row). r.tested) rows
