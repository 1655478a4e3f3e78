-- Numbers that stand one behind the other in bytes, each low byte first, and records of one layout (docs/RULES.md, 13.1).
-- Assumes nothing.
use Rattle.std.specs.Prelude.{ℕ, zero, suc, ◌+◌, List, [], ◌∷◌, ◌++◌, get_or, take, drop}
use Rattle.slices.specs.Number.{low_first, low_number}

-- how many bytes numbers of these widths take
abbrev pub span_of : List ℕ → ℕ
span_of [] = 0
span_of (w ∷ ws) = w + span_of ws

-- the numbers of these widths at the front of s
abbrev pub numbers_in : List ℕ → List ℕ → List ℕ
numbers_in [] s = []
numbers_in (w ∷ ws) s = low_number (take w s) ∷ numbers_in ws (drop w s)

-- numbers, each in as many bytes as its width says
abbrev pub numbers_laid : List ℕ → List ℕ → List ℕ
numbers_laid [] vs = []
numbers_laid (w ∷ ws) vs = low_first w (get_or vs 0 0) ++ numbers_laid ws (drop 1 vs)

-- n records of one layout, each made of its numbers
unfoldable pub records_of : {R : Type 0} → List ℕ → (List ℕ → R) → ℕ → List ℕ → List R
records_of ws made zero s = []
records_of ws made (suc n) s = made (numbers_in ws s) ∷ records_of ws made n (drop (span_of ws) s)

-- records, each laid as its numbers
unfoldable pub records_laid : {R : Type 0} → List ℕ → (R → List ℕ) → List R → List ℕ
records_laid ws numbers [] = []
records_laid ws numbers (r ∷ rs) = numbers_laid ws (numbers r) ++ records_laid ws numbers rs
