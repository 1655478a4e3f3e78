-- Bytes written over a buffer from a place on (docs/RULES.md, 1.4).
-- Assumes nothing.
use Rattle.std.specs.Prelude.{cond, List, ℕ, length}
use Rattle.laws.specs.Bytes.{zeros}
use Rattle.laws.specs.Over.{write}
use Rattle.slices.specs.Place.{runs_past, fits}

-- all of s, or the buffer as it was where s would run past its end
unfoldable pub copy_of : List ℕ → ℕ → List ℕ → List ℕ
copy_of o at s = cond (runs_past (length o) at (length s)) o (write o at s)

-- n zeros, or as many as fit before its end
unfoldable pub zero_of : List ℕ → ℕ → ℕ → List ℕ
zero_of o at n = write o at (zeros (fits (length o) at n))
