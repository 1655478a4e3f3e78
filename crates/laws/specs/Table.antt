-- Functions of a number, written out as lists.
-- Assumes nothing.
use Rattle.std.specs.Prelude.{List, [], ◌∷◌, ℕ, zero, suc}

-- f i, f (i + 1), .., n of them
abbrev pub from : (ℕ → ℕ) → ℕ → ℕ → List ℕ
from f i zero = []
from f i (suc n) = f i ∷ from f (suc i) n

-- f 0 to f 255: a function of a byte
unfoldable pub table : (ℕ → ℕ) → List ℕ
table f = from f 0 256

-- f 0 to f 15: the block whose byte i is f i
unfoldable pub block_of : (ℕ → ℕ) → List ℕ
block_of f = from f 0 16
