-- Numbers in bytes, the low byte first (docs/RULES.md, 2.1 and 2.6): LEN, the CRC.
-- Assumes nothing.
use Rattle.std.specs.Prelude.{List, [], ◌∷◌, ℕ, zero, suc, ◌+◌, ◌*◌, ◌/◌, ◌%◌}

-- the `width` low bytes of a number
abbrev pub low_first : (width x : ℕ) → List ℕ
low_first zero x = []
low_first (suc w) x = x % 256 ∷ low_first w (x / 256)

-- the number that bytes make
abbrev pub low_number : List ℕ → ℕ
low_number [] = 0
low_number (b ∷ s) = b + 256 * low_number s
