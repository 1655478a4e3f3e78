-- The checksum (docs/RULES.md, 2.5): the byte that makes the sum of all 0 modulo 256.
-- Assumes nothing.
use Rattle.std.specs.Prelude.{ℕ, ◌+◌, ◌-◌, ◌%◌, List, [], ◌∷◌}

-- the sum
unfoldable pub sum_of : List ℕ → ℕ
sum_of [] = 0
sum_of (x ∷ xs) = x + sum_of xs

-- the sum negated, modulo 256
unfoldable pub checksum_of : List ℕ → ℕ
checksum_of s = (256 - sum_of s % 256) % 256
