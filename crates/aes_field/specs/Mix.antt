-- FIPS 197, 5.1.3 and 5.3.3: a byte of a mixed column, from a, the byte in its place, and b, c, d, the three below it, where the first
-- row comes after the last.
-- Assumes nothing.
use Rattle.std.specs.Prelude.{ℕ}
use Rattle.aes_field.specs.Field.{◌⊕◌, ◌•◌}

-- 5.1.3, MIXCOLUMNS: each row of its matrix is 02 03 01 01, turned to start at the row's own byte
abbrev pub mix_byte : ℕ → ℕ → ℕ → ℕ → ℕ
mix_byte a b c d = 0x02 • a ⊕ 0x03 • b ⊕ c ⊕ d

-- 5.3.3, INVMIXCOLUMNS: 0e 0b 0d 09
abbrev pub inv_mix_byte : ℕ → ℕ → ℕ → ℕ → ℕ
inv_mix_byte a b c d = 0x0e • a ⊕ 0x0b • b ⊕ 0x0d • c ⊕ 0x09 • d
