-- FIPS 197, section 4: bytes as elements of GF(2^8), the field of two to the eighth elements.
-- Assumes nothing.
use Rattle.std.specs.Prelude.{ℕ, zero, suc, ◌*◌, ◌/◌, ◌%◌}
use Rattle.std.specs.Int.Bits.{bit_xor}

infixl 68 ◌⊕◌
-- 4.1: the sum of two bytes
unfoldable pub ◌⊕◌ : ℕ → ℕ → ℕ
a ⊕ b = bit_xor a b

-- 4.2: XTIMES, x times a byte: a shift to the left, and 1b where a bit falls out
unfoldable pub xtime : ℕ → ℕ
xtime a = (a * 2 % 256) ⊕ (a / 128 * 0x1b)

-- nothing for a bit that is 0, the byte for one that is 1
abbrev pub bit_times : ℕ → ℕ → ℕ
bit_times zero a = 0
bit_times (suc d) a = a

-- the products of a, x a, x x a, .. with the n lowest bits of b, summed
unfoldable pub bits_times : ℕ → ℕ → ℕ → ℕ
bits_times zero b a = 0
bits_times (suc n) b a = bit_times (b % 2) a ⊕ bits_times n (b / 2) (xtime a)

-- 4.2: the product of two bytes
infixl 70 ◌•◌
unfoldable pub ◌•◌ : ℕ → ℕ → ℕ
b • a = bits_times 8 b a

-- a to the power 2 + 4 + .. + 2^n
unfoldable pub squares : ℕ → ℕ → ℕ
squares zero a = 1
squares (suc n) a = (a • a) • squares n (a • a)

-- 4.4: the inverse of a byte that is not 0, and 0 for 0: its power 254
unfoldable pub inverse : ℕ → ℕ
inverse a = squares 7 a
