-- The CRC (docs/RULES.md, 2.6): polynomial 1021 hex, start 1D0F, high bit first, no final change.
-- Assumes nothing.
use Rattle.std.specs.Prelude.{ℕ, zero, suc, ◌*◌, ◌/◌, ◌%◌, cond, List, [], ◌∷◌, ◌==◌, bit_xor}

abbrev pub polynomial : ℕ
polynomial = 0x1021

abbrev pub crc_start : ℕ
crc_start = 0x1D0F

-- the polynomial is added where a 1 fell out at the top
unfoldable pub reduce : ℕ → ℕ → ℕ
reduce out c = cond (out == 0) c (bit_xor c polynomial)

-- one bit: the sixteen bits move up by one
unfoldable pub crc_bit : ℕ → ℕ
crc_bit c = reduce (c / 32768 % 2) (c * 2 % 65536)

-- n bits
unfoldable pub crc_bits : ℕ → ℕ → ℕ
crc_bits zero c = c
crc_bits (suc n) c = crc_bit (crc_bits n c)

-- a byte goes in at the top, and eight bits are moved out
unfoldable pub crc_byte : ℕ → ℕ → ℕ
crc_byte c b = crc_bits 8 (bit_xor c (b * 256))

-- the bytes one after the other, from the value c
unfoldable pub crc_from : ℕ → List ℕ → ℕ
crc_from c [] = c
crc_from c (b ∷ bs) = crc_from (crc_byte c b) bs

abbrev pub crc_of : List ℕ → ℕ
crc_of s = crc_from crc_start s
