-- Bytes as one number, the first byte highest, and back: how the code takes eight bytes in a step. No promise of a public call names these.
-- Assumes nothing.
use Rattle.std.specs.Prelude.{ℕ, zero, suc, ◌+◌, ◌*◌, ◌/◌, ◌%◌, List, [], ◌∷◌, ◌++◌}
use Rattle.packet_sums.specs.Crc.{crc_from}

-- the number that a is, with the bytes written behind it
unfoldable pub word_from : ℕ → List ℕ → ℕ
word_from a [] = a
word_from a (b ∷ s) = word_from (a * 256 + b) s

-- the n lowest bytes of z
unfoldable pub bytes_of : ℕ → ℕ → List ℕ
bytes_of zero z = []
bytes_of (suc n) z = bytes_of n (z / 256) ++ (z % 256 ∷ [])

-- the CRC of those n bytes, from 0
unfoldable pub crc_word : ℕ → ℕ → ℕ
crc_word n z = crc_from 0 (bytes_of n z)
