-- The trailers of worked frames (docs/RULES.md), and those of no bytes, computed from the definitions.
-- Assumes nothing.
use Rattle.std.proofs.Common.{◌≡◌, ℕ, List, [], ◌∷◌, refl}
use Rattle.slices.specs.Number.{low_first}
use Rattle.packet_sums.specs.Checksum.{sum_of, checksum_of}
use Rattle.packet_sums.specs.Crc.{reduce, crc_bit, crc_bits, crc_byte, crc_from, crc_of}

abbrev pub worked_sums : List (List ℕ)
worked_sums =
    low_first 2 (crc_of (0x53 ∷ 0x05 ∷ 0x08 ∷ 0x00 ∷ 0x04 ∷ 0x60 ∷ [])) ∷ (checksum_of (0x53 ∷ 0x05 ∷ 0x07 ∷ 0x00 ∷ 0x00 ∷ 0x60 ∷ []) ∷ [])
    ∷ (checksum_of (0x53 ∷ 0x05 ∷ 0x09 ∷ 0x00 ∷ 0x08 ∷ 0x02 ∷ 0x11 ∷ 0x60 ∷ []) ∷ []) ∷ (crc_of [] ∷ checksum_of [] ∷ []) ∷ []

pub worked_right : worked_sums ≡ (0xBC ∷ 0x89 ∷ []) ∷ (0x41 ∷ []) ∷ (0x24 ∷ []) ∷ (0x1D0F ∷ 0 ∷ []) ∷ []
unfolding sum_of checksum_of reduce crc_bit crc_bits crc_byte crc_from
worked_right = refl
