-- The end of a frame: a checksum, or a CRC with its low byte first (docs/RULES.md, 2.5, 2.6 and 3).
-- Assumes nothing.
use Rattle.std.specs.Prelude.{ℕ, ◌-◌, Bool, true, false, not, List, [], ◌∷◌, length, take, ◌==◌, slice_index, Result}
use Rattle.laws.specs.Answer.{Answer, Answer.given, refuse_if}
use Rattle.packet_sums.specs.Checksum.{checksum_of}
use Rattle.packet_sums.specs.Crc.{crc_of}
use Rattle.slices.specs.Number.{low_number}
use Rattle.refusal.specs.Reading.{answer}
use Rattle.refusal.specs.declared.Refusal.{Refusal}
use Rattle.packet_head.specs.Numbers.{CHECKSUM_LEN, CRC_LEN}
use Rattle.packet_head.specs.Trailer.{Tail, Tail.checksum, Tail.crc, tail}
use Rattle.packet_head.specs.declared.trailer.Trailer.{Trailer}

-- what the last two bytes say, and what the bytes before them want
abbrev pub crc_got : List ℕ → ℕ
crc_got f = low_number (slice_index f (length f - CRC_LEN) ∷ slice_index f (length f - 1) ∷ [])

abbrev pub crc_want : List ℕ → ℕ
crc_want f = crc_of (take (length f - CRC_LEN) f)

-- the same of the last byte
abbrev pub sum_got : List ℕ → ℕ
sum_got f = slice_index f (length f - CHECKSUM_LEN)

abbrev pub sum_want : List ℕ → ℕ
sum_want f = checksum_of (take (length f - CHECKSUM_LEN) f)

-- 7 for a CRC and 8 for a checksum: got, want
unfoldable pub trailer_of : List ℕ → Bool → Answer Tail
trailer_of f true = refuse_if (not (crc_got f == crc_want f)) 7 (crc_got f ∷ crc_want f ∷ []) (given (crc (crc_got f)))
trailer_of f false = refuse_if (not (sum_got f == sum_want f)) 8 (sum_got f ∷ sum_want f ∷ []) (given (checksum (sum_got f)))

-- ---- the code's answer, as the paper has it

abbrev pub trailer_answer : Result Trailer Refusal → Answer Tail
trailer_answer r = answer tail r
