-- The trailer's two kinds (docs/RULES.md, 2.1).
-- Assumes nothing.
use Rattle.std.specs.Prelude.{ℕ, Bool, true, false, cond}
use Rattle.packet_head.specs.Numbers.{MAC_LEN, CHECKSUM_LEN, CRC_LEN}
use Rattle.packet_head.specs.declared.trailer.Trailer.{Trailer}

pub data Tail : Type 0 where
  checksum : ℕ → Tail
  crc : ℕ → Tail

abbrev pub is_crc : Tail → Bool
is_crc (checksum n) = false
is_crc (crc n) = true

-- how many bytes it takes
abbrev pub trailer_len : Bool → ℕ
trailer_len use_crc = cond use_crc CRC_LEN CHECKSUM_LEN

-- how many bytes a MAC takes, where there is one
abbrev pub mac_len_of : Bool → ℕ
mac_len_of mac = cond mac MAC_LEN 0

-- ---- the code's kind, as the paper has it

abbrev pub tail : Trailer → Tail
tail (Trailer.Checksum n) = checksum n
tail (Trailer.Crc n) = crc n
