-- The value so far, run over the words that are left, gives the CRC of all.
use Rattle.std.proofs.Common.{◌≡◌, ◌*◌, ◌%◌, ◌<◌, length, drop}
use Rattle.packet_sums.specs.Crc.{crc_from, crc_of}
use Rattle.packet_sums.proofs.crc.crc16.Given as goal

abbrev pub invariant-loop-word : goal.invariant-loop-word
invariant-loop-word l = (l.crc < 65536) × (crc_from l.crc (drop (l.word-index * 8) (drop (length l.bytes % 8) l.bytes)) ≡ crc_of l.bytes)
