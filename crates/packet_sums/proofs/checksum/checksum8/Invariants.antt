-- The bytes that are left and the sum so far make the sum of all, modulo 256.
use Rattle.std.proofs.Common.{◌≡◌, ◌+◌, ◌%◌, drop}
use Rattle.packet_sums.specs.Checksum.{sum_of}
use Rattle.packet_sums.proofs.checksum.checksum8.Given as goal

abbrev pub invariant-loop-byte : goal.invariant-loop-byte
invariant-loop-byte l = (l.sum + sum_of (drop l.byte-index l.bytes)) % 256 ≡ sum_of l.bytes % 256
