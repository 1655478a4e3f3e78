-- The number so far is the pairs before the place where the loop is, behind FF FF.
use Rattle.std.proofs.Common.{◌≡◌, ◌*◌, take}
use Rattle.packet_sums.specs.Word.{word_from}
use Rattle.packet_sums.proofs.crc.crc_head.Given as goal

abbrev pub invariant-loop-pair : goal.invariant-loop-pair
invariant-loop-pair l = l.word ≡ word_from 0xFFFF (take (l.pair-index * 2) l.head)
