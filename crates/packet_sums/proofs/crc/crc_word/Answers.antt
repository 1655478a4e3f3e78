-- `crc::crc_word` meets its contract: the shifts give what the bits give one after the other, by a
-- test at each power of two.
use Rattle.std.proofs.Common.{arith}
use Rattle.packet_sums.specs.Crc.{reduce, crc_bit, crc_bits, crc_byte, crc_from}
use Rattle.packet_sums.specs.Word.{bytes_of, crc_word}
use Rattle.packet_sums.proofs.Linear.{log_of}
use Rattle.packet_sums.proofs.Step.{shift_word}
use Rattle.packet_sums.proofs.crc.crc_word.Goals as goal

pub returns : goal.returns
unfolding log_of crc_word bytes_of crc_from crc_byte crc_bits crc_bit reduce
returns c = shift_word _ _ _ _ _ _ _ _ _ _ _ ((tt, tt, tt), (tt, tt, tt), (tt, tt), tt, (tt, tt)) tt c.args.z (omega arith)
