-- `crc::crc_byte` meets its contract: what it works out by shifts is the step bit by bit, by a test at each power of two.
use Rattle.std.proofs.Common.{ap, ◌∙◌, arith}
use Rattle.packet_sums.specs.Crc.{reduce, crc_bit, crc_bits, crc_byte}
use Rattle.packet_sums.proofs.Linear.{log_of}
use Rattle.packet_sums.proofs.Step.{shift-byte}
use Rattle.packet_sums.proofs.crc.crc_byte.Goals as goal

pub returns : goal.returns
unfolding log_of crc_byte crc_bits crc_bit reduce
returns c = shift-byte _ _ _ (tt, tt, tt) tt c.args.crc c.from.result (omega arith) (omega (arith, c.from.ensures)) ∙ ap (crc_byte c.args.crc) c.from.ensures
