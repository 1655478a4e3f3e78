-- `aes::schedule::half` meets its contract: a shift by four bytes moves the first column to the second.
use Rattle.aes.proofs.KeyHalves.{carry-packed}
use Rattle.aes.proofs.schedule.half.Goals as goal

pub returns : goal.returns
returns c = carry-packed c.args.x c.args.v
