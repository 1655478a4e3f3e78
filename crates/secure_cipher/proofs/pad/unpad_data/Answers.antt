-- `secure_cipher::pad::unpad_data` meets its contract: the last byte that is not zero is the one the definition finds.
use Rattle.std.proofs.Common.{rules}
use Rattle.secure_cipher.proofs.PadLaws.{unpad_blank, unpad-last, unpad-other}
use Rattle.secure_cipher.proofs.pad.unpad_data.Goals as goal

pub returns-in-Some : goal.returns-in-Some
returns-in-Some c = unpad-last c.args.buf.now c.in-Some.last (search rules) (search rules) (search rules)

pub returns-in_default : goal.returns-in_default
returns-in_default c = unpad-other c.args.buf.now c.in-Some.last (search rules) (search rules) (search rules) (search rules)

pub returns-in_default-2 : goal.returns-in_default-2
returns-in_default-2 c = unpad_blank c.args.buf.now (search rules)
