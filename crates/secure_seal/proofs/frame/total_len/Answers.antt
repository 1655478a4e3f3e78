-- `secure_seal::frame::total_len` meets its contract: fourteen more than the payload, or the padded payload.
use native.Mathlib.Omega.{arith}
use Rattle.secure_cipher.proofs.PadLaws.{length-pad_data}
use Rattle.secure_seal.specs.Seal.{data_len_for}
use Rattle.secure_seal.proofs.frame.total_len.Goals as goal

pub returns-then-encrypt : goal.returns-then-encrypt
unfolding data_len_for
returns-then-encrypt c = rw c.if-encrypt.true (omega (arith, length-pad_data c.args.«data».now))

pub returns-else-encrypt : goal.returns-else-encrypt
unfolding data_len_for
returns-else-encrypt c = rw c.if-encrypt.false (omega arith)
