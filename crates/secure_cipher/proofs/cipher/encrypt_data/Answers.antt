-- `secure_cipher::cipher::encrypt_data` meets its contract: where there is room, the blocks and their number.
use Prim.Native.Nat.{◌+◌, ◌*◌, ◌/◌}
use native.Mathlib.Omega.{arith}
use lib.ListN.{length}
use Rattle.secure_cipher.proofs.PadLaws.{length-pad_data}
use Rattle.secure_cipher.proofs.CbcCalls.{encrypt-short, encrypt-good}
use Rattle.std.proofs.lemmas.Grind.{common_steps}
use Rattle.secure_cipher.proofs.cipher.encrypt_data.Goals as goal

pub returns-in-Err : goal.returns-in-Err
returns-in-Err c =
    let a = c.args in
    let x = a.data.now in
    let h = c.in-Err.ensures.err in
    rw h.1 (encrypt-short a.s_enc a.iv x a.out.now (length x / 16 * 16 + 16) (omega (arith, length-pad_data x)) h.0)

pub returns : goal.returns
returns c = grind (arith, common_steps, length-pad_data, encrypt-short, encrypt-good)
