-- `wipe` meets its contract: there is room for all the zeros.
use native.Mathlib.Omega.{arith}
use Rattle.slices.proofs.CopyLaws.{zeroed_all}
use Rattle.secure_cipher.specs.Cbc.{wiped}
use Rattle.secure_unseal.proofs.frame.wipe.Goals as goal

pub returns : goal.returns
unfolding wiped
returns c =
    let a = c.args in
    zeroed_all a.work.now 0 a.n c.zero.ensures (omega arith)
