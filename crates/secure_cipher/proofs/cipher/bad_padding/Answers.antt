-- `secure_cipher::cipher::bad_padding` meets its contract: zeros over the first n bytes.
use mathlib.Core.Path.{ap}
use mathlib.Core.List.{List, []}
use Prim.Native.Nat.{ℕ}
use native.Mathlib.Omega.{arith}
use Rattle.laws.specs.Answer.{Answer.refused}
use Rattle.slices.proofs.CopyLaws.{zeroed_all}
use Rattle.secure_cipher.specs.Cbc.{wiped}
use Rattle.secure_cipher.proofs.CbcCalls.{cipher_done}
use Rattle.secure_cipher.proofs.cipher.bad_padding.Goals as goal

pub returns : goal.returns
unfolding wiped
returns c =
    let a = c.args in
    ap (λ (o : List ℕ). cipher_done (refused 14 []) o a.calls) (zeroed_all a.out.now 0 a.n c.zero.ensures (omega arith))
