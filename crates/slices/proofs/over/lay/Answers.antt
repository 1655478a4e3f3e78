-- `slices::over::lay` meets its contract: before turn i, the first i bytes of src are written.
use Prim.Native.Nat.{◌+◌}
use mathlib.Core.Path.{refl}
use native.Mathlib.Omega.{arith}
use Rattle.slices.proofs.Pasted.{pasted_more, pasted_all}
use Rattle.slices.proofs.over.lay.Goals as goal

pub loop-i-preserved : goal.loop-i-preserved
loop-i-preserved c = let a = c.args in
    let l = c.loop-i in
    (omega arith, (l.invariant.1.0, pasted_more (a.at + l.i) _ (l.i + 1) refl refl (omega arith) (omega arith) (omega arith) l.invariant.1.1))

pub returns : goal.returns
returns c = pasted_all (omega arith) c.loop-i.invariant.1.1
