-- `slices::over::lay` meets its contract: before turn i, the first i bytes of src are written.
use Prim.Native.Nat.{◌≤◌, ◌-◌}
use mathlib.Core.Path.{◌≡◌}
use lib.ListN.{length}
use Rattle.slices.proofs.Pasted.{Pasted}
use Rattle.slices.proofs.over.lay.Given as goal

abbrev pub invariant-loop-i : goal.invariant-loop-i
invariant-loop-i l = (l.i ≤ length l.src) × ((l.i-end ≡ length l.src) × Pasted l.initial.out l.at l.src l.i l.out)

abbrev pub decreases-loop-i : goal.decreases-loop-i
decreases-loop-i l = length l.src - l.i
