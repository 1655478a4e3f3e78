-- Each turn takes five bytes or more off the line, and it stops at LONGEST.
use Rattle.std.proofs.Common.{◌≡◌, ◌-◌, length}
use Rattle.driver.proofs.list.Given as goal

abbrev pub invariant-loop-at : goal.invariant-loop-at
invariant-loop-at g l = 1440 ≡ length l.room

abbrev pub decreases-loop-at : goal.decreases-loop-at
decreases-loop-at g l = 0x4000000000000000 - l.at
