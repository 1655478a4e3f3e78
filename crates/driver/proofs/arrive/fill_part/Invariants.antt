-- What has come lies within the part, whose length stays, and each turn brings a byte or more.
use Rattle.std.proofs.Common.{◌≡◌, ◌-◌, ◌≤◌, length}
use Rattle.driver.proofs.arrive.fill_part.Given as goal

abbrev pub invariant-loop-n : goal.invariant-loop-n
invariant-loop-n g l = (l.n ≤ length l.part) × (length l.part ≡ length l.initial.part)

abbrev pub decreases-loop-n : goal.decreases-loop-n
decreases-loop-n g l = length l.part - l.n
