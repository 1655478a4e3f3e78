-- Before turn r, keys has the round keys 0 to r, and c is 02 to the power r.
use Prim.Native.Nat.{◌≤◌, ◌-◌}
use mathlib.Core.Path.{◌≡◌}
use Rattle.aes.specs.KeyExpansion.{power}
use Rattle.aes.proofs.Expansion.{Expanded}
use Rattle.aes.proofs.schedule.expand.Given as goal

abbrev pub invariant-loop-r : goal.invariant-loop-r
invariant-loop-r l = (l.r ≤ 10) × ((l.c ≡ power l.r) × Expanded l.t l.fn.key l.keys l.r)

abbrev pub decreases-loop-r : goal.decreases-loop-r
decreases-loop-r l = 10 - l.r
