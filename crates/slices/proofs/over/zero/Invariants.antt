-- The bytes before the place where the loop is are zeros.
use Rattle.std.proofs.Common.{◌≡◌, length, take, ◌-◌}
use Rattle.laws.specs.Bytes.{zeros}
use Rattle.slices.proofs.over.zero.Given as goal

abbrev pub invariant-loop-byte : goal.invariant-loop-byte
invariant-loop-byte l = (length l.byte-items ≡ l.end - l.at) × (take l.byte-index l.byte-items ≡ zeros l.byte-index)
