use Rattle.std.proofs.Common.{◌≡◌, OnErr}
use Rattle.output.proofs.Writer.put_bytes.Given as goal

abbrev pub invariant-loop-b : goal.invariant-loop-b
invariant-loop-b l = OnErr l.initial.self.so_far (l.self.so_far ≡ l.initial.self.so_far)
