-- What a call that writes does to what its writer keeps, where `old` was kept and `new` is.
-- Assumes nothing.
use Rattle.std.specs.Prelude.{◌≡◌, ⊤, OnErr}
use Rattle.std.specs.declared.result.Result.{Result}

-- what it answers is kept, and where a write failed before, that failure is answered
abbrev pub KeepsFailure : {E : Type 0} → Result ⊤ E → Result ⊤ E → Result ⊤ E → Type 0
KeepsFailure old new r = (new ≡ r) × OnErr old (r ≡ old)
