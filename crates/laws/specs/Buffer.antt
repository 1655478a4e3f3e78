-- A call that writes bytes to the front of a buffer that the caller lends (docs/RULES.md, 1.3 and 1.4).
-- Assumes nothing.
use Rattle.std.specs.Prelude.{List, ℕ, length}
use Rattle.laws.specs.Answer.{Answer, Answer.given, Answer.refused}
use Rattle.laws.specs.Over.{write}

-- what it answers: how many bytes it wrote
abbrev pub sized : Answer (List ℕ) → Answer ℕ
sized (given b) = given (length b)
sized (refused n vs) = refused n vs

-- what a buffer o holds in the end: those bytes at its front, or what it held
abbrev pub written : List ℕ → Answer (List ℕ) → List ℕ
written o (given b) = write o 0 b
written o (refused n vs) = o
