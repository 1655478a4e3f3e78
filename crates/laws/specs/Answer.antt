-- What a call answers (docs/RULES.md, 1): what was asked for, or a refusal's number and the values that it carries.
-- Assumes nothing.
use Rattle.std.specs.Prelude.{Bool, true, false, List, ℕ}

pub data Answer (A : Type 0) : Type 0 where
  given : A → Answer A
  refused : ℕ → List ℕ → Answer A

-- what follows an answer that is no refusal
unfoldable pub and_then : {A B : Type 0} → Answer A → (A → Answer B) → Answer B
and_then (given a) f = f a
and_then (refused n vs) f = refused n vs

-- a test that refuses, with a number and what it carries, and what follows it
unfoldable pub refuse_if : {A : Type 0} → Bool → ℕ → List ℕ → Answer A → Answer A
refuse_if true n vs a = refused n vs
refuse_if false n vs a = a

-- the first where the test holds, else the second
unfoldable pub choose : {A : Type 0} → Bool → Answer A → Answer A → Answer A
choose true a b = a
choose false a b = b
