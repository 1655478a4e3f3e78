-- A yes or a refusal as C is told it, whatever was given or stands beside it.
-- Assumes nothing.
use mathlib.Core.Path.{◌≡◌, refl}
use Rattle.std.specs.Prelude.{Result, Ok, Err, ⊤}
use Rattle.refusal.specs.declared.Refusal.{Refusal}
use Rattle.refusal.specs.Reading.{answer, outcome_answer}
use Rattle.crossing.specs.Answers.{c_answer, c_yes, c_outcome}

pub told-yes : {A B : Type 0} (f : A → B) (r : Result A Refusal) → c_answer (answer (λ (a : A). 0) r) ≡ c_yes (answer f r)
told-yes f (Ok a) = refl
told-yes f (Err e) = refl

-- an outcome says yes or the refusal, whatever stands beside it
pub told-outcome : {A : Type 0} (o : Result ⊤ Refusal) (a : A) → c_outcome o ≡ c_yes (outcome_answer o a)
told-outcome (Ok done) a = refl
told-outcome (Err e) a = refl

-- and is told as its one number, which is 0 for a yes
pub told-number : (o : Result ⊤ Refusal) → c_answer (answer (λ (yes : ⊤). 0) o) ≡ c_outcome o
told-number o = told-yes (λ yes. tt) o
