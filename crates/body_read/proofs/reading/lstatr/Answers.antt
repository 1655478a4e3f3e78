-- Two bytes.
use mathlib.Core.Path.{refl}
use native.Mathlib.Nat.{add-zero}
use native.Mathlib.Omega.{arith}
use Rattle.body_message.specs.Message.{Kind.LSTATR}
use Rattle.body_read.proofs.Cases.{fixed-bad, fixed-good}
use Rattle.body_read.proofs.reading.lstatr.Goals as goal

pub returns-in-len2 : goal.returns-in-len2
returns-in-len2 c = fixed-good LSTATR (λ vs n. refl) _ _ (omega arith) (simp add-zero)

pub returns-in_default : goal.returns-in_default
returns-in_default c = fixed-bad LSTATR (λ vs n. refl) _ (λ e. omega arith)

pub returns-in_default-2 : goal.returns-in_default-2
returns-in_default-2 c = fixed-bad LSTATR (λ vs n. refl) _ (λ e. omega arith)
