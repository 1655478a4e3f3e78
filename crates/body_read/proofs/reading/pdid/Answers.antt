-- Twelve bytes, four of them one number.
use mathlib.Core.Path.{refl}
use native.Mathlib.Omega.{arith}
use Rattle.body_message.specs.Message.{Kind.PDID}
use Rattle.body_read.proofs.Cases.{fixed-bad, pdid-good}
use Rattle.body_read.proofs.reading.pdid.Goals as goal

pub returns-in_default : goal.returns-in_default
returns-in_default c = fixed-bad PDID (λ vs n. refl) _ (λ e. omega arith)

pub returns-in_default-2 : goal.returns-in_default-2
returns-in_default-2 c = fixed-bad PDID (λ vs n. refl) _ (λ e. omega arith)

pub returns : goal.returns
returns c = pdid-good _ _ (omega arith) (omega arith)
