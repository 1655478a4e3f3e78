-- No bytes.
use mathlib.Core.Path.{refl}
use native.Mathlib.Omega.{arith}
use Rattle.body_message.specs.Message.{Kind.ACK}
use Rattle.body_read.proofs.Cases.{fixed-bad, fixed-good}
use Rattle.body_read.proofs.reading.ack.Goals as goal

pub returns-in-empty : goal.returns-in-empty
returns-in-empty c = fixed-good ACK (λ vs n. refl) _ _ (omega arith) refl

pub returns-in_default : goal.returns-in_default
returns-in_default c = fixed-bad ACK (λ vs n. refl) _ (λ e. omega arith)
