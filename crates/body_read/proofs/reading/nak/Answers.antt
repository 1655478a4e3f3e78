-- One byte, and what follows it.
use native.Mathlib.Omega.{arith}
use Rattle.body_message.specs.Message.{Kind.NAK}
use Rattle.body_read.proofs.Cases.{short-bad, nak-good}
use Rattle.body_read.proofs.reading.nak.Goals as goal

pub returns-in-len1-up : goal.returns-in-len1-up
returns-in-len1-up c = nak-good _ (omega arith)

pub returns-in_default : goal.returns-in_default
returns-in_default c = short-bad NAK _ (omega arith)
