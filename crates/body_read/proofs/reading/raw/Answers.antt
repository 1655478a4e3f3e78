-- The bits say how many bytes follow.
use native.Mathlib.Omega.{arith}
use Rattle.body_message.specs.Message.{Kind.RAW}
use Rattle.body_read.proofs.Cases.{short-bad, raw-bad, raw-good}
use Rattle.body_read.proofs.reading.raw.Goals as goal

pub returns-in_default : goal.returns-in_default
returns-in_default c = short-bad RAW _ (omega arith)

pub returns-then-bytes-bytes_for : goal.returns-then-bytes-bytes_for
returns-then-bytes-bytes_for c = raw-bad _ c.from_le_bytes-bits.result (omega arith) (omega arith) (λ e. omega arith)

pub returns : goal.returns
returns c = raw-good _ _ (omega arith) (omega arith) (omega arith)
