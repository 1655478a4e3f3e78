-- The count says how many digits follow.
use mathlib.Core.Path.{refl}
use native.Mathlib.Omega.{arith}
use Rattle.body_message.specs.Message.{Kind.KEYPAD}
use Rattle.body_read.proofs.Cases.{short-bad, keypad-bad, keypad-good}
use Rattle.body_read.proofs.reading.keypad.Goals as goal

pub returns-in_default : goal.returns-in_default
returns-in_default c = short-bad KEYPAD _ (omega arith)

pub returns-then-digits-from : goal.returns-then-digits-from
returns-then-digits-from c = keypad-bad _ _ (omega arith) refl (λ e. omega arith)

pub returns : goal.returns
returns c = keypad-good _ _ (omega arith) refl (omega arith)
