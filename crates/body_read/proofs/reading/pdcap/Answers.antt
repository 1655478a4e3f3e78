-- One triple or more, and no part of one.
use mathlib.Core.Path.{refl, ap}
use mathlib.Core.List.{[]}
use native.Mathlib.Omega.{arith}
use Rattle.std.proofs.lemmas.Bool.Decides.{nat_tests}
use Rattle.body_message.specs.Message.{Kind.PDCAP, message_of}
use Rattle.body_read.proofs.Cases.{records-none, records-part, records-good, part_rest}
use Rattle.body_read.proofs.reading.pdcap.Goals.{then-is_empty-via-then-is_empty, then-is_empty-via-else-is_empty+then-payload-ne0}
use Rattle.body_read.proofs.reading.pdcap.Goals as goal

pub returns-then-is_empty : goal.returns-then-is_empty
returns-then-is_empty c =
    elim c.then-is_empty.branch [
      | then-is_empty-via-then-is_empty w ↦ records-none PDCAP 3 refl (λ vs n. refl) _ (grind (arith, nat_tests))
      | then-is_empty-via-else-is_empty+then-payload-ne0 w ↦ records-part PDCAP 3 refl (λ vs n. refl) _ (grind (arith, nat_tests)) (λ e. omega arith)
    ]

pub returns : goal.returns
returns c = records-good PDCAP 3 refl (λ vs n. refl) _ _ (grind (arith, nat_tests)) (omega arith) (ap (message_of PDCAP []) (part_rest _ 0 _ (omega arith) (omega arith)))
