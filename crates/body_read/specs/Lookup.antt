-- The code's triple and badge as the definition has them (docs/RULES.md, 13.4 and 13.5).
-- Assumes nothing.
use Rattle.std.specs.Prelude.{ℕ, Option, Some, None}
use Rattle.std.proofs.Math.Option as told
use Rattle.std.proofs.Math.Option.{none, some}
use Rattle.body_message.specs.Message as message
use Rattle.body_read.specs.declared.lookup.Triple.{Triple}

abbrev pub triple_answer : Option Triple → told.Option message.Triple
triple_answer (Some t) = some (record { function = t.function; compliance = t.compliance; number = t.number })
triple_answer None = none

abbrev pub badge_answer : Option ℕ → told.Option ℕ
badge_answer (Some n) = some n
badge_answer None = none
