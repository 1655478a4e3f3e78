-- What the tests of building take and hand on within this crate: the sizes; how long the frame is, and its control byte.
-- Assumes nothing.
use Rattle.std.specs.Prelude.{ℕ, Result}
use Rattle.laws.specs.Answer.{Answer, Answer.given, and_then}
use Rattle.refusal.specs.Reading.{answer}
use Rattle.refusal.specs.declared.Refusal.{Refusal}
use Rattle.packet_head.specs.Header.{Control, ctrl_byte}
use Rattle.packet_build.specs.Build.{FrameSizes}
use Rattle.packet_build.specs.declared.test.Sizes.{Sizes}
use Rattle.packet_build.specs.declared.test.Tested.{Tested}

-- a length that the tests gave, with the control byte beside it
unfoldable pub with_ctrl : Control → Answer ℕ → Answer (ℕ × ℕ)
with_ctrl c a = and_then a (λ total. given (total, ctrl_byte c))

abbrev pub sizes : Sizes → FrameSizes
sizes z = record { has_block = z.has_block; mac_due = z.mac_due; mac = z.mac; block_data = z.block_data; «data» = z.«data»; room = z.room }

abbrev pub tested : Result Tested Refusal → Answer (ℕ × ℕ)
tested r = answer (λ t. (t.total, t.ctrl)) r
