-- Addresses, sequence numbers and the control byte (docs/RULES.md, 2.2 and 2.3).
-- Assumes nothing.
use Rattle.std.specs.Prelude.{ℕ, ◌+◌, ◌/◌, ◌%◌, [], ◌∷◌, Bool, cond, ltb, leb, eqb, Result}
use Rattle.laws.specs.Answer.{Answer, Answer.given, refuse_if}
use Rattle.refusal.specs.Reading.{answer}
use Rattle.refusal.specs.declared.Refusal.{Refusal}
use Rattle.packet_head.specs.Numbers.{BROADCAST_ADDR, REPLY_FLAG, MAX_SQN, USE_CRC, HAS_SCB}
use Rattle.packet_head.specs.declared.header.Address.{Address}
use Rattle.packet_head.specs.declared.header.Sqn.{Sqn}
use Rattle.packet_head.specs.declared.header.ControlByte.{ControlByte}

-- ---- an address: above the broadcast address, 7F, refusal 9

unfoldable pub pd_of : ℕ → Answer ℕ
pd_of a = refuse_if (ltb BROADCAST_ADDR a) 9 (a ∷ []) (given a)

unfoldable pub reply_of : ℕ → Answer ℕ
reply_of a = refuse_if (ltb BROADCAST_ADDR a) 9 (a ∷ []) (given (a + REPLY_FLAG))

-- ---- a sequence number: above 3 refusal 10

unfoldable pub sqn_of : ℕ → Answer ℕ
sqn_of n = refuse_if (ltb MAX_SQN n) 10 (n ∷ []) (given n)

-- 0 to 1, 1 to 2, 2 to 3, 3 to 1
unfoldable pub next_of : ℕ → Answer ℕ
next_of n = refuse_if (ltb MAX_SQN n) 10 (n ∷ []) (given (n % 3 + 1))

-- ---- the control byte: SQN, whether a CRC, whether a block

pub record Control : Type 0 where
  pub sqn : ℕ
  pub crc : Bool
  pub block : Bool

-- the top four bits are 0, or refusal 3; bits 0 and 1 SQN, 04 CRC, 08 block
unfoldable pub control_of : ℕ → Answer Control
control_of b = refuse_if (leb 16 b) 3 (b ∷ []) (given (record { sqn = b % 4; crc = eqb (b / USE_CRC % 2) 1; block = eqb (b / HAS_SCB) 1 }))

abbrev pub ctrl_byte : Control → ℕ
ctrl_byte c = c.sqn + cond c.crc USE_CRC 0 + cond c.block HAS_SCB 0

-- an SQN above 3 is refused by 10, never reduced
unfoldable pub encode_of : Control → Answer ℕ
encode_of c = refuse_if (ltb MAX_SQN c.sqn) 10 (c.sqn ∷ []) (given (ctrl_byte c))

-- ---- the code's answers, as the paper has them

abbrev pub address_answer : Result Address Refusal → Answer ℕ
address_answer r = answer (λ a. a.0) r

abbrev pub sqn_answer : Result Sqn Refusal → Answer ℕ
sqn_answer r = answer (λ n. n.0) r

abbrev pub control : ControlByte → Control
control c = record { sqn = c.sqn.0; crc = c.crc; block = c.block }

abbrev pub control_answer : Result ControlByte Refusal → Answer Control
control_answer r = answer control r

abbrev pub encoded_answer : Result ℕ Refusal → Answer ℕ
encoded_answer r = answer (λ b. b) r
