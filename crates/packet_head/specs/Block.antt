-- The security block and its types (docs/RULES.md, 2.4 and 3).
-- Assumes nothing.
use Rattle.std.specs.Prelude.{ℕ, ◌-◌, Bool, ◌&&◌, not, List, [], ◌∷◌, ltb, leb, length, get_or, Result}
use Rattle.laws.specs.Answer.{Answer, Answer.given, and_then, refuse_if}
use Rattle.refusal.specs.Reading.{answer}
use Rattle.refusal.specs.declared.Refusal.{Refusal}
use Rattle.packet_head.specs.Numbers.{SCB_HEADER_LEN}
use Rattle.packet_head.specs.declared.scb.ScsType.{ScsType}
use Rattle.packet_head.specs.declared.scb.ScsType.TheVariants.{Scs11, Scs12, Scs13, Scs14, Scs15, Scs16, Scs17, Scs18}
use Rattle.packet_head.specs.declared.scb.Scb.{Scb}

-- whether b is one of low to high
abbrev pub between : ℕ → ℕ → ℕ → Bool
between low high b = leb low b && leb b high

-- 11 to 18, or refusal 6
unfoldable pub scs_of : ℕ → Answer ℕ
scs_of b = refuse_if (not (between 0x11 0x18 b)) 6 (b ∷ []) (given b)

-- 15 to 18 have a MAC, 17 and 18 encrypted data, 11 to 14 are the handshake's
abbrev pub has_mac : ℕ → Bool
has_mac ty = between 0x15 0x18 ty

abbrev pub is_encrypted : ℕ → Bool
is_encrypted ty = between 0x17 0x18 ty

abbrev pub is_handshake : ℕ → Bool
is_handshake ty = between 0x11 0x14 ty

-- a block's type, and how many bytes of data it has
pub record BlockRead : Type 0 where
  pub type : ℕ
  pub data_len : ℕ

-- fewer than two bytes; its own length below 2: refusal 5, with the type byte; longer than what is there, counted from its first byte; its type
unfoldable pub scb_of : List ℕ → Answer BlockRead
scb_of b =
    refuse_if (ltb (length b) SCB_HEADER_LEN) 1 (length b ∷ SCB_HEADER_LEN ∷ [])
    (refuse_if (ltb (get_or b 0 0) SCB_HEADER_LEN) 5 (get_or b 1 0 ∷ [])
    (refuse_if (ltb (length b) (get_or b 0 0)) 1 (length b ∷ get_or b 0 0 ∷ [])
    (and_then (scs_of (get_or b 1 0)) (λ ty. given (record { type = ty; data_len = get_or b 0 0 - SCB_HEADER_LEN })))))

-- ---- the code's kinds, as the paper has them

abbrev pub type_of : ScsType → ℕ
type_of Scs11 = 0x11
type_of Scs12 = 0x12
type_of Scs13 = 0x13
type_of Scs14 = 0x14
type_of Scs15 = 0x15
type_of Scs16 = 0x16
type_of Scs17 = 0x17
type_of Scs18 = 0x18

abbrev pub scs_answer : Result ScsType Refusal → Answer ℕ
scs_answer r = answer type_of r

abbrev pub scb_answer : Result Scb Refusal → Answer BlockRead
scb_answer r = answer (λ b. record { type = type_of b.ty; data_len = b.data_len }) r
