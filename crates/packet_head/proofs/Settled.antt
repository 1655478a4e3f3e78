-- Each answer of this crate has one reading, so a promise on its reading settles it.
-- Assumes nothing.
use mathlib.Core.Path.{◌≡◌, refl, ap}
use mathlib.Core.Bool.{cond}
use Prim.Native.Nat.{ℕ}
use lib.Dec.{eqb}
use Rattle.std.specs.Prelude.{Result}
use Rattle.refusal.specs.declared.Refusal.{Refusal}
use Rattle.refusal.proofs.OneReading.{result_settled}
use Rattle.packet_head.specs.Header.{Control, control, address_answer, sqn_answer, control_answer, encoded_answer}
use Rattle.packet_head.specs.Block.{BlockRead, type_of, scs_answer, scb_answer}
use Rattle.packet_head.specs.Trailer.{Tail, Tail.checksum, Tail.crc, tail}
use Rattle.packet_head.specs.declared.header.Address.{Address}
use Rattle.packet_head.specs.declared.header.Sqn.{Sqn}
use Rattle.packet_head.specs.declared.header.ControlByte.{ControlByte}
use Rattle.packet_head.specs.declared.scb.ScsType.{ScsType}
use Rattle.packet_head.specs.declared.scb.ScsType.TheVariants.{Scs11, Scs12, Scs13, Scs14, Scs15, Scs16, Scs17, Scs18}
use Rattle.packet_head.specs.declared.scb.Scb.{Scb}
use Rattle.packet_head.specs.declared.trailer.Trailer.{Trailer}

-- ---- each kind back from the paper's words

abbrev pub control_from : Control → ControlByte
control_from c = record { sqn = record { 0 = c.sqn }; crc = c.crc; block = c.block }

abbrev pub type_from : ℕ → ScsType
type_from n = cond (eqb n 0x11) Scs11 (cond (eqb n 0x12) Scs12 (cond (eqb n 0x13) Scs13 (cond (eqb n 0x14) Scs14 (cond (eqb n 0x15) Scs15 (cond (eqb n 0x16) Scs16 (cond (eqb n 0x17) Scs17 Scs18))))))

pub type_back : (t : ScsType) → type_from (type_of t) ≡ t
type_back Scs11 = refl
type_back Scs12 = refl
type_back Scs13 = refl
type_back Scs14 = refl
type_back Scs15 = refl
type_back Scs16 = refl
type_back Scs17 = refl
type_back Scs18 = refl

abbrev pub trailer_from : Tail → Trailer
trailer_from (checksum n) = Trailer.Checksum n
trailer_from (crc n) = Trailer.Crc n

pub trailer_back : (t : Trailer) → trailer_from (tail t) ≡ t
trailer_back (Trailer.Checksum n) = refl
trailer_back (Trailer.Crc n) = refl

-- ---- the answers

pub address_settled : (r s : Result Address Refusal) → address_answer r ≡ address_answer s → r ≡ s
address_settled = result_settled (λ a. a.0) (λ n. record { 0 = n }) (λ a. refl)

pub sqn_settled : (r s : Result Sqn Refusal) → sqn_answer r ≡ sqn_answer s → r ≡ s
sqn_settled = result_settled (λ n. n.0) (λ n. record { 0 = n }) (λ n. refl)

pub control_settled : (r s : Result ControlByte Refusal) → control_answer r ≡ control_answer s → r ≡ s
control_settled = result_settled control control_from (λ c. refl)

pub encoded_settled : (r s : Result ℕ Refusal) → encoded_answer r ≡ encoded_answer s → r ≡ s
encoded_settled = result_settled (λ b. b) (λ b. b) (λ b. refl)

pub scs_settled : (r s : Result ScsType Refusal) → scs_answer r ≡ scs_answer s → r ≡ s
scs_settled = result_settled type_of type_from type_back

abbrev block_read : Scb → BlockRead
block_read b = record { type = type_of b.ty; data_len = b.data_len }

abbrev block_from : BlockRead → Scb
block_from b = record { ty = type_from b.type; data_len = b.data_len }

block_back : (b : Scb) → block_from (block_read b) ≡ b
block_back b = ap (λ (t : ScsType). record { ty = t; data_len = b.data_len }) (type_back b.ty)

pub scb_settled : (r s : Result Scb Refusal) → scb_answer r ≡ scb_answer s → r ≡ s
scb_settled = result_settled block_read block_from block_back
