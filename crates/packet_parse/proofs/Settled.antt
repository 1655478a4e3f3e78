-- The answers of reading have one reading, so a promise on it settles them.
-- Assumes nothing.
use Rattle.std.proofs.Common.{◌≡◌, ℕ, refl, ap, Option, Some, None, Result}
use Rattle.refusal.specs.declared.Refusal.{Refusal}
use Rattle.refusal.proofs.OneReading.{result_settled}
use Rattle.packet_head.specs.Header.{Control, control}
use Rattle.packet_head.specs.declared.scb.ScsType.{ScsType}
use Rattle.packet_head.specs.declared.trailer.Trailer.{Trailer}
use Rattle.packet_head.proofs.Settled.{control_from, type_from, type_back, trailer_from, trailer_back}
use Rattle.packet_parse.specs.Frame.{Head, Fields, BlockAt, BlockAt.no_block, BlockAt.block_at, MacAt, MacAt.no_mac, MacAt.mac_from, head_fields, head_answer, block_place, mac_place, fields, parsed}
use Rattle.packet_parse.specs.declared.codec.FrameHead.{FrameHead}
use Rattle.packet_parse.specs.declared.codec.BlockPart.{BlockPart}
use Rattle.packet_parse.specs.declared.codec.ParsedPacket.{ParsedPacket}

-- ---- the head

abbrev head_from : Head → FrameHead
head_from h = record { addr = record { 0 = h.addr }; len = h.len; ctrl = control_from h.ctrl }

pub head_settled : (r s : Result FrameHead Refusal) → head_answer r ≡ head_answer s → r ≡ s
head_settled = result_settled head_fields head_from (λ h. refl)

-- ---- the frame

abbrev block_part : ScsType → ℕ → ℕ → Option BlockPart
block_part ty s n = Some (record { ty = ty; start = s; len = n })

abbrev block_from : BlockAt → Option BlockPart
block_from no_block = None
block_from (block_at ty s n) = block_part (type_from ty) s n

block_back : (b : Option BlockPart) → block_from (block_place b) ≡ b
block_back None = refl
block_back (Some b) = ap (λ (t : ScsType). block_part t b.start b.len) (type_back b.ty)

abbrev mac_from_place : MacAt → Option ℕ
mac_from_place no_mac = None
mac_from_place (mac_from at) = Some at

mac_back : (m : Option ℕ) → mac_from_place (mac_place m) ≡ m
mac_back None = refl
mac_back (Some at) = refl

abbrev packet : ℕ → Control → Option BlockPart → ℕ → ℕ → ℕ → Option ℕ → Trailer → ℕ → ParsedPacket
packet a c b k s n m t l =
    record {
      addr = record { 0 = a };
      ctrl = control_from c;
      block = b;
      code = k;
      data_start = s;
      data_len = n;
      mac = m;
      trailer = t;
      len = l;
    }

abbrev packet_from : Fields → ParsedPacket
packet_from F =
    packet F.addr F.ctrl (block_from F.block) F.code F.data_start F.data_len (mac_from_place F.mac) (trailer_from F.trailer) F.len

packet_back : (p : ParsedPacket) → packet_from (fields p) ≡ p
packet_back p =
    λ i. packet p.addr.0 (control p.ctrl) (block_back p.block i) p.code p.data_start p.data_len (mac_back p.mac i) (trailer_back p.trailer i) p.len

pub parsed_settled : (r s : Result ParsedPacket Refusal) → parsed r ≡ parsed s → r ≡ s
parsed_settled = result_settled fields packet_from packet_back
