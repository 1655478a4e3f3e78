-- The worked frames of docs/RULES.md, 10, that are to be proved: one list under a single claim.
-- Assumes nothing.
use Rattle.std.proofs.Common.{◌≡◌, ℕ, true, false, List, [], ◌∷◌, map, refl}
use Rattle.laws.specs.Answer.{Answer, Answer.given, Answer.refused, refuse_if, choose, and_then}
use Rattle.packet_sums.specs.Checksum.{sum_of, checksum_of}
use Rattle.packet_sums.specs.Crc.{reduce, crc_bit, crc_bits, crc_byte, crc_from}
use Rattle.packet_head.specs.Header.{Control, control_of}
use Rattle.packet_head.specs.Block.{scs_of, scb_of}
use Rattle.packet_head.specs.Trailer.{Tail, Tail.checksum, Tail.crc}
use Rattle.packet_parse.specs.Trailer.{trailer_of}
use Rattle.packet_parse.specs.Frame.{Fields, BlockAt, BlockAt.no_block, BlockAt.block_at, MacAt.no_mac, head_of, rest_of, frame_of, parse_of}

-- a frame for address 5 with SQN 0, code 60, no data and no MAC
pub plain_frame : Control → BlockAt → ℕ → Tail → ℕ → Answer Fields
plain_frame ctrl block from tail len =
    given (record {
      addr = 0x05;
      ctrl = ctrl;
      block = block;
      code = 0x60;
      data_start = from;
      data_len = 0;
      mac = no_mac;
      trailer = tail;
      len = len;
    })

pub frames : List (List ℕ)
frames =
    (0x53 ∷ 0x05 ∷ 0x08 ∷ 0x00 ∷ 0x04 ∷ 0x60 ∷ 0xBC ∷ 0x89 ∷ [])
    ∷ (0x53 ∷ 0x05 ∷ 0x08 ∷ 0x00 ∷ 0x04 ∷ 0x60 ∷ 0xBC ∷ [])
    ∷ (0x53 ∷ 0x05 ∷ 0x07 ∷ 0x00 ∷ 0x00 ∷ 0x60 ∷ 0x41 ∷ [])
    ∷ (0x53 ∷ 0x05 ∷ 0x07 ∷ 0x00 ∷ 0x00 ∷ 0x60 ∷ 0x40 ∷ [])
    ∷ []
    ∷ (0x53 ∷ 0x05 ∷ 0x00 ∷ 0x00 ∷ 0x04 ∷ [])
    ∷ (0x53 ∷ 0x05 ∷ 0x07 ∷ 0x00 ∷ 0x04 ∷ 0x60 ∷ 0xBC ∷ [])
    ∷ (0x53 ∷ 0x05 ∷ 0x09 ∷ 0x00 ∷ 0x08 ∷ 0x01 ∷ 0x15 ∷ 0x60 ∷ 0x00 ∷ [])
    ∷ (0x53 ∷ 0x05 ∷ 0x09 ∷ 0x00 ∷ 0x08 ∷ 0x05 ∷ 0x15 ∷ 0x60 ∷ 0x00 ∷ [])
    ∷ (0x53 ∷ 0x05 ∷ 0x09 ∷ 0x00 ∷ 0x08 ∷ 0x02 ∷ 0x19 ∷ 0x60 ∷ 0x00 ∷ [])
    ∷ (0x53 ∷ 0x05 ∷ 0x09 ∷ 0x00 ∷ 0x08 ∷ 0x02 ∷ 0x15 ∷ 0x60 ∷ 0x00 ∷ [])
    ∷ (0x53 ∷ 0x05 ∷ 0x09 ∷ 0x00 ∷ 0x08 ∷ 0x04 ∷ 0x11 ∷ 0x60 ∷ 0x00 ∷ [])
    ∷ (0x53 ∷ 0x05 ∷ 0x09 ∷ 0x00 ∷ 0x08 ∷ 0x02 ∷ 0x11 ∷ 0x60 ∷ 0x24 ∷ [])
    ∷ []

pub answers : List (Answer Fields)
answers =
    plain_frame (record { sqn = 0; crc = true; block = false }) no_block 6 (crc 0x89BC) 8
    ∷ refused 1 (7 ∷ 8 ∷ [])
    ∷ plain_frame (record { sqn = 0; crc = false; block = false }) no_block 6 (checksum 0x41) 7
    ∷ refused 8 (0x40 ∷ 0x41 ∷ [])
    ∷ refused 1 (0 ∷ 5 ∷ [])
    ∷ refused 4 (0 ∷ 0 ∷ [])
    ∷ refused 4 (7 ∷ 7 ∷ [])
    ∷ refused 5 (0x15 ∷ [])
    ∷ refused 1 (4 ∷ 5 ∷ [])
    ∷ refused 6 (0x19 ∷ [])
    ∷ refused 4 (9 ∷ 9 ∷ [])
    ∷ refused 4 (9 ∷ 9 ∷ [])
    ∷ plain_frame (record { sqn = 0; crc = false; block = true }) (block_at 0x11 7 0) 8 (checksum 0x24) 9
    ∷ []

pub worked : map parse_of frames ≡ answers
unfolding plain_frame frames answers refuse_if choose and_then head_of parse_of frame_of rest_of control_of scb_of scs_of trailer_of crc_from crc_byte crc_bits crc_bit reduce checksum_of sum_of
worked = refl
