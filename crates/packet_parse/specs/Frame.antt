-- Reading a frame (docs/RULES.md, 3): what it holds, and the order in which it is refused.
-- Assumes nothing.
use Rattle.std.specs.Prelude.{ℕ, ◌+◌, ◌-◌, Bool, false, cond, not, ltb, List, [], ◌∷◌, length, take, drop, ◌==◌, nat_lt, slice_index, Option, Some, None, Result}
use Rattle.laws.specs.Answer.{Answer, Answer.given, and_then, refuse_if, choose}
use Rattle.slices.specs.Number.{low_number}
use Rattle.refusal.specs.Reading.{answer}
use Rattle.refusal.specs.declared.Refusal.{Refusal}
use Rattle.packet_head.specs.Numbers.{SOM, HEADER_LEN, SCB_DATA_AT, CODE_LEN}
use Rattle.packet_head.specs.Header.{Control, control, control_of}
use Rattle.packet_head.specs.Block.{has_mac, scb_of, type_of}
use Rattle.packet_head.specs.Trailer.{Tail, tail, trailer_len, mac_len_of}
use Rattle.packet_parse.specs.Trailer.{trailer_of}
use Rattle.packet_parse.specs.declared.codec.FrameHead.{FrameHead}
use Rattle.packet_parse.specs.declared.codec.BlockPart.{BlockPart}
use Rattle.packet_parse.specs.declared.codec.ParsedPacket.{ParsedPacket}

-- ---- the first five bytes

pub record Head : Type 0 where
  pub addr : ℕ
  pub len : ℕ
  pub ctrl : Control

-- LEN, its low byte first
abbrev pub len_of : List ℕ → ℕ
len_of s = low_number (slice_index s 2 ∷ slice_index s 3 ∷ [])

-- fewer than 5 bytes; the first byte; CTRL
unfoldable pub head_of : List ℕ → Answer Head
head_of s =
    refuse_if (ltb (length s) HEADER_LEN) 1 (length s ∷ HEADER_LEN ∷ [])
    (refuse_if (not (slice_index s 0 == SOM)) 2 (slice_index s 0 ∷ [])
    (and_then (control_of (slice_index s 4)) (λ ctrl. given (record { addr = slice_index s 1; len = len_of s; ctrl = ctrl }))))

-- ---- what a frame holds; each place is counted from the frame's first byte

pub data BlockAt : Type 0 where
  no_block : BlockAt
  block_at : (type start len : ℕ) → BlockAt

pub data MacAt : Type 0 where
  no_mac : MacAt
  mac_from : ℕ → MacAt

pub record Fields : Type 0 where
  pub addr : ℕ
  pub ctrl : Control
  pub block : BlockAt
  pub code : ℕ
  pub data_start : ℕ
  pub data_len : ℕ
  pub mac : MacAt
  pub trailer : Tail
  pub len : ℕ

-- a block that is not there has type, place and length 0, a MAC that is not there place 0
abbrev pub type_in : BlockAt → ℕ
type_in no_block = 0
type_in (block_at type start len) = type

abbrev pub block_start_in : BlockAt → ℕ
block_start_in no_block = 0
block_start_in (block_at type start len) = start

abbrev pub block_len_in : BlockAt → ℕ
block_len_in no_block = 0
block_len_in (block_at type start len) = len

abbrev pub mac_start_of : MacAt → ℕ
mac_start_of no_mac = 0
mac_start_of (mac_from at) = at

abbrev pub mac_at_of : Bool → ℕ → MacAt
mac_at_of mac at = cond mac (mac_from at) no_mac

-- the frame f with its code at `at`: the data up to the MAC, the MAC up to the trailer
abbrev pub fields_of : List ℕ → ℕ → Control → BlockAt → ℕ → Bool → Tail → Fields
fields_of f addr ctrl block at mac t =
    record {
      addr = addr;
      ctrl = ctrl;
      block = block;
      code = slice_index f at;
      data_start = at + CODE_LEN;
      data_len = length f - (at + CODE_LEN + mac_len_of mac + trailer_len ctrl.crc);
      mac = mac_at_of mac (length f - (mac_len_of mac + trailer_len ctrl.crc));
      trailer = t;
      len = length f;
    }

-- ---- the tests of a frame f that is as long as its LEN says

-- what follows the block, or the head without one, with its code at `at`: no room for code and trailer; no room for the MAC; the trailer
unfoldable pub rest_of : List ℕ → ℕ → Control → BlockAt → ℕ → Bool → Answer Fields
rest_of f addr ctrl block at mac =
    refuse_if (nat_lt (length f) (at + CODE_LEN + trailer_len ctrl.crc)) 4 (length f ∷ length f ∷ [])
    (refuse_if (nat_lt (length f) (at + CODE_LEN + mac_len_of mac + trailer_len ctrl.crc)) 4 (length f ∷ length f ∷ [])
    (and_then (trailer_of f ctrl.crc) (λ t. given (fields_of f addr ctrl block at mac t))))

-- LEN below 7 with a checksum or 8 with a CRC; the block, if there is one; the rest
unfoldable pub frame_of : List ℕ → ℕ → Control → Answer Fields
frame_of f addr ctrl =
    refuse_if (nat_lt (length f) (HEADER_LEN + CODE_LEN + trailer_len ctrl.crc)) 4 (length f ∷ length f ∷ [])
    (choose ctrl.block
    (and_then (scb_of (drop HEADER_LEN f)) (λ b. rest_of f addr ctrl (block_at b.type SCB_DATA_AT b.data_len) (SCB_DATA_AT + b.data_len) (has_mac b.type)))
    (rest_of f addr ctrl no_block HEADER_LEN false))

-- the head; fewer bytes than LEN; the first LEN bytes
unfoldable pub parse_of : List ℕ → Answer Fields
parse_of s =
    and_then (head_of s) (λ h.
    refuse_if (nat_lt (length s) h.len) 1 (length s ∷ h.len ∷ [])
    (frame_of (take h.len s) h.addr h.ctrl))

-- ---- the code's kinds, as the paper has them

abbrev pub head_fields : FrameHead → Head
head_fields h = record { addr = h.addr.0; len = h.len; ctrl = control h.ctrl }

abbrev pub head_answer : Result FrameHead Refusal → Answer Head
head_answer r = answer head_fields r

abbrev pub block_place : Option BlockPart → BlockAt
block_place None = no_block
block_place (Some b) = block_at (type_of b.ty) b.start b.len

abbrev pub mac_place : Option ℕ → MacAt
mac_place None = no_mac
mac_place (Some at) = mac_from at

abbrev pub fields : ParsedPacket → Fields
fields p =
    record {
      addr = p.addr.0;
      ctrl = control p.ctrl;
      block = block_place p.block;
      code = p.code;
      data_start = p.data_start;
      data_len = p.data_len;
      mac = mac_place p.mac;
      trailer = tail p.trailer;
      len = p.len;
    }

abbrev pub parsed : Result ParsedPacket Refusal → Answer Fields
parsed r = answer fields r
