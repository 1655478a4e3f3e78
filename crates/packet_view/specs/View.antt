-- The view of a frame (docs/RULES.md, 3.5): what it tells, and the three parts of the caller's bytes that it shows.
-- Assumes nothing.
use Rattle.std.specs.Prelude.{ℕ, false, List, [], take, drop, Option, Some, None, Result, Ok, Err}
use Rattle.std.specs.Borrow.{Bor}
use Rattle.laws.specs.Answer.{Answer, Answer.given, Answer.refused}
use Rattle.slices.specs.Stretch.{Stretch, stretch_in}
use Rattle.refusal.specs.Paper.{number_of, values_of}
use Rattle.refusal.specs.declared.Refusal.{Refusal}
use Rattle.packet_head.specs.Numbers.{MAC_LEN}
use Rattle.packet_head.specs.Header.{Control, control}
use Rattle.packet_head.specs.Block.{type_of}
use Rattle.packet_head.specs.declared.scb.ScsType.{ScsType}
use Rattle.packet_head.specs.Trailer.{Tail, Tail.checksum, tail}
use Rattle.packet_parse.specs.Frame.{Fields, BlockAt, MacAt, MacAt.no_mac, MacAt.mac_from, type_in, block_start_in, block_len_in, parse_of}
use Rattle.packet_view.specs.declared.parts.Span as parts
use Rattle.packet_view.specs.declared.parts.Places.{Places}
use Rattle.packet_view.specs.declared.view.PacketView.{PacketView}

-- ---- a part: its place, counted from the frame's first byte, and its length

pub record Span : Type 0 where
  pub at : ℕ
  pub len : ℕ

abbrev pub nowhere : Span
nowhere = record { at = 0; len = 0 }

-- where an accepted frame has its parts; without a block or a MAC, nowhere
abbrev pub block_in : BlockAt → Span
block_in b = record { at = block_start_in b; len = block_len_in b }

abbrev pub data_in : Fields → Span
data_in F = record { at = F.data_start; len = F.data_len }

abbrev pub mac_in : MacAt → Span
mac_in no_mac = nowhere
mac_in (mac_from at) = record { at = at; len = MAC_LEN }

-- ---- what a view tells

pub record Shown : Type 0 where
  pub outcome : Answer (Unit {0})
  pub addr : ℕ
  pub ctrl : Control
  pub type : ℕ
  pub code : ℕ
  pub trailer : Tail
  pub len : ℕ
  pub block : Span
  pub payload : Span
  pub mac : Span

-- after a refusal nothing else is told, and the parts are empty
abbrev pub nothing_shown : ℕ → List ℕ → Shown
nothing_shown n vs =
    record {
      outcome = refused n vs;
      addr = 0;
      ctrl = record { sqn = 0; crc = false; block = false };
      type = 0;
      code = 0;
      trailer = checksum 0;
      len = 0;
      block = nowhere;
      payload = nowhere;
      mac = nowhere;
    }

-- of an accepted frame its fields
unfoldable pub places_of : Answer Fields → Shown
places_of (given F) =
    record {
      outcome = given tt;
      addr = F.addr;
      ctrl = F.ctrl;
      type = type_in F.block;
      code = F.code;
      trailer = F.trailer;
      len = F.len;
      block = block_in F.block;
      payload = data_in F;
      mac = mac_in F.mac;
    }
places_of (refused n vs) = nothing_shown n vs

-- ---- the three parts, of the frame at the start of s

-- the bytes of an accepted frame at p; after a refusal none
abbrev pub bytes_at : List ℕ → (Fields → Span) → Answer Fields → List ℕ
bytes_at s p (given F) = take (p F).len (drop (p F).at s)
bytes_at s p (refused n vs) = []

unfoldable pub block_data_of : List ℕ → List ℕ
block_data_of s = bytes_at s (λ F. block_in F.block) (parse_of s)

unfoldable pub payload_of : List ℕ → List ℕ
payload_of s = bytes_at s data_in (parse_of s)

unfoldable pub frame_mac_of : List ℕ → List ℕ
frame_mac_of s = bytes_at s (λ F. mac_in F.mac) (parse_of s)

-- where p begins in an accepted frame; after a refusal the part is the frame's empty first one
abbrev pub start_at : (Fields → Span) → Answer Fields → ℕ
start_at p (given F) = (p F).at
start_at p (refused n vs) = 0

-- each part as a slice: its bytes, at their place of the caller's slice
abbrev pub block_data_seen : Bor (List ℕ) → Stretch
block_data_seen s = stretch_in s (start_at (λ F. block_in F.block) (parse_of s.now)) (block_data_of s.now)

abbrev pub payload_seen : Bor (List ℕ) → Stretch
payload_seen s = stretch_in s (start_at data_in (parse_of s.now)) (payload_of s.now)

abbrev pub frame_mac_seen : Bor (List ℕ) → Stretch
frame_mac_seen s = stretch_in s (start_at (λ F. mac_in F.mac) (parse_of s.now)) (frame_mac_of s.now)

-- ---- the code's kinds, as the paper has them

abbrev pub kind_of : Option ScsType → ℕ
kind_of None = 0
kind_of (Some ty) = type_of ty

abbrev pub span : parts.Span → Span
span p = record { at = p.at; len = p.len }

abbrev pub places_told : Result Places Refusal → Shown
places_told (Ok p) =
    record {
      outcome = given tt;
      addr = p.addr.0;
      ctrl = control p.ctrl;
      type = kind_of p.block;
      code = p.code;
      trailer = tail p.trailer;
      len = p.len;
      block = span p.block_data;
      payload = span p.payload;
      mac = span p.mac;
    }
places_told (Err e) = nothing_shown (number_of e) (values_of e)

-- a view's frame, and what it tells
abbrev pub viewed : PacketView → Bor (List ℕ) × Shown
viewed v = (v.frame, places_told v.read)

-- what a view tells beside its outcome, as the places of an accepted frame tell it
abbrev pub as_accepted : Shown → Shown
as_accepted x =
    record {
      outcome = given tt;
      addr = x.addr;
      ctrl = x.ctrl;
      type = x.type;
      code = x.code;
      trailer = x.trailer;
      len = x.len;
      block = x.block;
      payload = x.payload;
      mac = x.mac;
    }
