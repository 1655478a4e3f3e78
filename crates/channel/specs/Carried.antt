-- A message of the handshake in a frame (docs/RULES.md, 3, 4 and 7.4): built into the sender's buffer, delivered, read by the peer.
-- Assumes nothing.
use Rattle.std.specs.Prelude.{ℕ, ◌≤◌, Bool, true, false, List, [], length, take, drop}
use Rattle.std.specs.Borrow.{Bor}
use Rattle.laws.specs.Answer.{Answer, Answer.given, Answer.refused}
use Rattle.laws.specs.Buffer.{sized, written}
use Rattle.packet_head.specs.Numbers.{MAX_SQN, MAX_SCB_DATA}
use Rattle.packet_parse.specs.Frame.{parse_of}
use Rattle.packet_build.specs.Build.{FrameBlock.scb, FrameParts, FrameSizes, total_len, build_of}
use Rattle.slices.specs.Stretch.{Stretch, stretch_in}
use Rattle.packet_view.specs.View.{Span, span, places_of, payload_of}
use Rattle.refusal.specs.Reading.{length_answer}
use Rattle.channel.specs.declared.messages.ToCarry.{ToCarry}
use Rattle.channel.specs.declared.messages.CarriedMessage.{CarriedMessage}

-- how its sender frames it: any address, sequence number, trailer, block data and code, and the buffer that it is built into
pub record Wire : Type 0 where
  pub addr : ℕ
  pub sqn : ℕ
  pub use_crc : Bool
  pub block : List ℕ
  pub code : ℕ
  pub out : List ℕ

-- a message x in a frame of type ty, which has no MAC
abbrev pub wire_parts : ℕ → Wire → List ℕ → FrameParts
wire_parts ty w x = record { addr = w.addr; ctrl = record { sqn = w.sqn; crc = w.use_crc; block = true }; block = scb ty w.block; code = w.code; «data» = x; mac = [] }

-- what is sent: as many bytes of the buffer as the call answered, and nothing after a refusal
unfoldable pub on_line : Answer ℕ → List ℕ → List ℕ
on_line (given n) o = take n o
on_line (refused n vs) o = []

-- as a slice: these bytes, from the buffer's first byte on
abbrev pub line_seen : Answer ℕ → Bor (List ℕ) → Stretch
line_seen a o = stretch_in o 0 (on_line a o.now)

-- what the building answers, the buffer after it, and of what is then on the line: where the peer finds the message, and what it reads
pub record Carriage : Type 0 where
  pub sent : Answer ℕ
  pub out : List ℕ
  pub place : Span
  pub read : List ℕ

unfoldable pub carriage : ℕ → Wire → List ℕ → Carriage
carriage ty w x =
    let b = build_of (wire_parts ty w x) (length w.out) in
    let f = on_line (sized b) (written w.out b) in
    record { sent = sized b; out = written w.out b; place = (places_of (parse_of f)).payload; read = payload_of f }

-- what the peer reads
unfoldable pub carried : ℕ → Wire → List ℕ → List ℕ
carried ty w x = (carriage ty w x).read

-- the sizes of its frame, for a message of n bytes
abbrev pub wire_sizes : Wire → ℕ → FrameSizes
wire_sizes w n = record { has_block = true; mac_due = false; mac = 0; block_data = length w.block; «data» = n; room = length w.out }

-- within limits and buffers
pub record WireFits (w : Wire) (n : ℕ) : Type 0 where
  pub sqn : w.sqn ≤ MAX_SQN
  pub block : length w.block ≤ MAX_SCB_DATA
  pub room : total_len w.use_crc (wire_sizes w n) ≤ length w.out

-- ---- the code's kinds, as the paper has them; `o` is the buffer in the end

abbrev pub wire_of : ToCarry → List ℕ → List ℕ → Wire
wire_of w b o = record { addr = w.addr.0; sqn = w.sqn.0; use_crc = w.use_crc; block = b; code = w.code; out = o }

-- the message is read at its place in what is on the line
abbrev pub carriage_told : CarriedMessage → List ℕ → Carriage
carriage_told r o =
    record {
      sent = length_answer r.sent;
      out = o;
      place = span r.place;
      read = take r.place.len (drop r.place.at (on_line (length_answer r.sent) o));
    }
