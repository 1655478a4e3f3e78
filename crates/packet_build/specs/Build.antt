-- Building a frame (docs/RULES.md, 4): its bytes, and the order in which building is refused.
-- Assumes nothing.
use Rattle.std.specs.Prelude.{ℕ, ◌+◌, Bool, true, false, not, cond, List, [], ◌∷◌, ◌++◌, ltb, eqb, length, Option, Some, None}
use Rattle.laws.specs.Answer.{Answer, Answer.given, refuse_if, and_then}
use Rattle.packet_sums.specs.Checksum.{checksum_of}
use Rattle.packet_sums.specs.Crc.{crc_of}
use Rattle.packet_head.specs.Numbers.{SOM, MAX_SQN, HEADER_LEN, SCB_HEADER_LEN, MAX_SCB_DATA, CODE_LEN, MAC_LEN, CRC_LEN, MAX_LEN}
use Rattle.slices.specs.Number.{low_first}
use Rattle.packet_head.specs.Header.{Control, control, ctrl_byte}
use Rattle.packet_head.specs.Block.{has_mac, type_of}
use Rattle.packet_head.specs.Trailer.{trailer_len, mac_len_of}
use Rattle.packet_head.specs.declared.scb.ScsType.{ScsType}
use Rattle.packet_build.specs.declared.codec.PacketBuilder.{PacketBuilder}

-- ---- what a frame is made of

pub data FrameBlock : Type 0 where
  no_scb : FrameBlock
  scb : (type : ℕ) → List ℕ → FrameBlock

-- the MAC is four bytes, or none
pub record FrameParts : Type 0 where
  pub addr : ℕ
  pub ctrl : Control
  pub block : FrameBlock
  pub code : ℕ
  pub «data» : List ℕ
  pub mac : List ℕ

abbrev pub present : FrameBlock → Bool
present no_scb = false
present (scb ty l) = true

-- whether a MAC is due
abbrev pub due : FrameBlock → Bool
due no_scb = false
due (scb ty l) = has_mac ty

-- how much data the block has
abbrev pub block_n : FrameBlock → ℕ
block_n no_scb = 0
block_n (scb ty l) = length l

-- ---- the tests

-- what they look at beside CTRL: whether there is a block and whether a MAC is due; how many bytes of MAC are given, of the block's data, of
-- data, and of room in the buffer
pub record FrameSizes : Type 0 where
  pub has_block : Bool
  pub mac_due : Bool
  pub mac : ℕ
  pub block_data : ℕ
  pub «data» : ℕ
  pub room : ℕ

-- how long the frame is, all counted
abbrev pub total_len : Bool → FrameSizes → ℕ
total_len use_crc z = HEADER_LEN + cond z.has_block SCB_HEADER_LEN 0 + z.block_data + CODE_LEN + z.«data» + z.mac + trailer_len use_crc

abbrev pub differ : Bool → Bool → Bool
differ true b = not b
differ false b = b

-- SQN above 3; block present and CTRL disagree; a MAC exactly where one is due; the block's data; LEN; the room
unfoldable pub test_of : Control → FrameSizes → Answer ℕ
test_of c z =
    refuse_if (ltb MAX_SQN c.sqn) 10 (c.sqn ∷ [])
    (refuse_if (differ z.has_block c.block) 3 (ctrl_byte c ∷ [])
    (refuse_if (not (eqb z.mac (mac_len_of z.mac_due))) 11 []
    (refuse_if (ltb MAX_SCB_DATA z.block_data) 17 (z.block_data ∷ [])
    (refuse_if (ltb MAX_LEN (total_len c.crc z)) 12 (total_len c.crc z ∷ MAX_LEN ∷ [])
    (refuse_if (ltb z.room (total_len c.crc z)) 18 (total_len c.crc z ∷ z.room ∷ [])
    (given (total_len c.crc z)))))))

-- the sizes of what a frame is made of, with `mac` bytes of MAC, for a buffer of `room` bytes
abbrev pub sizes_of : FrameParts → ℕ → ℕ → FrameSizes
sizes_of p mac room =
    record { has_block = present p.block; mac_due = due p.block; mac = mac; block_data = block_n p.block; «data» = length p.«data»; room = room }

-- ---- the bytes

abbrev pub block_bytes : FrameBlock → List ℕ
block_bytes no_scb = []
block_bytes (scb ty l) = (length l + SCB_HEADER_LEN) ∷ ty ∷ l

-- 53, the address, LEN low and high, CTRL
abbrev pub head_bytes : ℕ → Control → ℕ → List ℕ
head_bytes addr ctrl total = SOM ∷ addr ∷ low_first 2 total ++ (ctrl_byte ctrl ∷ [])

-- from 53 to the end of data, in a frame of total bytes
unfoldable pub body_bytes : ℕ → Control → FrameBlock → ℕ → List ℕ → ℕ → List ℕ
body_bytes addr ctrl b code dat total = head_bytes addr ctrl total ++ block_bytes b ++ (code ∷ []) ++ dat

-- the trailer of what stands before it
abbrev pub tail_bytes : Bool → List ℕ → List ℕ
tail_bytes true l = low_first CRC_LEN (crc_of l)
tail_bytes false l = checksum_of l ∷ []

-- from 53 to the end of the MAC: what the trailer is over
abbrev pub covered_bytes : FrameParts → ℕ → List ℕ
covered_bytes p total = body_bytes p.addr p.ctrl p.block p.code p.«data» total ++ p.mac

-- the whole frame of total bytes
unfoldable pub frame_bytes : FrameParts → ℕ → List ℕ
frame_bytes p total = covered_bytes p total ++ tail_bytes p.ctrl.crc (covered_bytes p total)

-- ---- the two calls, into a buffer of `have` bytes

unfoldable pub build_of : FrameParts → ℕ → Answer (List ℕ)
build_of p have =
    and_then (test_of p.ctrl (sizes_of p (length p.mac) have)) (λ total. given (frame_bytes p total))

-- the first of two calls, where the MAC is not yet known: tested as building with four bytes of MAC; from 53 to the end of data
unfoldable pub body_of : FrameParts → ℕ → Answer (List ℕ)
body_of p have =
    and_then (test_of p.ctrl (sizes_of p MAC_LEN have))
    (λ total. given (body_bytes p.addr p.ctrl p.block p.code p.«data» total))

-- ---- the code's kinds, as the paper has them; data beside an absent block is no part of the packet

abbrev pub scb_given : Option ScsType → List ℕ → FrameBlock
scb_given None l = no_scb
scb_given (Some ty) l = scb (type_of ty) l

abbrev pub mac_bytes : Option (List ℕ) → List ℕ
mac_bytes None = []
mac_bytes (Some four) = four

abbrev pub parts_given : PacketBuilder → List ℕ → List ℕ → Option (List ℕ) → FrameParts
parts_given w l d m =
    record { addr = w.addr.0; ctrl = control w.ctrl; block = scb_given w.block l; code = w.code; «data» = d; mac = mac_bytes m }
