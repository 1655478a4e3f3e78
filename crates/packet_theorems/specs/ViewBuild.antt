-- What the view of a frame shows is what `build` is given (docs/RULES.md, 3.6 and 12.2): the words of the two theorems on it.
-- Assumes nothing.
use Rattle.std.specs.Prelude.{ℕ, ◌≡◌, cond, List, [], ◌∷◌, eqb, length, get_or, Option, Some, None}
use Rattle.laws.specs.Answer.{Answer.given}
use Rattle.packet_head.specs.Numbers.{MAC_LEN}
use Rattle.packet_head.specs.Header.{control}
use Rattle.packet_head.specs.Block.{type_of}
use Rattle.packet_parse.specs.Frame.{parse_of}
use Rattle.packet_build.specs.Build.{mac_bytes}
use Rattle.packet_head.specs.declared.scb.ScsType.{ScsType}
use Rattle.packet_build.specs.declared.codec.PacketBuilder.{PacketBuilder}
use Rattle.packet_view.specs.View.{Shown, places_of, block_data_of, payload_of, frame_mac_of}
use Rattle.packet_view.specs.declared.parts.Places.{Places}

-- ---- what both speak of

-- what a view of s tells, as `PacketView::parse` and `places_in` promise it
abbrev pub shown_of : List ℕ → Shown
shown_of s = places_of (parse_of s)

-- the type of the block that `build` is asked for, as the view tells it
abbrev pub type_asked : Option ScsType → ℕ
type_asked None = 0
type_asked (Some ty) = type_of ty

-- the block's data, of which there is none without a block
abbrev pub block_data_asked : Option ScsType → List ℕ → List ℕ
block_data_asked None l = []
block_data_asked (Some ty) l = l

-- The view of s shows a frame of n bytes, and in it what `build` is given: the packet w, block data l, data d and the MAC m.
pub record ShowsPacket (s : List ℕ) (w : PacketBuilder) (l d : List ℕ) (m : Option (List ℕ)) (n : ℕ) : Type 0 where
  pub accepted : (shown_of s).outcome ≡ given tt
  pub addr : (shown_of s).addr ≡ w.addr.0
  pub ctrl : (shown_of s).ctrl ≡ control w.ctrl
  pub type : (shown_of s).type ≡ type_asked w.block
  pub code : (shown_of s).code ≡ w.code
  pub len : (shown_of s).len ≡ n
  pub block : block_data_of s ≡ block_data_asked w.block l
  pub payload : payload_of s ≡ d
  pub mac : frame_mac_of s ≡ mac_bytes m

-- ---- what `build` is given by one who has a view

abbrev pub block_shown : Option ScsType → Option ScsType
block_shown None = None
block_shown (Some ty) = Some ty

-- the view's own address, control, block and code
abbrev pub packet_shown : Places → PacketBuilder
packet_shown p = record { addr = p.addr; ctrl = p.ctrl; block = block_shown p.block; code = p.code }

-- the MAC that the view shows: four bytes, or none
abbrev pub mac_shown : List ℕ → Option (List ℕ)
mac_shown l = cond (eqb (length l) MAC_LEN) (Some (get_or l 0 0 ∷ get_or l 1 0 ∷ get_or l 2 0 ∷ get_or l 3 0 ∷ [])) None
