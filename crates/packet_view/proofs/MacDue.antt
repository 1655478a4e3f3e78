-- The MAC that a view shows has four bytes where the block is of the types 15 to 18, and none else (docs/RULES.md, 3.6).
-- Assumes nothing.
use mathlib.Core.Path.{◌≡◌, refl, ap, ◌∙◌}
use mathlib.Core.List.{List, []}
use Prim.Native.Nat.{ℕ, ◌≤◌, ◌<◌}
use borrow.Author.Tests.{le-leb, lt-leb}
use lib.ListN.{length, take, drop}
use Rattle.laws.specs.Answer.{Answer.given}
use Rattle.packet_head.specs.Block.{has_mac}
use Rattle.packet_head.specs.Trailer.{mac_len_of}
use Rattle.packet_parse.specs.Frame.{Fields, MacAt, MacAt.no_mac, MacAt.mac_from, type_in, parse_of}
use Rattle.packet_parse.proofs.MacDue.{there, accepted-due, accepted_one_bound}
use Rattle.packet_view.specs.View.{mac_in, frame_mac_of}
use Rattle.packet_view.proofs.ShownLaws.{accepted-mac, mac-length}

mac_part_len : (m : MacAt) → (mac_in m).len ≡ mac_len_of (there m)
mac_part_len no_mac = refl
mac_part_len (mac_from at) = refl

module _ (s : List ℕ) (F : Fields) (e : parse_of s ≡ given F) where
  mac-part-due : (mac_in F.mac).len ≡ mac_len_of (has_mac (type_in F.block))
  mac-part-due = mac_part_len F.mac ∙ ap mac_len_of (accepted-due s F e).1

  pub mac-four : 0x15 ≤ type_in F.block → length (frame_mac_of s) ≡ 4
  mac-four h = mac-length s F e ∙ mac-part-due ∙ ap mac_len_of (accepted_one_bound s F e ∙ le-leb 0x15 (type_in F.block) h)

  pub no-mac-bytes : type_in F.block < 0x15 → frame_mac_of s ≡ []
  no-mac-bytes h = accepted-mac s F e ∙ ap (λ (k : ℕ). take k (drop (mac_in F.mac).at s)) (mac-part-due ∙ ap mac_len_of (accepted_one_bound s F e ∙ lt-leb 0x15 (type_in F.block) h))
