-- What comes in from C has one reading, so a promise on its reading settles it.
-- Assumes nothing.
use Rattle.std.specs.Prelude.{Option, Some, None, Result}
use Prim.Native.Nat.{ℕ}
use mathlib.Core.Path.{◌≡◌, refl, sym, ap, ◌∙◌}
use mathlib.Core.List.{List, []}
use native.Mathlib.Omega.{arith}
use lib.ListN.{length}
use Rattle.laws.specs.Answer.{Answer}
use Rattle.refusal.specs.declared.Refusal.{Refusal}
use Rattle.refusal.proofs.OneReading.{result_settled}
use Rattle.packet_head.specs.Numbers.{MAC_LEN}
use Rattle.packet_head.proofs.Settled.{control_from, type_from, type_back}
use Rattle.packet_build.specs.Build.{FrameBlock, FrameBlock.no_scb, FrameBlock.scb, FrameParts, parts_given, scb_given, mac_bytes}
use Rattle.packet_head.specs.declared.scb.ScsType.{ScsType}
use Rattle.packet_build.specs.declared.codec.PacketBuilder.{PacketBuilder}
use Rattle.secure_session.specs.declared.session.Session.{Session}
use Rattle.crossing.specs.Building.{AskedMeets}
use Rattle.crossing.specs.Sessions.{taken}
use Rattle.crossing.specs.declared.build.CPacket.{CPacket}

-- ---- what is to be built

abbrev block_from : FrameBlock → Option ScsType
block_from no_scb = None
block_from (scb t l) = Some (type_from t)

block_back : (b : Option ScsType) → block_from (scb_given b []) ≡ b
block_back None = refl
block_back (Some t) = ap (λ (x : ScsType). Some x) (type_back t)

abbrev packet_from : FrameParts → PacketBuilder
packet_from q = record { addr = record { 0 = q.addr }; ctrl = control_from q.ctrl; block = block_from q.block; code = q.code }

packet_back : (w : PacketBuilder) → packet_from (parts_given w [] [] None) ≡ w
packet_back w = ap (λ (b : Option ScsType). record { addr = w.addr; ctrl = w.ctrl; block = b; code = w.code }) (block_back w.block)

pub asked_settled : (p : CPacket) (r s : Result PacketBuilder Refusal) → AskedMeets r p → AskedMeets s p → r ≡ s
asked_settled p r s e f = result_settled (λ w. parts_given w [] [] None) packet_from packet_back r s (e [] [] None ∙ sym (f [] [] None))

-- a MAC is four bytes
abbrev pub IsMac : Option (List ℕ) → Type 0
IsMac None = Unit {0}
IsMac (Some four) = length four ≡ MAC_LEN

pub given-mac_settled : (m k : Option (List ℕ)) → IsMac m → IsMac k → mac_bytes m ≡ mac_bytes k → m ≡ k
given-mac_settled None None g h e = refl
given-mac_settled None (Some l) g h e = absurd (omega (arith, ap length e))
given-mac_settled (Some l) None g h e = absurd (omega (arith, ap length e))
given-mac_settled (Some l) (Some j) g h e = ap Some e

-- ---- a session

pub taken_settled : (x : Answer Session) (r s : Result Session Refusal) → taken r ≡ x → taken s ≡ x → r ≡ s
taken_settled x r s e f = result_settled (λ t. t) (λ t. t) (λ t. refl) r s (e ∙ sym f)
