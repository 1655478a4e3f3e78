-- What C asks to have built: an SQN and a block type come as bytes and are tested first; type 0 means no block.
-- Assumes nothing.
use Rattle.std.specs.Prelude.{ℕ, ◌≡◌, cond, List, [], ◌∷◌, eqb, Option, Some, None, Result}
use Rattle.laws.specs.Answer.{Answer, Answer.given, and_then, choose}
use Rattle.refusal.specs.Reading.{answer}
use Rattle.refusal.specs.declared.Refusal.{Refusal}
use Rattle.packet_head.specs.Header.{sqn_of}
use Rattle.packet_head.specs.Block.{scs_of}
use Rattle.packet_head.specs.declared.scb.ScsType.{ScsType}
use Rattle.packet_build.specs.declared.codec.PacketBuilder.{PacketBuilder}
use Rattle.packet_build.specs.Build.{FrameBlock, FrameBlock.no_scb, FrameBlock.scb, FrameParts, parts_given, scb_given, mac_bytes}
use Rattle.crossing.specs.declared.build.CPacket.{CPacket}
use Rattle.crossing.specs.declared.build.CMac.{CMac}

unfoldable pub block_arg : ℕ → List ℕ → Answer FrameBlock
block_arg ty l = choose (eqb ty 0) (given no_scb) (and_then (scs_of ty) (λ t. given (scb t l)))

abbrev pub mac_arg : CMac → List ℕ
mac_arg m = cond m.given (m.b0 ∷ m.b1 ∷ m.b2 ∷ m.b3 ∷ []) []

-- as building takes it
abbrev pub given_arg : CMac → Option (List ℕ)
given_arg m = cond m.given (Some (m.b0 ∷ m.b1 ∷ m.b2 ∷ m.b3 ∷ [])) None

unfoldable pub parts_arg : CPacket → List ℕ → List ℕ → List ℕ → Answer FrameParts
parts_arg p l d m =
    and_then (sqn_of p.sqn) (λ n.
    and_then (block_arg p.block_type l) (λ b.
    given (record { addr = p.addr; ctrl = record { sqn = n; crc = p.crc; block = p.block }; block = b; code = p.code; «data» = d; mac = m })))

-- ---- the code's kinds, given the bytes that come beside them

abbrev pub kind_answer : Result (Option ScsType) Refusal → List ℕ → Answer FrameBlock
kind_answer r l = answer (λ k. scb_given k l) r

abbrev pub asked_parts : Result PacketBuilder Refusal → List ℕ → List ℕ → Option (List ℕ) → Answer FrameParts
asked_parts r l d m = answer (λ w. parts_given w l d m) r

-- what the functions below the exports promise, whatever bytes come beside
abbrev pub KindMeets : Result (Option ScsType) Refusal → ℕ → Type 0
KindMeets k ty = (l : List ℕ) → kind_answer k l ≡ block_arg ty l

abbrev pub AskedMeets : Result PacketBuilder Refusal → CPacket → Type 0
AskedMeets r p = (l d : List ℕ) (m : Option (List ℕ)) → asked_parts r l d m ≡ parts_arg p l d (mac_bytes m)
