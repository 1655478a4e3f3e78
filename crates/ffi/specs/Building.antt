-- What C asks to have built: the packet that its arguments make, then built.
-- Assumes nothing.
use Rattle.std.specs.Prelude.{ℕ, List, []}
use Rattle.laws.specs.Answer.{Answer, and_then}
use Rattle.packet_build.specs.Build.{build_of, body_of}
use Rattle.crossing.specs.declared.build.CPacket.{CPacket}
use Rattle.crossing.specs.Building.{parts_arg}

-- into a buffer of `have` bytes
unfoldable pub build_arg : CPacket → List ℕ → List ℕ → List ℕ → ℕ → Answer (List ℕ)
build_arg p l d m have = and_then (parts_arg p l d m) (λ q. build_of q have)

unfoldable pub body_arg : CPacket → List ℕ → List ℕ → ℕ → Answer (List ℕ)
body_arg p l d have = and_then (parts_arg p l d []) (λ q. body_of q have)
