-- The parts that stand at the places of an accepted frame (`parts_from`) are those that its view shows.
-- Assumes nothing.
use mathlib.Core.Path.{◌≡◌, refl, ap, ◌∙◌}
use mathlib.Core.List.{List, [], ◌++◌}
use Prim.Native.Nat.{ℕ, ◌+◌, ◌≤◌}
use native.Mathlib.Omega.{arith}
use lib.ListN.{length, take, drop, length-drop}
use lib.Seq.{take-append-le, drop-append-le}
use Rattle.laws.specs.Answer.{Answer.given}
use Rattle.packet_parse.specs.Frame.{Fields, BlockAt, BlockAt.no_block, BlockAt.block_at, MacAt, MacAt.no_mac, MacAt.mac_from, parse_of}
use Rattle.packet_parse.proofs.Within.{Inside, accepted_inside}
use Rattle.packet_build.specs.Build.{FrameBlock, FrameBlock.no_scb, FrameBlock.scb}
use Rattle.packet_view.specs.View.{block_in, mac_in, block_data_of, payload_of, frame_mac_of}
use Rattle.packet_view.proofs.ShownLaws.{block_part_inside, payload_inside, mac_part_inside, accepted-block-data, accepted-payload, accepted-mac}
use Rattle.packet_theorems.proofs.Rebuilt.{frame_block_from, mac_bytes_from, parts_from}

abbrev pub block_data_in : FrameBlock → List ℕ
block_data_in no_scb = []
block_data_in (scb ty l) = l

-- a part that lies in f is not touched by what follows f
part_before : (f rest : List ℕ) (at n : ℕ) → at + n ≤ length f → take n (drop at (f ++ rest)) ≡ take n (drop at f)
part_before f rest at n h =
    let k : n ≤ length (drop at f) = omega (arith, length-drop at f) in
    ap (take n) (drop-append-le at f rest (omega arith)) ∙ take-append-le n (drop at f) rest k

block_data_from : (b : BlockAt) (f : List ℕ) → take (block_in b).len (drop (block_in b).at f) ≡ block_data_in (frame_block_from b f)
block_data_from no_block f = refl
block_data_from (block_at ty start len) f = refl

mac-from : (m : MacAt) (f : List ℕ) → take (mac_in m).len (drop (mac_in m).at f) ≡ mac_bytes_from m f
mac-from no_mac f = refl
mac-from (mac_from at) f = refl

-- f is the frame, and rest what follows it
module _ (f rest : List ℕ) (F : Fields) (e : parse_of (f ++ rest) ≡ given F) (n : F.len ≡ length f) where
  within : Inside (length f) F
  within =
      let i = accepted_inside (f ++ rest) F e in
      record { least = i.least; most = omega arith; block = i.block; «data» = i.«data»; mac = i.mac }

  pub block-data-seen : block_data_of (f ++ rest) ≡ block_data_in (frame_block_from F.block f)
  block-data-seen =
      accepted-block-data (f ++ rest) F e ∙ part_before f rest _ _ (block_part_inside (length f) F within) ∙ block_data_from F.block f

  pub payload-seen : payload_of (f ++ rest) ≡ (parts_from f F).«data»
  payload-seen = accepted-payload (f ++ rest) F e ∙ part_before f rest _ _ (payload_inside (length f) F within)

  pub mac-seen : frame_mac_of (f ++ rest) ≡ (parts_from f F).mac
  mac-seen = accepted-mac (f ++ rest) F e ∙ part_before f rest _ _ (mac_part_inside (length f) F within) ∙ mac-from F.mac f
