-- Of an accepted frame the data lies inside what was read, and so does the MAC where one is due.
-- Assumes nothing.
use mathlib.Core.Path.{◌≡◌, ◌∙◌}
use mathlib.Core.Bool.{true, false≢true}
use mathlib.Core.List.{List}
use Prim.Native.Nat.{ℕ, ◌+◌, ◌≤◌}
use native.Mathlib.Omega.{arith}
use lib.ListN.{length}
use Rattle.laws.specs.Answer.{Answer.given}
use Rattle.packet_head.specs.Block.{has_mac}
use Rattle.packet_parse.specs.Frame.{Fields, MacAt, MacAt.no_mac, MacAt.mac_from, type_in, mac_start_of, parse_of}
use Rattle.packet_parse.proofs.MacDue.{there, accepted-due}
use Rattle.packet_parse.proofs.Within.{MacInside, accepted_inside}

inside : (m : MacAt) (end len : ℕ) → there m ≡ true → MacInside m end len → mac_start_of m + 4 ≤ len
inside no_mac end len h i = absurd (false≢true h)
inside (mac_from at) end len h i = omega arith

module _ (s : List ℕ) (F : Fields) (e : parse_of s ≡ given F) where
  pub mac-inside : has_mac (type_in F.block) ≡ true → mac_start_of F.mac + 4 ≤ length s
  mac-inside h =
      let i = accepted_inside s F e in
      let k = inside F.mac (F.data_start + F.data_len) F.len ((accepted-due s F e).1 ∙ h) i.mac in
      omega (arith, k, i.most)

  pub data-inside : F.data_start + F.data_len ≤ length s
  data-inside = let i = accepted_inside s F e in omega (arith, i.«data», i.most)
