-- `secure_seal::frame::put_end` meets its contract: the MAC is copied to its place, and the CRC laid behind it.
use Rattle.laws.specs.Blocks.{Block}
use Rattle.laws.specs.Over.{write}
use Rattle.laws.proofs.Overwrite.{length-write, part_write}
use Rattle.slices.proofs.CopyLaws.{copied_part}
use Rattle.secure_session.proofs.Owned.{array_block}
use Rattle.secure_seal.proofs.FrameWritten.{end_written}
use mathlib.Core.Path.{◌≡◌, refl, ap, ◌∙◌}
use mathlib.Core.List.{List, [], ◌∷◌}
use Prim.Native.Nat.{ℕ, ◌+◌, ◌-◌}
use borrow.Rule.Slice.PartMut.{put_mid}
use borrow.Author.Rules.{rules}
use native.Mathlib.Omega.{arith}
use lib.ListN.{length, get_or}
use Rattle.secure_seal.proofs.frame.put_end.Goals as goal

pub returns : goal.returns
returns c = let laid : List ℕ = let a = c.args in put_mid a.end (a.end + 4 - a.end) a.out.now c.copy.new.out in
    let four : List ℕ = let f = c.args.full in get_or f 0 0 ∷ get_or f 1 0 ∷ get_or f 2 0 ∷ get_or f 3 0 ∷ [] in
    let mac-laid-in : laid ≡ write c.args.out.now c.args.end (four) = copied_part c.args.out.now c.args.end (c.args.end + 4) (four) c.copy.ensures.out_after refl (omega (arith, c.requires)) in
    let as_long : length (laid) ≡ length c.args.out.now = ap length (mac-laid-in) ∙ length-write c.args.out.now c.args.end (four) (omega (arith, c.requires)) in
    let a = c.args in
    let f : Block a.full = array_block c.well_formed.0 in
    let e = c.crc16_le-crc.ensures in
    let k : c.copy_from_slice.new.self ≡ c.crc16_le-crc.result = search rules in
    let m : length c.copy_from_slice.new.self ≡ a.end + 4 + 2 - (a.end + 4) = ap length (k ∙ e) ∙ omega arith in
    end_written a.out.now (laid) _ a.full c.crc16_le-crc.result a.end f.size (mac-laid-in) e
    (part_write (laid) (a.end + 4) (a.end + 4 + 2 - (a.end + 4)) _ m ∙ ap (write (laid) (a.end + 4)) k)
