-- `secure_cipher::pad::last_data_block` meets its contract: what is left after the whole blocks is copied over zeros.
use Prim.Native.Nat.{◌-◌, ◌*◌, ◌/◌}
use mathlib.Core.Path.{◌≡◌, refl, ap, ◌∙◌}
use native.Mathlib.Omega.{arith}
use lib.ListN.{length, length-drop}
use Rattle.laws.specs.Bytes.{zeros}
use Rattle.laws.specs.Over.{write}
use Rattle.slices.proofs.CopyLaws.{copied_all}
use Rattle.secure_cipher.proofs.PadLaws.{last_made}
use Rattle.secure_cipher.proofs.pad.last_data_block.Goals as goal

pub returns : goal.returns
returns c =
    let s = c.args.s.now in
    let at = length s / 16 * 16 in
    let b = c.as_chunks.ensures.back in
    let n : length c.as_chunks.result.1.now ≡ length s - at = ap length b ∙ length-drop at s in
    last_made s _ at (length c.as_chunks.result.1.now) refl n
    (copied_all (zeros 16) 0 c.as_chunks.result.1.now c.copy.ensures.out_after (omega arith) ∙ ap (write (zeros 16) 0) b)
