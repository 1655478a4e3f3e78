-- `secure_cipher::pad::pad_data` meets its contract: the bytes, 80 and zeros, one after the other.
use mathlib.Core.Path.{refl, ap, ◌∙◌}
use Prim.Native.Nat.{◌+◌, ◌-◌, ◌*◌, ◌/◌, ◌≤◌}
use native.Mathlib.Omega.{arith}
use borrow.Author.Rules.{rules}
use lib.ListN.{length, length-set}
use Rattle.std.proofs.lemmas.Result.{err_from_is_err_and}
use Rattle.laws.specs.Answer.{Answer.given}
use Rattle.laws.specs.Buffer.{sized, written}
use Rattle.slices.proofs.CopyLaws.{copied_all, zeroed_all}
use Rattle.secure_cipher.specs.Pad.{pad_data}
use Rattle.secure_cipher.proofs.PadLaws.{length-pad_data, fitting-short, fitting-good, pad_made}
use Rattle.secure_cipher.proofs.pad.pad_data.Goals as goal

pub returns-in_err-room_for : goal.returns-in_err-room_for
returns-in_err-room_for c =
    let a = c.args in
    let x = a.data.now in
    let o = a.out.now in
    let h = c.in_err-room_for.ensures.err in
    let q = err_from_is_err_and c.from_residual.result c.from_residual.ensures.1 in
    let f = fitting-short (pad_data x) (length o) _ (omega (arith, length-pad_data x)) h.0 in
    rw (q.1, q.2, h.1) (record { result_value = ap sized f; out_after = ap (written o) f })

pub returns : goal.returns
returns c =
    let a = c.args in
    let x = a.data.now in
    let o = a.out.now in
    let room : length x / 16 * 16 + 16 ≤ length o = search rules in
    let p = length-pad_data x in
    let f = fitting-good (pad_data x) (length o) _ (omega arith) room in
    let z = zeroed_all _ (length x + 1) (length x / 16 * 16 + 16 - (length x + 1)) c.zero.ensures (simp length-set (omega arith)) in record { result_value = ap given (omega arith) ∙ ap sized f; out_after = pad_made x o _ _ (length x) _ refl (omega arith) room (copied_all o 0 x c.copy.ensures.out_after (omega arith)) z ∙ ap (written o) f }
