-- `secure_cipher::pad::pad_mac` meets its contract: nothing is added to whole blocks, and other bytes are padded as data.
use Prim.Native.Nat.{◌≤◌}
use mathlib.Core.Path.{sym, ap, ◌∙◌}
use native.Mathlib.Omega.{arith}
use borrow.Author.Rules.{rules}
use lib.ListN.{length}
use Rattle.std.proofs.lemmas.Result.{err_from_is_err_and}
use Rattle.laws.specs.Answer.{Answer.given}
use Rattle.laws.specs.Buffer.{sized, written}
use Rattle.laws.specs.Over.{write}
use Rattle.slices.proofs.CopyLaws.{copied_all}
use Rattle.secure_cipher.specs.Pad.{pad_mac}
use Rattle.secure_cipher.proofs.PadLaws.{pad_mac_whole, pad_mac_part, fitting-short, fitting-good}
use Rattle.secure_cipher.proofs.pad.pad_mac.Goals as goal

pub returns-then-n-ne0 : goal.returns-then-n-ne0
returns-then-n-ne0 c =
    let a = c.args in
    rw (pad_mac_part a.data.now (λ h. omega arith)) c.pad_data.ensures

pub returns-in_err-room_for : goal.returns-in_err-room_for
returns-in_err-room_for c =
    let a = c.args in
    let x = a.data.now in
    let o = a.out.now in
    let h = c.in_err-room_for.ensures.err in
    let q = err_from_is_err_and c.from_residual.result c.from_residual.ensures.1 in
    let f = fitting-short (pad_mac x) (length o) (length x) (sym (ap length (pad_mac_whole x (omega arith)))) h.0 in
    rw (q.1, q.2, h.1) (record { result_value = ap sized f; out_after = ap (written o) f })

pub returns : goal.returns
returns c =
    let a = c.args in
    let x = a.data.now in
    let e = pad_mac_whole x (omega arith) in
    let o = a.out.now in
    let n = sym (ap length e) in
    let room : length x ≤ length o = search rules in
    let f = fitting-good (pad_mac x) (length o) (length x) n room in
    record { result_value = ap given n ∙ ap sized f; out_after = copied_all o 0 x c.copy.ensures.out_after (omega arith) ∙ ap (write o 0) (sym e) ∙ ap (written o) f }
