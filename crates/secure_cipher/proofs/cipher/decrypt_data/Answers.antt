-- `secure_cipher::cipher::decrypt_data` meets its contract: its five returns are the five cases of deciphering.
use mathlib.Core.Path.{sym, ap, ◌∙◌}
use Prim.Native.Nat.{◌≤◌}
use native.Mathlib.Omega.{arith}
use borrow.Author.Rules.{rules}
use lib.ListN.{length}
use Rattle.laws.specs.Blocks.{blocks, flat}
use Rattle.refusal.specs.Reading.{length_answer}
use Rattle.secure_cipher.specs.Pad.{unpad}
use Rattle.secure_cipher.specs.Cbc.{dec_run}
use Rattle.secure_cipher.specs.Parts.{Deciphered}
use Rattle.secure_cipher.proofs.PadLaws.{unpad-less}
use Rattle.secure_cipher.proofs.CbcCalls.{decrypt-short, decrypt-empty, decrypt-ragged, decrypt-bad, decrypt-good, read-text}
use Rattle.secure_cipher.proofs.cipher.decrypt_data.Goals as goal

pub returns-in-Err : goal.returns-in-Err
returns-in-Err c =
    let a = c.args in
    let h = c.in-Err.ensures.err in
    rw h.1 (decrypt-short a.s_enc a.iv a.ct.now a.out.now h.0)

pub returns-then-n-eq0 : goal.returns-then-n-eq0
returns-then-n-eq0 c =
    let a = c.args in
    let room : length a.ct.now ≤ length a.out.now = search rules in
    c.bad_padding.ensures ∙ decrypt-empty a.s_enc a.iv a.ct.now a.out.now room c.if-n-eq0.true

pub returns-then-n-ne0 : goal.returns-then-n-ne0
returns-then-n-ne0 c =
    let a = c.args in
    let room : length a.ct.now ≤ length a.out.now = search rules in
    c.bad_padding-then-n-ne0.ensures ∙ decrypt-ragged a.s_enc a.iv a.ct.now a.out.now room c.if-n-eq0.false c.if-n-ne0.true

pub bounds-out-len : goal.bounds-out-len
bounds-out-len c =
    let a = c.args in
    let room : length a.ct.now ≤ length a.out.now = search rules in
    let e : Deciphered _ _ _ _ _ = c.decrypt_blocks-calls.ensures in
    let t = flat (dec_run a.s_enc a.iv (blocks a.ct.now)).out in
    let l = unpad-less t _ (sym (ap length_answer (sym c.in-Ok.is) ∙ c.unpad_data.ensures ∙ ap unpad (read-text e))) in
    omega (arith, l, e.size, room)

pub returns-in-Ok : goal.returns-in-Ok
returns-in-Ok c =
    let a = c.args in
    let room : length a.ct.now ≤ length a.out.now = search rules in
    let e : Deciphered _ _ _ _ _ = c.decrypt_blocks-calls.ensures in
    cc (decrypt-good a.s_enc a.iv a.ct.now a.out.now _ _ room c.if-n-eq0.false c.if-n-ne0.false e.here e.size e.counted _
    (ap length_answer (sym c.in-Ok.is) ∙ c.unpad_data.ensures ∙ ap unpad (read-text e)))

pub returns-in-Err-unpad_data : goal.returns-in-Err-unpad_data
returns-in-Err-unpad_data c =
    let a = c.args in
    let room : length a.ct.now ≤ length a.out.now = search rules in
    let e : Deciphered _ _ _ _ _ = c.decrypt_blocks-calls.ensures in
    cc (decrypt-bad a.s_enc a.iv a.ct.now a.out.now _ _ room c.if-n-eq0.false c.if-n-ne0.false e.here e.size e.counted _ _
    (ap length_answer (sym c.in-Err-unpad_data.is) ∙ c.unpad_data.ensures ∙ ap unpad (read-text e)))
