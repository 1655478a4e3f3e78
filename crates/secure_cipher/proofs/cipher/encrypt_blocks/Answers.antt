-- `secure_cipher::cipher::encrypt_blocks` meets its contract: before turn i, i blocks are laid, and the rest is what v leads to.
use Prim.Native.Nat.{ℕ, ◌+◌, ◌*◌, ◌/◌, ◌<◌}
use mathlib.Core.Path.{◌≡◌, refl, sym, ap, ◌∙◌}
use mathlib.Core.List.{List, []}
use native.Mathlib.Omega.{arith}
use borrow.Author.Rules.{rules}
use lib.ListN.{length, get_or, take, drop}
use Rattle.laws.specs.Bytes.{xorl}
use Rattle.laws.specs.Over.{write}
use Rattle.aes.specs.Cipher.{E}
use Rattle.aes.proofs.Laws.{enciphers}
use Rattle.secure_cipher.specs.Pad.{pad_data}
use Rattle.secure_cipher.proofs.Turns.{get_or-chunks}
use Rattle.secure_cipher.proofs.PadLaws.{pad_data_in, pad_data_last}
use Rattle.secure_cipher.proofs.CbcLaws.{steps-hide}
use Rattle.secure_cipher.proofs.CbcLoop.{laid_none, laid_more, laid-all, enc-more, enc_none, enc_all}
use Rattle.secure_cipher.proofs.cipher.encrypt_blocks.Goals as goal

pub loop-i-init : goal.loop-i-init
loop-i-init c = λ k h. laid_none _ _ _ 0 refl refl

pub loop-i-preserved : goal.loop-i-preserved
loop-i-preserved c =
    let l = c.loop-i in
    let x = c.args.data.now in
    let p = pad_data x in
    let n = length c.as_chunks.result.0.now + 1 in
    let b = c.encrypt-c.result in
    let m : length b ≡ 16 = search rules in
    let lt : l.i < length x / 16 = omega (arith, c.loop-i-test.true, c.as_chunks.ensures.front_len) in
    let e : get_or c.as_chunks.result.0.now l.i [] ≡ take 16 (drop (l.i * 16) p) =
    ap (λ (bs : List (List ℕ)). get_or bs l.i []) c.as_chunks.ensures.front ∙ get_or-chunks _ l.i x lt ∙ pad_data_in x (l.i * 16) (omega arith) in
    λ k h.
    laid_more b _ _ ((l.i + 1) * 16) m (omega arith) (omega arith)
    (enc-more k p n l.i l.v b (omega arith)
    (enciphers _ _ k _ b c.encrypt_tables-t.ensures h c.encrypt-c.ensures ∙ ap (E k) (c.xor.ensures ∙ ap (λ (y : List ℕ). xorl y l.v) e)))
    c.put.ensures (l.invariant k h)

pub returns : goal.returns
returns c =
    let l = c.loop-i in
    let a = c.args in
    let x = a.data.now in
    let p = pad_data x in
    let n = length c.as_chunks.result.0.now + 1 in
    let h = c.encrypt_key-k.ensures in
    let b = c.encrypt-last.result in
    let m : length b ≡ 16 = search rules in
    let i : l.i ≡ length c.as_chunks.result.0.now = omega arith in
    let f = c.as_chunks.ensures.front_len in
    let e = c.last_data_block.ensures ∙ pad_data_last x (l.i * 16) (omega arith) in
    let q =
    laid_more b _ _ ((l.i + 1) * 16) m (omega arith) (omega arith)
    (enc-more a.key p n l.i l.v b (omega arith)
    (enciphers _ _ a.key _ b c.encrypt_tables-t.ensures h c.encrypt-last.ensures ∙ ap (E a.key) (c.xor-2.ensures ∙ ap (λ (y : List ℕ). xorl y l.v) e)))
    (c.put-2.ensures ∙ ap (λ (j : ℕ). write l.out (j * 16) b) (sym i)) (l.invariant a.key h) in (
      laid-all q (enc_none a.key p n (l.i + 1) b (omega arith)) ∙ ap (write a.out.now 0) (enc_all a.key x n a.iv (omega arith)),
      omega (arith, steps-hide a.key a.iv x),
    )
