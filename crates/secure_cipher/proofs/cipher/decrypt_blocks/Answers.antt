-- `secure_cipher::cipher::decrypt_blocks` meets its contract: before turn i, i blocks are laid, and the rest is what v leads to.
use Prim.Native.Nat.{ℕ, ◌+◌, ◌*◌, ◌/◌, ◌<◌}
use mathlib.Core.Path.{◌≡◌, refl, sym, ap, ◌∙◌}
use mathlib.Core.List.{List, []}
use native.Mathlib.Omega.{arith}
use borrow.Author.Rules.{rules}
use lib.ListN.{length, get_or, take, drop}
use Rattle.laws.specs.Bytes.{xorl}
use Rattle.laws.specs.Blocks.{blocks}
use Rattle.laws.specs.Over.{write}
use Rattle.laws.proofs.BlockLists.{length-blocks}
use Rattle.aes.specs.Lent.{key_bytes}
use Rattle.aes.specs.Ready.{encrypt_tables, decrypt_key}
use Rattle.aes.proofs.Laws.{deciphers}
use Rattle.secure_cipher.proofs.Turns.{get_or-chunks}
use Rattle.secure_cipher.proofs.CbcLaws.{dec_steps}
use Rattle.secure_cipher.proofs.CbcLoop.{laid_none, laid_more, laid-size, laid-all, dec-more, dec_none, dec_all}
use Rattle.secure_cipher.proofs.cipher.decrypt_blocks.Goals as goal

pub loop-i-init : goal.loop-i-init
loop-i-init c = λ k h. laid_none _ _ _ 0 refl refl

pub loop-i-preserved : goal.loop-i-preserved
loop-i-preserved c =
    let l = c.loop-i in
    let p = c.args.ct.now in
    let n = length c.as_chunks.result.0.now in
    let x = c.xor.result in
    let m : length x ≡ 16 = search rules in
    let lt : l.i < length p / 16 = omega (arith, c.loop-i-test.true, c.as_chunks.ensures.front_len) in
    let b : get_or c.as_chunks.result.0.now l.i [] ≡ take 16 (drop (l.i * 16) p) = ap (λ (bs : List (List ℕ)). get_or bs l.i []) c.as_chunks.ensures.front ∙ get_or-chunks _ l.i p lt in
    λ k h.
    laid_more x _ _ ((l.i + 1) * 16) m (omega arith) (omega arith)
    (dec-more k p n l.i l.v _ x c.loop-i-test.true b
    (c.xor.ensures ∙ ap (λ (y : List ℕ). xorl y l.v) (deciphers encrypt_tables _ _ k _ _ refl c.decrypt_tables-u.ensures h c.decrypt.ensures)))
    c.put.ensures (l.invariant k h)

pub returns : goal.returns
returns c =
    let l = c.loop-i in
    let a = c.args in
    let p = a.ct.now in
    let n = length c.as_chunks.result.0.now in
    let e : n ≡ length p / 16 = c.as_chunks.ensures.front_len in
    let h : key_bytes c.decrypt_key-k.result ≡ decrypt_key encrypt_tables a.key = cc in
    let q = l.invariant a.key h in
    let z = dec_none a.key p n l.i l.v c.loop-i-test.false in
    let d = dec_all a.key p n a.iv e in
    record {
      size = ap length (sym d) ∙ laid-size q z ∙ omega arith;
      here = laid-all q z ∙ ap (write a.out.now 0) d;
      counted = e ∙ sym (dec_steps a.key a.iv (blocks p) ∙ length-blocks p);
    }
