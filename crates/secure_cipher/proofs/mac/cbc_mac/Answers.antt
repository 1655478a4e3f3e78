-- `secure_cipher::mac::cbc_mac` meets its contract: of nothing the chain value; else the blocks before the last, and the last.
use Prim.Native.Nat.{◌-◌, ◌/◌}
use mathlib.Core.Path.{◌≡◌, refl, ap, ◌∙◌}
use native.Mathlib.Omega.{arith}
use borrow.Author.Rules.{rules}
use borrow.Author.Tests.{eqb-true, eqb-false}
use lib.ListN.{length}
use Rattle.aes.specs.Cipher.{E}
use Rattle.aes.proofs.Laws.{enciphers}
use Rattle.secure_cipher.specs.Parts.{chained}
use Rattle.secure_cipher.proofs.MacLaws.{mac_none, mac-last, chunks_front}
use Rattle.secure_cipher.proofs.mac.cbc_mac.Goals as goal

pub returns-then-is_empty : goal.returns-then-is_empty
returns-then-is_empty c = let a = c.args in
    mac_none a.s_mac1 a.s_mac2 a.icv a.input.now (search (rules, eqb-true))

pub returns : goal.returns
returns c = let a = c.args in
    let l = a.input.now in
    let some : length l ≡ 0 → ⊥ = search (rules, eqb-false) in
    mac-last a.s_mac1 a.s_mac2 a.icv l c.chain-v.result c.last_mac_block.result c.encrypt-full.result
    ((length l - 1) / 16) (omega (arith, some)) refl (c.chain-v.ensures ∙ ap (chained a.s_mac1 a.icv) (chunks_front _ (length l / 16) l _ (omega arith) c.as_chunks.ensures.front)) c.last_mac_block.ensures
    (enciphers _ _ a.s_mac2 _ _ c.encrypt_tables-t.ensures c.encrypt_key-k.ensures c.encrypt-full.ensures ∙ ap (E a.s_mac2) c.xor.ensures)
    _ (omega arith)
