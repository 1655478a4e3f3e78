-- `secure_cipher::mac::chain` meets its contract: the blocks that are left make of v what all make of the first value.
use mathlib.Core.Path.{ap, ◌∙◌}
use borrow.Author.Rules.{rules}
use borrow.Author.Tests.{eqb-true}
use Rattle.aes.specs.Cipher.{E}
use Rattle.aes.proofs.Laws.{enciphers}
use Rattle.secure_cipher.proofs.MacLaws.{chain_none, chain_next, chain_end}
use Rattle.secure_cipher.proofs.mac.chain.Goals as goal

pub returns-then-is_empty : goal.returns-then-is_empty
returns-then-is_empty c = chain_none _ _ _ (search (rules, eqb-true))

pub loop-b-preserved : goal.loop-b-preserved
loop-b-preserved c = λ k h.
    chain_next k _ _ _ _ c.loop-b-test.true (enciphers _ _ k _ _ c.requires h c.encrypt-v.ensures ∙ ap (E k) c.xor.ensures) ∙ c.loop-b.invariant k h

pub returns : goal.returns
returns c =
    let a = c.args in
    chain_end a.key _ a.blocks.now _ c.loop-b-test.false ∙ c.loop-b.invariant a.key c.encrypt_key-k.ensures
