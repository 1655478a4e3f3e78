-- `secure_cipher::block::xor` meets its contract: byte by byte.
use mathlib.Core.Path.{◌≡◌, sym, ◌∙◌}
use borrow.Author.Rules.{rules}
use native.Mathlib.Omega.{arith}
use lib.ListN.{length, get_or}
use Rattle.std.specs.Int.Bits.{bit_xor}
use Rattle.laws.specs.Bytes.{xorl}
use Rattle.laws.proofs.ByteLists.{length-xorl, get_or-xorl}
use Rattle.secure_cipher.proofs.Made.{made_is}
use Rattle.secure_cipher.proofs.block.xor.Goals as goal

pub returns : goal.returns
returns c =
    let a = c.args.a in
    let b = c.args.b in
    let m : length a ≡ 16 = search rules in
    let n : length b ≡ 16 = search rules in
    made_is _ _ (λ i. bit_xor (get_or a i 0) (get_or b i 0)) (λ i x p k. search rules) c.from_fn.result (xorl a b) 16 (length-xorl a b ∙ m)
    (λ i h. sym (get_or-xorl a b i (omega arith) (omega arith))) c.from_fn.ensures.items
