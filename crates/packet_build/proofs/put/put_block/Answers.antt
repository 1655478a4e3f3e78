-- The block's two first bytes and its data stand one after the other; where there is none, nothing is written.
use mathlib.Core.Path.{refl, sym, ap, ◌∙◌}
use mathlib.Core.List.{List, [], ◌∷◌}
use Prim.Native.Nat.{ℕ, ◌+◌}
use native.Mathlib.Omega.{arith}
use lib.ListN.{length}
use Rattle.laws.specs.Over.{write}
use Rattle.laws.proofs.Overwrite.{write_nil, write-write}
use Rattle.slices.proofs.CopyLaws.{copied_all}
use Rattle.packet_build.proofs.put.put_block.Goals as goal

pub returns-in-None : goal.returns-in-None
returns-in-None c = rw c.in-None.is (record { value = refl; out_after = sym (write_nil _ 5) })

pub returns-in-Some : goal.returns-in-Some
returns-in-Some c = let o = c.args.out.now in
    let l = c.args.bytes.now in
    let r = rw c.in-Some.is at c.requires.1 in
    let h = copied_all o 5 _ c.copy.ensures.out_after (omega arith) ∙ ap (λ (y : ℕ). write o 5 ((length l + 2) ∷ y ∷ [])) c.as_byte.ensures in
    rw c.in-Some.is (record { value = omega arith; out_after = copied_all _ 7 l c.copy-in-Some.ensures.out_after (omega arith) ∙ ap (λ (x : List ℕ). write x 7 l) h ∙ write-write o 5 _ 7 l refl (omega arith) })
