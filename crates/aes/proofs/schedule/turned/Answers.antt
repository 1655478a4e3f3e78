-- `aes::schedule::turned` meets its contract: a byte of the word comes from the second column of y.
use mathlib.Core.Path.{ap, ◌∙◌}
use mathlib.Core.List.{[], ◌∷◌}
use Prim.Native.Nat.{ℕ}
use Rattle.aes_field.specs.Field.{◌⊕◌}
use Rattle.aes_field.specs.Packed.{unpacked}
use Rattle.aes_field.proofs.Packing.{entry_at}
use Rattle.aes.specs.Halves.{key_turn}
use Rattle.aes.proofs.schedule.turned.Goals as goal

pub returns : goal.returns
unfolding unpacked key_turn ◌⊕◌
returns c =
    let a = c.args in
    let at = entry_at a.t.now in
    c.pack.ensures
    ∙ (λ i.
    (ap (λ (z : ℕ). z ⊕ a.c) (c.sub.ensures ∙ at a.y 5)) i
    ∷ (c.sub-2.ensures ∙ at a.y 6) i
    ∷ (c.sub-3.ensures ∙ at a.y 7) i
    ∷ (c.sub-4.ensures ∙ at a.y 4) i
    ∷ 0 ∷ 0 ∷ 0 ∷ 0 ∷ [])
