-- `aes::round::substitute` meets its contract: a byte of the half comes from a byte of one of the four.
use mathlib.Core.Path.{◌∙◌}
use mathlib.Core.List.{[], ◌∷◌}
use Rattle.aes_field.specs.Packed.{unpacked}
use Rattle.aes_field.proofs.Packing.{entry_at}
use Rattle.aes.specs.Halves.{rows_shifted}
use Rattle.aes.proofs.round.substitute.Goals as goal

pub returns : goal.returns
unfolding unpacked rows_shifted
returns c =
    let e = c.args.even in
    let o = c.args.odd in
    let at = entry_at c.args.t.now in
    c.pack.ensures
    ∙ (λ i.
    c.sub.ensures i
    ∷ (c.sub-2.ensures ∙ at o.first 5) i
    ∷ (c.sub-3.ensures ∙ at e.second 2) i
    ∷ (c.sub-4.ensures ∙ at o.second 7) i
    ∷ (c.sub-5.ensures ∙ at e.first 4) i
    ∷ (c.sub-6.ensures ∙ at o.second 1) i
    ∷ (c.sub-7.ensures ∙ at e.second 6) i
    ∷ (c.sub-8.ensures ∙ at o.first 3) i ∷ [])
