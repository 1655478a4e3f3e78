-- `payload` meets its contract: the slice that is named, and whether the place runs outside it.
use mathlib.Core.Path.{refl, ◌∙◌}
use Rattle.secure_unseal.proofs.LookupLaws.{in_work_lem, in_frame, shows_nothing, shows-part, shows-frame}
use Rattle.secure_unseal.proofs.lookup.payload.Goals as goal

pub returns-then-outside : goal.returns-then-outside
returns-then-outside c =
    let p = c.args.place in
    shows_nothing p.in_work p.start p.len c.args.frame c.args.work (in_work_lem _ _ c.if-place.true) c.outside.ensures c.if-outside.true

pub returns-then-place : goal.returns-then-place
returns-then-place c =
    let p = c.args.place in
    c.part.ensures ∙ shows-part p.in_work p.start p.len c.args.frame c.args.work (in_work_lem _ _ c.if-place.true) c.outside.ensures c.if-outside.false

pub returns : goal.returns
returns c =
    let p = c.args.place in
    c.part-2.ensures ∙ shows-frame p.in_work p.start p.len c.args.frame c.args.work (in_frame _ _ c.if-place.false) refl
