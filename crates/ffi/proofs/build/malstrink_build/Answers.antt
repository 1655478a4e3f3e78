-- `malstrink_build` meets its contract: the packet is made, then built (proofs/Args).
use mathlib.Core.Path.{ap, ◌∙◌}
use Rattle.std.proofs.Common.{length}
use Rattle.laws.specs.Buffer.{sized, written}
use Rattle.crossing.specs.Answers.{c_answer}
use Rattle.ffi.proofs.Args.{build-asked, build-refused}
use Rattle.ffi.proofs.build.malstrink_build.Goals as goal

pub returns-in-Ok-clause-value : goal.returns-in-Ok-clause-value
returns-in-Ok-clause-value c = let a = c.args in
    c.into-in-Ok.ensures ∙ ap c_answer (c.build.ensures.result_value ∙ ap sized (build-asked a.p a.block.now a.«data».now (length a.out.now) c.in-Ok.w c.in-Ok.ensures a.mac c.into.result c.into.ensures.1))

pub returns-in-Ok-clause-out_after : goal.returns-in-Ok-clause-out_after
returns-in-Ok-clause-out_after c = let a = c.args in
    c.build.ensures.out_after ∙ ap (written a.out.now) (build-asked a.p a.block.now a.«data».now (length a.out.now) c.in-Ok.w c.in-Ok.ensures a.mac c.into.result c.into.ensures.1)

pub returns-in-Err-clause-value : goal.returns-in-Err-clause-value
returns-in-Err-clause-value c = let a = c.args in
    c.into-in-Err.ensures ∙ ap c_answer (ap sized (build-refused a.p a.block.now a.«data».now (length a.out.now) c.in-Err.e c.in-Err.ensures a.mac))

pub returns-in-Err-clause-out_after : goal.returns-in-Err-clause-out_after
returns-in-Err-clause-out_after c = let a = c.args in
    ap (written a.out.now) (build-refused a.p a.block.now a.«data».now (length a.out.now) c.in-Err.e c.in-Err.ensures a.mac)
