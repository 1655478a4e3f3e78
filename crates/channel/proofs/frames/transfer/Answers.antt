-- `transfer` meets its contract: the seal, what it put on the line, and the unseal of that (proofs/Calls).
use mathlib.Core.Path.{ap, ◌∙◌}
use Rattle.secure_seal.specs.Seal.{asked_of, seal_of}
use Rattle.secure_seal.specs.declared.frame.Direction.{Direction}
use Rattle.channel.specs.Talk.{send_of}
use Rattle.channel.proofs.Calls.{transferred-as}
use Rattle.slices.proofs.Stretches.{same_bytes}
use Rattle.channel.proofs.frames.transfer.Goals as goal

pub returns : goal.returns
returns c =
    let a = c.args in
    let w = a.w in
    transferred-as a.from a.to (send_of w a.payload.now a.out.now a.work.now) c.seal-s.result c.unseal-u.result _ _ _
    (c.seal-s.ensures
    ∙ ap (λ (x : Direction). seal_of a.from (asked_of (record { addr = w.addr; sqn = w.sqn; direction = x; encrypt = w.encrypt; code = w.code }) a.payload.now) a.out.now) c.direction_of.ensures)
    (same_bytes c.on_line.result c.on_line.ensures)
    c.unseal-u.ensures
