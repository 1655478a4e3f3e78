-- `unseal_plain` meets its contract, by whether the MAC is right.
use native.Mathlib.Omega.{arith}
use mathlib.Core.Path.{◌≡◌, ◌∙◌}
use Rattle.packet_parse.specs.Frame.{fields}
use Rattle.secure_session.specs.Chain.{recv_from}
use Rattle.secure_unseal.specs.Unseal.{check}
use Rattle.secure_unseal.proofs.Cases.{stops-refused, moves, check-passed, check-failed, plain-right, plain-wrong}
use Rattle.secure_unseal.proofs.Wiping.{check-counted}
use Rattle.secure_unseal.proofs.frame.unseal_plain.Goals as goal

pub returns-in-Ok : goal.returns-in-Ok
returns-in-Ok c =
    let a = c.args in
    let y = check-passed a.secure.session a.secure.secure a.sealed.frame.now a.sealed.mac_at c.check-checked.result c.check-checked.ensures c.in-Ok.is in
    let n : c.mac_calls-calls.result ≡ (check a.secure.session.keys (recv_from a.secure.session) a.sealed.frame.now a.sealed.mac_at).steps =
    c.mac_calls-calls.ensures ∙ check-counted a.secure.session.keys (recv_from a.secure.session) a.sealed.frame.now a.sealed.mac_at (omega (arith, a.sealed.mac_inside)) in
    λ w. moves a.secure.session _ y.1 (plain-right _ (fields a.sealed.p) w n y.0)

pub returns-in-Err : goal.returns-in-Err
returns-in-Err c =
    let a = c.args in
    let y = check-failed a.secure.session a.secure.secure a.sealed.frame.now a.sealed.mac_at c.check-checked.result c.check-checked.ensures c.in-Err.e c.in-Err.is in
    let n : c.mac_calls-calls.result ≡ (check a.secure.session.keys (recv_from a.secure.session) a.sealed.frame.now a.sealed.mac_at).steps =
    c.mac_calls-calls.ensures ∙ check-counted a.secure.session.keys (recv_from a.secure.session) a.sealed.frame.now a.sealed.mac_at (omega (arith, a.sealed.mac_inside)) in
    λ w. stops-refused y.1 y.2 y.3 c.stopped.ensures (plain-wrong _ (fields a.sealed.p) w n y.0)
