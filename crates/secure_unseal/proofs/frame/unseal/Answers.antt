-- `unseal` meets its contract: another state is refused by 16; else reading refuses, or the frame that was read is unsealed.
use mathlib.Core.Path.{sym, ap, ◌∙◌}
use Rattle.laws.specs.Answer.{Answer, Answer.given}
use Rattle.packet_parse.specs.Frame.{Fields, fields, parsed}
use Rattle.secure_session.specs.Chain.{recv_from}
use Rattle.secure_session.specs.Secure.{secure_told}
use Rattle.secure_session.specs.declared.session.Session.{Session}
use Rattle.secure_session.specs.declared.session.Processed.{Processed}
use Rattle.secure_session.proofs.SecureLaws.{secure_taken}
use Rattle.secure_unseal.specs.Unseal.{unseal_parsed, unsealed_on, unseal_told}
use Rattle.secure_unseal.specs.declared.frame.PayloadPlace.{PayloadPlace}
use Rattle.secure_unseal.proofs.Cases.{stops, parsed-refused, on-secure, on-other}
use Rattle.secure_unseal.proofs.frame.unseal.Goals as goal

pub returns-in_default : goal.returns-in_default
returns-in_default c =
    let a = c.args in
    ap (λ (r : Processed PayloadPlace). unseal_told r a.work.now) c.stopped.ensures
    ∙ on-other a.session a.frame.now a.work.now (sym (ap secure_told c.in_default.is) ∙ c.secure.ensures)

pub returns-in-Ok : goal.returns-in-Ok
returns-in-Ok c =
    let a = c.args in
    let h = sym (ap secure_told c.in-Some.is) ∙ c.secure.ensures in
    c.unseal_parsed.ensures
    ∙ ap (λ (s : Session). unsealed_on s (unseal_parsed s.keys (recv_from s) a.frame.now (given (fields c.in-Ok.p)) a.work.now)) (secure_taken a.session h).1
    ∙ on-secure a.session a.frame.now a.work.now h
    (ap (λ (x : Answer Fields). unseal_parsed a.session.keys (recv_from a.session) a.frame.now x a.work.now) (sym (ap parsed c.in-Ok.is) ∙ c.parse.ensures))

pub returns-in-Err : goal.returns-in-Err
returns-in-Err c =
    let a = c.args in
    stops c.stopped-in-Err.ensures (parsed-refused a.session.keys (recv_from a.session) a.frame.now a.work.now _ _)
    ∙ on-secure a.session a.frame.now a.work.now (sym (ap secure_told c.in-Some.is) ∙ c.secure.ensures)
    (ap (λ (x : Answer Fields). unseal_parsed a.session.keys (recv_from a.session) a.frame.now x a.work.now) (sym (ap parsed c.in-Err.is) ∙ c.parse.ensures))
