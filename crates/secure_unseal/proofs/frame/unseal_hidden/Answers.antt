-- `unseal_hidden` meets its contract: refused by 18 or 14, then by the MAC's check, after which a wipe leaves nothing of the text.
use native.Mathlib.Omega.{arith}
use mathlib.Core.Path.{◌≡◌, ap, ◌∙◌}
use mathlib.Core.List.{List}
use Prim.Native.Nat.{ℕ, ◌+◌, ◌/◌, ◌≤◌}
use lib.ListN.{length}
use Rattle.packet_parse.specs.Frame.{fields}
use Rattle.refusal.specs.Reading.{length_answer}
use Rattle.secure_cipher.specs.Mac.{mac_calls}
use Rattle.secure_session.specs.Chain.{recv_from}
use Rattle.secure_session.specs.declared.session.Session.{Session}
use Rattle.secure_session.proofs.SessionLaws.{recv_block}
use Rattle.secure_session.proofs.Owned.{secure-enc-block, secure-chain-kept}
use Rattle.secure_unseal.specs.Unseal.{check}
use Rattle.secure_unseal.proofs.Cases.{stops, stops-refused, moves, check-passed, check-failed, hidden-no, hidden-right, hidden-wrong}
use Rattle.secure_unseal.proofs.Wiping.{found-steps, found-room, found-wiped, check-steps, check-counted}
use Rattle.secure_unseal.proofs.frame.unseal_hidden.Goals as goal

-- what is counted is what the check takes
counted : (s : Session) (f : List ℕ) (at : ℕ) {n : ℕ} → at + 4 ≤ length f → n ≡ mac_calls at → n ≡ (check s.keys (recv_from s) f at).steps
counted s f at h e = e ∙ check-counted s.keys (recv_from s) f at (omega arith)

pub overflow_add-calls : goal.overflow_add-calls
overflow_add-calls c =
    let a = c.args in
    let n = a.sealed.p.data_len in
    let h : c.open_data-o.result.calls ≤ n / 16 = found-steps a.secure.session.keys.s_enc (recv_from a.secure.session) a.sealed.frame.now a.sealed.p.data_start n a.work.now a.sealed.data_inside c.open_data-o.ensures in
    let b : (check a.secure.session.keys (recv_from a.secure.session) a.sealed.frame.now a.sealed.mac_at).steps ≡ (a.sealed.mac_at + 15) / 16 =
    check-steps a.secure.session.keys (recv_from a.secure.session) a.sealed.frame.now a.sealed.mac_at (omega (arith, a.sealed.mac_inside)) in
    omega (arith, h, counted a.secure.session a.sealed.frame.now a.sealed.mac_at a.sealed.mac_inside c.mac_calls.ensures, b, a.sealed.mac_inside, a.sealed.data_inside, c.well_formed)

pub wipe-requires : goal.wipe-requires
wipe-requires c =
    let a = c.args in
    let r = found-room a.secure.session.keys.s_enc (recv_from a.secure.session) a.sealed.frame.now a.sealed.p.data_start a.sealed.p.data_len a.work.now a.sealed.data_inside c.open_data-o.ensures _ (ap length_answer c.in-Ok.is) in
    omega (arith, r, c.open_data-o.auto.work)

pub returns-in-Ok-answer : goal.returns-in-Ok-answer
returns-in-Ok-answer c =
    let a = c.args in
    let y = check-passed a.secure.session a.secure.secure a.sealed.frame.now a.sealed.mac_at c.check-checked.result c.check-checked.ensures c.in-Ok-answer.is in
    moves a.secure.session _ y.1
    (hidden-right a.secure.session.keys (recv_from a.secure.session) a.sealed.frame.now (fields a.sealed.p) a.work.now a.sealed.data_inside c.open_data-o.ensures _ _ (ap length_answer c.in-Ok.is)
    (counted a.secure.session a.sealed.frame.now a.sealed.mac_at a.sealed.mac_inside c.mac_calls.ensures) y.0)

pub returns-in-Err-answer : goal.returns-in-Err-answer
returns-in-Err-answer c =
    let a = c.args in
    let y = check-failed a.secure.session a.secure.secure a.sealed.frame.now a.sealed.mac_at c.check-checked.result c.check-checked.ensures c.in-Err-answer.e c.in-Err-answer.is in
    let z = found-wiped a.secure.session.keys.s_enc (recv_from a.secure.session) a.sealed.frame.now a.sealed.p.data_start a.sealed.p.data_len a.work.now a.sealed.data_inside c.open_data-o.ensures _ (ap length_answer c.in-Ok.is)
    (secure-enc-block a.secure c.well_formed.0) (recv_block a.secure.session (secure-chain-kept a.secure c.well_formed.0)).size a.sealed.bytes in
    stops-refused y.1 y.2 y.3 c.stopped-in-Err-answer.ensures
    (hidden-wrong a.secure.session.keys (recv_from a.secure.session) a.sealed.frame.now (fields a.sealed.p) a.work.now a.sealed.data_inside c.open_data-o.ensures _ _ (ap length_answer c.in-Ok.is)
    (counted a.secure.session a.sealed.frame.now a.sealed.mac_at a.sealed.mac_inside c.mac_calls.ensures) _ (c.wipe.ensures ∙ z) y.0)

pub returns-in-Err : goal.returns-in-Err
returns-in-Err c =
    let a = c.args in
    stops c.stopped.ensures
    (hidden-no a.secure.session.keys (recv_from a.secure.session) a.sealed.frame.now (fields a.sealed.p) a.work.now a.sealed.data_inside c.open_data-o.ensures
    (check a.secure.session.keys (recv_from a.secure.session) a.sealed.frame.now a.sealed.mac_at) _ _ (ap length_answer c.in-Err.is))
