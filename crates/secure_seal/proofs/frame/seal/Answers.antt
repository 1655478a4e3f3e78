-- `secure_seal::frame::seal` meets its contract: 16, what the tests of the frame answer, or the frame and the chain moved by its MAC.
use mathlib.Core.Path.{◌≡◌, refl, sym, ap, subst, ◌∙◌}
use native.Mathlib.Omega.{arith}
use mathlib.Core.Bool.{not}
use Prim.Native.Nat.{ℕ}
use lib.ListN.{length}
use Rattle.refusal.specs.Reading.{length_answer}
use Rattle.secure_session.specs.Secure.{secure_told}
use Rattle.secure_session.specs.declared.session.Session.{Session}
use Rattle.secure_session.proofs.SecureLaws.{secure_taken, not_secure}
use Rattle.secure_seal.specs.Seal.{Asked, asked_of, total_of, frame_test}
use Rattle.secure_seal.specs.Parts.{Put}
use Rattle.secure_seal.proofs.SealCases.{tests_passed, told-not-secure, told-refused, told-done}
use Rattle.secure_seal.proofs.frame.seal.Goals as goal

pub returns-in_default : goal.returns-in_default
returns-in_default c =
    let a = c.args in
    let x = not_secure a.session (sym (ap secure_told c.in_default.is) ∙ c.secure.ensures) in
    told-not-secure a.session (asked_of a.w a.«data».now) a.out.now _ refl (ap not x) c.refused.ensures

pub put_frame-requires : goal.put_frame-requires
put_frame-requires c = let asked : Asked = let a = c.args in asked_of a.w a.«data».now in
    let answered : length_answer c.test.result ≡ frame_test asked.sqn (total_of asked) (length c.args.out.now) = let a = c.args in
    c.test.ensures ∙ ap (λ (t : ℕ). frame_test a.w.sqn.0 t (length a.out.now)) c.total_len.ensures in
    let p = tests_passed asked (length c.args.out.now) c.in-Ok.total (ap length_answer c.in-Ok.is) answered in
    (p.sqn, sym p.total, omega (arith, p.most, p.total), omega (arith, p.room, p.total))

pub returns-in-Err : goal.returns-in-Err
returns-in-Err c = let asked : Asked = let a = c.args in asked_of a.w a.«data».now in
    let answered : length_answer c.test.result ≡ frame_test asked.sqn (total_of asked) (length c.args.out.now) = let a = c.args in
    c.test.ensures ∙ ap (λ (t : ℕ). frame_test a.w.sqn.0 t (length a.out.now)) c.total_len.ensures in
    let a = c.args in
    let x = secure_taken a.session (sym (ap secure_told c.in-Some.is) ∙ c.secure.ensures) in
    told-refused a.session asked a.out.now _ refl (ap not x.0) answered c.in-Err.e (ap length_answer c.in-Err.is) c.refused-in-Err.ensures

pub returns-in-Ok : goal.returns-in-Ok
returns-in-Ok c = let asked : Asked = let a = c.args in asked_of a.w a.«data».now in
    let answered : length_answer c.test.result ≡ frame_test asked.sqn (total_of asked) (length c.args.out.now) = let a = c.args in
    c.test.ensures ∙ ap (λ (t : ℕ). frame_test a.w.sqn.0 t (length a.out.now)) c.total_len.ensures in
    let a = c.args in
    let x = secure_taken a.session (sym (ap secure_told c.in-Some.is) ∙ c.secure.ensures) in
    told-done a.session asked a.out.now _ refl (ap not x.0) answered c.in-Ok.total (ap length_answer c.in-Ok.is)
    (subst (λ (s : Session). Put s asked a.out.now c.put_frame.new.out c.put_frame.result) x.1 c.put_frame.ensures)
