-- A session that goes out to C comes back as it was, and one that was read goes out as it came.
-- Assumes nothing.
use Prim.Native.Nat.{ℕ}
use mathlib.Core.Path.{◌≡◌, sym, ap}
use lib.Dec.{eqb}
use borrow.Author.Tests.{eqb-true}
use Rattle.laws.specs.Answer.{Answer.given, and_then, choose}
use Rattle.laws.proofs.Answers.{holds_given, holds_then, holds_choose}
use Rattle.secure_session.specs.declared.session.End.{End}
use Rattle.secure_session.specs.declared.session.State.{State}
use Rattle.secure_session.specs.declared.session.Session.{Session}
use Rattle.secure_session.specs.Chain.{chain_in, chain_out}
use Rattle.secure_session.specs.Session.{end_number, state_number}
use Rattle.secure_session.specs.declared.chain.Chain.{Chain}
use Rattle.secure_session.proofs.SessionLaws.{chain_out_in, chain_in_out}
use Rattle.crossing.specs.Sessions.{end_arg, state_arg, session_arg, c_session}
use Rattle.crossing.specs.declared.session.CSession.{CSession}

-- what goes out can be read, and is read as it was
pub out_and_in : (s : Session) → session_arg (c_session s) ≡ given s
unfolding session_arg end_arg state_arg choose and_then
out_and_in s = go s.end s.state
  where
    -- the session at any end and in any state, its chain to C and back
    at : End → State → Chain → Session
    at e t c = record { end = e; state = t; scbk = s.scbk; rnd_a = s.rnd_a; rnd_b = s.rnd_b; cuid = s.cuid; keys = s.keys; chain = c }

    back : (e : End) (t : State) → given (at e t (chain_in (chain_out s.chain))) ≡ given (at e t s.chain)
    back e t = ap (λ (c : Chain). given (at e t c)) (chain_out_in s.chain)

    go : (e : End) (t : State) → session_arg (c_session (at e t s.chain)) ≡ given (at e t s.chain)
    go End.Controller State.Disconnected = back _ _
    go End.Controller State.Challenged = back _ _
    go End.Controller State.Cryptogrammed = back _ _
    go End.Controller State.Secure = back _ _
    go End.Reader State.Disconnected = back _ _
    go End.Reader State.Challenged = back _ _
    go End.Reader State.Cryptogrammed = back _ _
    go End.Reader State.Secure = back _ _

end_back : (n : ℕ) (e : End) → end_arg n ≡ given e → end_number e ≡ n
unfolding end_arg
end_back n e =
    let P : End → Type 0 = λ x. end_number x ≡ n in
    holds_given P (end_arg n) e
    (holds_choose P (eqb n 0) _ _ (λ t. sym (eqb-true n 0 t))
    (λ u. holds_choose P (eqb n 1) _ _ (λ t. sym (eqb-true n 1 t)) (λ v. tt)))

state_back : (n : ℕ) (t : State) → state_arg n ≡ given t → state_number t ≡ n
unfolding state_arg
state_back n t =
    let P : State → Type 0 = λ x. state_number x ≡ n in
    holds_given P (state_arg n) t
    (holds_choose P (eqb n 0) _ _ (λ h. sym (eqb-true n 0 h))
    (λ u. holds_choose P (eqb n 1) _ _ (λ h. sym (eqb-true n 1 h))
    (λ v. holds_choose P (eqb n 2) _ _ (λ h. sym (eqb-true n 2 h))
    (λ w. holds_choose P (eqb n 3) _ _ (λ h. sym (eqb-true n 3 h)) (λ x. tt)))))

-- what was read goes out as it came
pub in_and_out : (c : CSession) (s : Session) → session_arg c ≡ given s → c_session s ≡ c
unfolding session_arg
in_and_out c s =
    let P : Session → Type 0 = λ x. c_session x ≡ c in
    holds_given P (session_arg c) s
    (holds_then P (end_arg c.end) _ (λ e he.
    holds_then P (state_arg c.state) _ (λ t ht.
    let p = end_back c.end e he in
    let q = state_back c.state t ht in
    let r = chain_in_out c.chain in
    λ i. record { end = p i; state = q i; scbk = c.scbk; rnd_a = c.rnd_a; rnd_b = c.rnd_b; cuid = c.cuid; keys = c.keys; chain = r i })))
