-- A session that C handed in is wiped as one that was read.
-- Assumes nothing.
use mathlib.Core.Path.{◌≡◌, sym, ap, ◌∙◌}
use Rattle.laws.specs.Answer.{Answer.given}
use Rattle.laws.specs.Bytes.{zeros}
use Rattle.secure_session.specs.declared.session.Session.{Session}
use Rattle.secure_session.specs.Session.{end_number, no_keys, wiped_of, fresh}
use Rattle.secure_session.proofs.SessionLaws.{no_chain_out}
use Rattle.crossing.specs.Ciphers.{c_keys}
use Rattle.crossing.specs.Sessions.{session_arg, c_session}
use Rattle.crossing.specs.declared.session.CSession.{CSession}
use Rattle.crossing.proofs.InAndOut.{in_and_out}
use Rattle.ffi.specs.Sessions.{c_wiped}

pub wiped-read : (c : CSession) (s : Session) → session_arg c ≡ given s → c_wiped c ≡ c_session (wiped_of s)
unfolding wiped_of fresh
wiped-read c s e =
    let z = sym no_chain_out in
    ap c_wiped (sym (in_and_out c s e))
    ∙ (λ i. record { end = end_number s.end; state = 0; scbk = zeros 16; rnd_a = zeros 8; rnd_b = zeros 8; cuid = zeros 8; keys = c_keys no_keys; chain = z i })
