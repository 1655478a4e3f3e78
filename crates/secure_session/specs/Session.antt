-- The session's record (docs/RULES.md, 7).
-- Assumes nothing.
use Rattle.std.specs.Prelude.{ℕ, Bool, ◌&&◌, List, eqb}
use Rattle.laws.specs.Bytes.{zeros}
use Rattle.secure_keys.specs.declared.crypto.SessionKeys.{SessionKeys}
use Rattle.secure_session.specs.Chain.{no_chain, first_chain, with_chain}
use Rattle.secure_session.specs.declared.session.End.{End}
use Rattle.secure_session.specs.declared.session.End.TheVariants.{Controller, Reader}
use Rattle.secure_session.specs.declared.session.State.{State}
use Rattle.secure_session.specs.declared.session.State.TheVariants.{Disconnected, Challenged, Cryptogrammed, Secure}
use Rattle.secure_session.specs.declared.session.Session.{Session}

-- ---- end and state, told apart by a number

abbrev pub end_number : End → ℕ
end_number Controller = 0
end_number Reader = 1

abbrev pub state_number : State → ℕ
state_number Disconnected = 0
state_number Challenged = 1
state_number Cryptogrammed = 2
state_number Secure = 3

-- whether a session is at this end and in this state
unfoldable pub is_at : End → State → Session → Bool
is_at e t s = eqb (end_number e) (end_number s.end) && eqb (state_number t) (state_number s.state)

-- whether it is Secure, at either end
unfoldable pub is_secure : State → Bool
is_secure t = eqb (state_number t) (state_number Secure)

-- ---- sessions, made and emptied

abbrev pub no_keys : SessionKeys
no_keys = record { s_enc = zeros 16; s_mac1 = zeros 16; s_mac2 = zeros 16 }

-- Disconnected, with SCBK and cUID and nothing else
unfoldable pub fresh : End → List ℕ → List ℕ → Session
fresh e scbk cuid =
    record { end = e; state = Disconnected; scbk = scbk; rnd_a = zeros 8; rnd_b = zeros 8; cuid = cuid; keys = no_keys; chain = no_chain }

-- what a failed handshake keeps of the cUID: the reader's own
abbrev kept_cuid : End → List ℕ → List ℕ
kept_cuid Controller u = zeros 8
kept_cuid Reader u = u

-- a failed handshake: SCBK kept, all else zero; at the reader's end cUID kept too
unfoldable pub reset : Session → Session
reset s = fresh s.end s.scbk (kept_cuid s.end s.cuid)

-- everything zero but which end it is
unfoldable pub wiped_of : Session → Session
wiped_of s = fresh s.end (zeros 16) (zeros 8)

-- a step of the handshake: end, SCBK and chain stay
abbrev pub with_step : Session → State → List ℕ → List ℕ → List ℕ → SessionKeys → Session
with_step s t a b u k = record { end = s.end; state = t; scbk = s.scbk; rnd_a = a; rnd_b = b; cuid = u; keys = k; chain = s.chain }

-- Secure, with the first chain value m
unfoldable pub secured : Session → List ℕ → Session
secured s m = with_chain (with_step s Secure s.rnd_a s.rnd_b s.cuid s.keys) (first_chain m)
