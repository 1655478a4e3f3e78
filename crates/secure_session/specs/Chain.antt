-- The chain (docs/RULES.md, 7): what a session keeps of the MACs that went both ways. Everything else speaks of it by these names.
-- Assumes nothing.
use Rattle.std.specs.Prelude.{ℕ, List}
use Rattle.laws.specs.Bytes.{zeros}
use Rattle.secure_session.specs.declared.chain.Chain.{Chain}
use Rattle.secure_session.specs.declared.session.Session.{Session}

-- before a handshake
abbrev pub no_chain : Chain
no_chain = record { value = zeros 16 }

-- with the first chain value m
unfoldable pub first_chain : List ℕ → Chain
first_chain m = record { value = m }

-- as C holds it: bytes that come in, and that go out
unfoldable pub chain_in : List ℕ → Chain
chain_in b = record { value = b }

unfoldable pub chain_out : Chain → List ℕ
chain_out c = c.value

abbrev pub with_chain : Session → Chain → Session
with_chain s c = record { end = s.end; state = s.state; scbk = s.scbk; rnd_a = s.rnd_a; rnd_b = s.rnd_b; cuid = s.cuid; keys = s.keys; chain = c }

-- where a MAC that is made starts
unfoldable pub send_from : Session → List ℕ
send_from s = s.chain.value

-- where a MAC that is checked starts
unfoldable pub recv_from : Session → List ℕ
recv_from s = s.chain.value

-- after a MAC was made, in full m
unfoldable pub sent : Session → List ℕ → Session
sent s m = with_chain s (record { value = m })

-- after a MAC was found right, in full m
unfoldable pub received : Session → List ℕ → Session
received s m = with_chain s (record { value = m })
