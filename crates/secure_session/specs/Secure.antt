-- A session that is Secure, as a type of its own (docs/RULES.md, 7).
-- Assumes nothing.
use Rattle.std.specs.Prelude.{ℕ, cond, List, take, Option, Some, None}
use Rattle.laws.specs.Bytes.{eql}
use Rattle.packet_head.specs.Numbers.{MAC_LEN}
use Rattle.secure_session.specs.Chain.{recv_from, received}
use Rattle.secure_session.specs.Session.{is_secure}
use Rattle.secure_session.specs.Channel.{session_mac}
use Rattle.secure_session.specs.declared.session.Session.{Session}
use Rattle.secure_session.specs.declared.secure.SecureSession.{SecureSession}

-- made of a session: none in any other state
unfoldable pub secure_of : Session → Option Session
secure_of s = cond (is_secure s.state) (Some s) None

-- after the four bytes of MAC that came with bytes: none unless they are right
unfoldable pub checked_of : Session → List ℕ → List ℕ → Option Session
checked_of s l wire =
    let m = (session_mac s (recv_from s) l).full in
    cond (eql (take MAC_LEN m) wire) (Some (received s m)) None

-- ---- the code's answer, as the paper has it

abbrev pub secure_told : Option SecureSession → Option Session
secure_told (Some t) = Some t.session
secure_told None = None
