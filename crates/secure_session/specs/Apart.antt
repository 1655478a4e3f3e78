-- Two ends before a handshake (docs/RULES.md, 7.4).
-- Assumes nothing.
use Rattle.std.specs.Prelude.{◌≡◌, length}
use Rattle.laws.specs.Blocks.{Block}
use Rattle.secure_session.specs.declared.session.End.TheVariants.{Controller, Reader}
use Rattle.secure_session.specs.declared.session.State.TheVariants.{Disconnected}
use Rattle.secure_session.specs.declared.session.Session.{Session}

-- a controller's end and a reader's, both Disconnected, with one key of sixteen bytes; the reader's cUID is eight bytes, and their other
-- fields are any
pub record Apart (c r : Session) : Type 0 where
  pub controller : c.end ≡ Controller
  pub reader : r.end ≡ Reader
  pub controller_state : c.state ≡ Disconnected
  pub reader_state : r.state ≡ Disconnected
  pub one_key : c.scbk ≡ r.scbk
  pub key : Block c.scbk
  pub cuid : length r.cuid ≡ 8
