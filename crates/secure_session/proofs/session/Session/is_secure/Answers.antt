-- `secure_session::session::Session::is_secure` meets its contract: the number tells.
use mathlib.Core.Path.{◌∙◌}
use Rattle.secure_session.specs.Session.{is_secure}
use Rattle.secure_session.specs.declared.session.State.TheVariants.{Secure}
use Rattle.secure_session.proofs.Marks.{same_state}
use Rattle.secure_session.proofs.session.Session.is_secure.Goals as goal

pub returns : goal.returns
unfolding is_secure
returns c = c.eq.ensures ∙ same_state c.args.self.state Secure
