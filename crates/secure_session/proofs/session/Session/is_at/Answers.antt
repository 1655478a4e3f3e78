-- `secure_session::session::Session::is_at` meets its contract: the numbers tell.
use mathlib.Core.Path.{◌∙◌}
use Rattle.secure_session.specs.Session.{is_at}
use Rattle.secure_session.proofs.Marks.{same_end, same_state}
use Rattle.secure_session.proofs.session.Session.is_at.Goals as goal

pub returns-then-eq : goal.returns-then-eq
unfolding is_at
returns-then-eq c = rw (← same_end c.args.end c.args.self.end, ← c.eq.ensures, c.if-eq.true) (c.eq-then-eq.ensures ∙ same_state _ _)

pub returns-else-eq : goal.returns-else-eq
unfolding is_at
returns-else-eq c = rw (← same_end c.args.end c.args.self.end, ← c.eq.ensures, c.if-eq.false)
