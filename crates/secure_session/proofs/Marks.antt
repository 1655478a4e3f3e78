-- Ends and states are compared by their tags, which are their numbers.
-- Assumes nothing.
use mathlib.Core.Path.{◌≡◌, refl, ap₂}
use lib.Dec.{eqb}
use denote.Enum.Bare.{sameb}
use denote.Enum.Declared.{tag_of}
use Rattle.secure_session.specs.Session.{end_number, state_number}
use Rattle.secure_session.specs.declared.session.End.{End}
use Rattle.secure_session.specs.declared.session.End.TheVariants.{Controller, Reader}
use Rattle.secure_session.specs.declared.session.State.{State}
use Rattle.secure_session.specs.declared.session.State.TheVariants.{Disconnected, Challenged, Cryptogrammed, Secure}
use Rattle.secure_session.specs.contracts.session.End.{the_type as the_end}
use Rattle.secure_session.specs.contracts.session.State.{the_type as the_state}

end_tag : (e : End) → tag_of the_end e ≡ end_number e
end_tag Controller = refl
end_tag Reader = refl

state_tag : (t : State) → tag_of the_state t ≡ state_number t
state_tag Disconnected = refl
state_tag Challenged = refl
state_tag Cryptogrammed = refl
state_tag Secure = refl

pub same_end : (e f : End) → sameb the_end e f ≡ eqb (end_number e) (end_number f)
same_end e f = ap₂ eqb (end_tag e) (end_tag f)

pub same_state : (t u : State) → sameb the_state t u ≡ eqb (state_number t) (state_number u)
same_state t u = ap₂ eqb (state_tag t) (state_tag u)
