-- Nothing is lost at the doors, and nothing made up.
-- Assumes nothing.
use mathlib.Core.Path.{◌≡◌, refl}
use Rattle.secure_session.specs.Door.{door_out, door_in}
use Rattle.secure_session.specs.declared.session.Session.{Session}
use Rattle.secure_session.specs.declared.door.SessionFields.{SessionFields}

pub door_out_in : (s : Session) → door_in (door_out s) ≡ s
door_out_in s = refl

pub door_in_out : (f : SessionFields) → door_out (door_in f) ≡ f
door_in_out f = refl
