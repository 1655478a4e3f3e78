-- The doors of the C boundary: what a session holds, and the session that holds it, field by field.
-- Assumes nothing.
use Rattle.secure_session.specs.declared.session.Session.{Session}
use Rattle.secure_session.specs.declared.door.SessionFields.{SessionFields}

abbrev pub door_out : Session → SessionFields
door_out s =
    record { end = s.end; state = s.state; scbk = s.scbk; rnd_a = s.rnd_a; rnd_b = s.rnd_b; cuid = s.cuid; keys = s.keys; chain = s.chain }

abbrev pub door_in : SessionFields → Session
door_in f =
    record { end = f.end; state = f.state; scbk = f.scbk; rnd_a = f.rnd_a; rnd_b = f.rnd_b; cuid = f.cuid; keys = f.keys; chain = f.chain }
