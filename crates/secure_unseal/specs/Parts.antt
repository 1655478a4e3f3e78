-- What the parts of unsealing promise each other; nothing here is owed to a caller.
-- Assumes nothing.
use Rattle.std.specs.Prelude.{ℕ, Err}
use Rattle.refusal.specs.declared.Refusal.{Refusal}
use Rattle.secure_session.specs.declared.session.Session.{Session}
use Rattle.secure_session.specs.declared.session.Processed.{Processed}
use Rattle.secure_unseal.specs.declared.frame.PayloadPlace.{PayloadPlace}

-- a refusal, after so many calls: the session as it was
abbrev pub stopped : Session → Refusal → ℕ → Processed PayloadPlace
stopped s e n = record { answer = Err e; calls = n; session = s }
