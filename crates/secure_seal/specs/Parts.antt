-- What the parts of the call promise each other; nothing here is owed to a caller.
-- Assumes nothing.
use Rattle.std.specs.Prelude.{ℕ, ◌≡◌, List, Err}
use Rattle.laws.specs.Answer.{Answer.given}
use Rattle.laws.specs.Over.{write}
use Rattle.refusal.specs.Reading.{length_answer}
use Rattle.refusal.specs.declared.Refusal.{Refusal}
use Rattle.secure_session.specs.declared.session.Session.{Session}
use Rattle.secure_session.specs.declared.session.Processed.{Processed}
use Rattle.secure_session.specs.Chain.{send_from, sent}
use Rattle.secure_seal.specs.Seal.{Asked, total_of, sealed_frame}

-- what is asked for stands as a frame at the front of the buffer; all its cipher calls, and the chain moved by its full MAC
pub record Put (s : Session) (q : Asked) (before after : List ℕ) (r : Processed ℕ) : Type 0 where
  pub told : length_answer r.answer ≡ given (total_of q)
  pub here : after ≡ write before 0 (sealed_frame s.keys (send_from s) q).bytes
  pub moved : r.session ≡ sent s (sealed_frame s.keys (send_from s) q).full
  pub counted : r.calls ≡ (sealed_frame s.keys (send_from s) q).steps

-- a refusal: no calls, the session as it was
abbrev pub refused_with : Session → Refusal → Processed ℕ
refused_with s e = record { answer = Err e; calls = 0; session = s }
