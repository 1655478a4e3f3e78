-- What C asks to have sealed, and what sealing and unsealing answer.
-- Assumes nothing.
use Rattle.std.specs.Prelude.{ℕ, Bool, true, false, List}
use Rattle.laws.specs.Answer.{Answer, Answer.given, Answer.refused}
use Rattle.refusal.specs.Reading.{length_answer}
use Rattle.secure_seal.specs.declared.frame.Direction.{Direction}
use Rattle.secure_seal.specs.declared.frame.Direction.TheVariants.{AcuToPd, PdToAcu}
use Rattle.secure_session.specs.declared.session.Processed.{Processed}
use Rattle.secure_seal.specs.Seal.{Asked, SealDone}
use Rattle.secure_unseal.specs.Unseal.{Place}
use Rattle.crossing.specs.Answers.{c_given, c_refused, c_answer}
use Rattle.crossing.specs.Sessions.{c_session}
use Rattle.crossing.specs.declared.session.CSession.{CSession}
use Rattle.crossing.specs.declared.seal.CToSeal.{CToSeal}
use Rattle.crossing.specs.declared.seal.CSealed.{CSealed}
use Rattle.crossing.specs.declared.seal.CUnsealed.{CUnsealed}

-- ---- sealing

abbrev pub direction_arg : Bool → Direction
direction_arg false = AcuToPd
direction_arg true = PdToAcu

-- the SQN as it came: sealing tests it
abbrev pub asked_arg : CToSeal → List ℕ → Asked
asked_arg p x =
    record { addr = p.addr; sqn = p.sqn; direction = direction_arg p.from_reader; encrypt = p.encrypt; code = p.code; payload = x }

abbrev pub c_sealed : SealDone → CSealed
c_sealed d = record { answer = c_answer d.answer; calls = d.steps; session = c_session d.session }

-- ---- unsealing

-- a place; all 0 beside a refusal
abbrev pub c_unsealed : Answer Place → ℕ → CSession → CUnsealed
c_unsealed (given p) n c = record { answer = c_given 0; in_work = p.in_work; start = p.start; len = p.len; calls = n; session = c }
c_unsealed (refused m vs) n c = record { answer = c_refused m vs; in_work = false; start = 0; len = 0; calls = n; session = c }

-- ---- the code's kinds

abbrev pub told_sealed : Processed ℕ → CSealed
told_sealed r = record { answer = c_answer (length_answer r.answer); calls = r.calls; session = c_session r.session }
