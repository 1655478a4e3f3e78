-- An answer as C has it: 0 and what was asked for, or the refusal's number and what it carries.
-- Assumes nothing.
use Rattle.std.specs.Prelude.{ℕ, false, List, Result, ⊤}
use Rattle.laws.specs.Answer.{Answer, Answer.given, Answer.refused}
use Rattle.refusal.specs.declared.Refusal.{Refusal}
use Rattle.refusal.specs.Paper.{number_of, values_of, value_a, value_b}
use Rattle.refusal.specs.Reading.{outcome_answer}
use Rattle.packet_head.specs.Header.{Control}
use Rattle.crossing.specs.declared.answer.CAnswer.{CAnswer}
use Rattle.crossing.specs.declared.head.CControl.{CControl}

abbrev pub c_refused : ℕ → List ℕ → CAnswer
c_refused n vs = record { refusal = n; a = value_a vs; b = value_b vs }

abbrev pub c_refusal : Refusal → CAnswer
c_refusal e = c_refused (number_of e) (values_of e)

abbrev pub c_given : ℕ → CAnswer
c_given n = record { refusal = 0; a = n; b = 0 }

abbrev pub c_answer : Answer ℕ → CAnswer
c_answer (given n) = c_given n
c_answer (refused n vs) = c_refused n vs

-- yes, or the refusal; what was given stands beside it
abbrev pub c_yes : {A : Type 0} → Answer A → CAnswer
c_yes (given a) = c_given 0
c_yes (refused n vs) = c_refused n vs

abbrev pub c_outcome : Result ⊤ Refusal → CAnswer
c_outcome o = c_yes (outcome_answer {A = Unit {0}} o tt)

abbrev pub c_control : Answer Control → CControl
c_control (given c) = record { answer = c_given 0; sqn = c.sqn; crc = c.crc; block = c.block }
c_control (refused n vs) = record { answer = c_refused n vs; sqn = 0; crc = false; block = false }
