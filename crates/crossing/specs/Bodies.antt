-- A body that was read, as C has it: flat. What its kind does not have is 0, and all is 0 after a refusal.
-- Assumes nothing.
use Rattle.std.specs.Prelude.{ℕ, ◌-◌, Bool, true, false, cond, List, [], ◌∷◌, eqb, get_or}
use Rattle.std.proofs.Math.Option
use Rattle.std.proofs.Math.Option.{Option, none, some}
use Rattle.laws.specs.Answer.{Answer, Answer.given, Answer.refused}
use Rattle.body_message.specs.Fields.{span_of}
use Rattle.body_message.specs.Message.{Triple, Message, Kind, Kind.NAK, Kind.PDID, Kind.LSTATR, Kind.RAW, Kind.KEYPAD, code, widths, message_kind, message_numbers}
use Rattle.body_message.specs.Body.{message_code}
use Rattle.body_message.specs.Lookup.{message_triple, message_badge}
use Rattle.crossing.specs.Answers.{c_given, c_refused}
use Rattle.crossing.specs.declared.answer.CAnswer.{CAnswer}
use Rattle.crossing.specs.declared.body.CBody.{CBody}
use Rattle.crossing.specs.declared.body.CTriple.{CTriple}

-- ---- a body

-- number i of a message of one of these kinds; of any other 0
abbrev pub number_for : List Kind → ℕ → Message → ℕ
number_for [] i m = 0
number_for (k ∷ ks) i m = cond (eqb (code k) (message_code m)) (get_or (message_numbers m) i 0) (number_for ks i m)

-- whether there is one
abbrev pub is_there : {A : Type 0} → Option A → Bool
is_there none = false
is_there (some a) = true

-- no number of any kind
abbrev pub c_bare : CAnswer → ℕ → ℕ → ℕ → CBody
c_bare answer code start len =
    record {
      answer = answer;
      code = code;
      error = 0;
      vendor = 0 ∷ 0 ∷ 0 ∷ [];
      model = 0;
      version = 0;
      serial = 0;
      firmware_major = 0;
      firmware_minor = 0;
      firmware_build = 0;
      tamper = 0;
      power = 0;
      reader = 0;
      format = 0;
      bits = 0;
      count = 0;
      rest_start = start;
      rest_len = len;
      has_number = false;
      number = 0;
    }

-- in a payload of n bytes: what follows the numbers goes on to its end
abbrev pub c_body : ℕ → Answer Message → CBody
c_body n (given m) =
    let start : ℕ = span_of (widths (message_kind m)) in
    record {
      answer = c_given 0;
      code = message_code m;
      error = number_for (NAK ∷ []) 0 m;
      vendor = number_for (PDID ∷ []) 0 m ∷ number_for (PDID ∷ []) 1 m ∷ number_for (PDID ∷ []) 2 m ∷ [];
      model = number_for (PDID ∷ []) 3 m;
      version = number_for (PDID ∷ []) 4 m;
      serial = number_for (PDID ∷ []) 5 m;
      firmware_major = number_for (PDID ∷ []) 6 m;
      firmware_minor = number_for (PDID ∷ []) 7 m;
      firmware_build = number_for (PDID ∷ []) 8 m;
      tamper = number_for (LSTATR ∷ []) 0 m;
      power = number_for (LSTATR ∷ []) 1 m;
      reader = number_for (RAW ∷ KEYPAD ∷ []) 0 m;
      format = number_for (RAW ∷ []) 1 m;
      bits = number_for (RAW ∷ []) 2 m;
      count = number_for (KEYPAD ∷ []) 1 m;
      rest_start = start;
      rest_len = n - start;
      has_number = is_there (message_badge m);
      number = Option.get_or (message_badge m) 0;
    }
c_body n (refused k vs) = c_bare (c_refused k vs) 0 0 0

-- ---- a triple

abbrev pub c_triple : Option Triple → CTriple
c_triple none = record { there = false; function = 0; compliance = 0; number = 0 }
c_triple (some t) = record { there = true; function = t.function; compliance = t.compliance; number = t.number }

-- triple i of a body that was read
abbrev pub c_triple_at : ℕ → Answer Message → CTriple
c_triple_at i (given m) = c_triple (message_triple m i)
c_triple_at i (refused k vs) = c_triple none
