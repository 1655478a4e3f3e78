-- The code's reading as the definition has it: its numbers, with what is looked up in the payload, are a message (docs/RULES.md, 13.4).
-- Assumes nothing.
use Rattle.std.specs.Prelude.{ℕ, ◌-◌, List, [], ◌∷◌, length, Option, Some, None, Result}
use Rattle.laws.specs.Answer.{Answer, Answer.given, Answer.refused}
use Rattle.refusal.specs.Reading.{answer}
use Rattle.refusal.specs.declared.Refusal.{Refusal}
use Rattle.slices.specs.Place.{part_of}
use Rattle.body_message.specs.Fields.{span_of}
use Rattle.body_message.specs.Message.{Message, Kind, Kind.ACK, Kind.NAK, Kind.PDID, Kind.PDCAP, Kind.LSTATR, Kind.RAW, Kind.KEYPAD, widths, bytes_for, message_of}
use Rattle.body_read.specs.declared.body.Body.{Body}
use Rattle.body_read.specs.declared.body.Body.TheVariants.{Ack, Nak, PdId, PdCap, LStatR, Raw, Keypad}

abbrev pub reading_kind : Body → Kind
reading_kind Ack = ACK
reading_kind (Nak error) = NAK
reading_kind (PdId d) = PDID
reading_kind PdCap = PDCAP
reading_kind (LStatR tamper power) = LSTATR
reading_kind (Raw reader format bits) = RAW
reading_kind (Keypad reader count) = KEYPAD

abbrev pub reading_numbers : Body → List ℕ
reading_numbers Ack = []
reading_numbers (Nak error) = error ∷ []
reading_numbers (PdId d) =
    d.vendor1 ∷ d.vendor2 ∷ d.vendor3 ∷ d.model ∷ d.version ∷ d.serial ∷ d.major ∷ d.minor ∷ d.build ∷ []
reading_numbers PdCap = []
reading_numbers (LStatR tamper power) = tamper ∷ power ∷ []
reading_numbers (Raw reader format bits) = reader ∷ format ∷ bits ∷ []
reading_numbers (Keypad reader count) = reader ∷ count ∷ []

-- ---- what follows the numbers of a reading, in a payload of n bytes: where it begins, and how long it is

abbrev pub rest_start_of : Body → ℕ
rest_start_of b = span_of (widths (reading_kind b))

abbrev pub rest_length : Body → ℕ → ℕ
rest_length Ack n = 0
rest_length (Nak error) n = n - 1
rest_length (PdId d) n = 0
rest_length PdCap n = n
rest_length (LStatR tamper power) n = 0
rest_length (Raw reader format bits) n = bytes_for bits
rest_length (Keypad reader count) n = count

-- the message of a reading and its payload; of a part that runs past the payload's end nothing is in it
abbrev pub message_in : Body → List ℕ → Message
message_in b s = message_of (reading_kind b) (reading_numbers b) (part_of s (rest_start_of b) (rest_length b (length s)))

abbrev pub read_answer : Result Body Refusal → List ℕ → Answer Message
read_answer r s = answer (λ b. message_in b s) r

-- what there is of a body with the code c: no body at all is refused by 19, with its code
abbrev pub body_answer : ℕ → Option Body → List ℕ → Answer Message
body_answer c (Some b) s = given (message_in b s)
body_answer c None s = refused 19 (c ∷ [])
