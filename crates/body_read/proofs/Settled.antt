-- The promises settle the answers: any two that one allows are equal. And the claim over all bodies, of what a caller of `read` holds.
-- Assumes nothing.
use Rattle.std.specs.Prelude.{Option, Some, None, Result, Ok}
use mathlib.Core.Path.{◌≡◌, refl, sym, ◌∙◌}
use mathlib.Core.Bool.{Bool, true, false, cond}
use mathlib.Core.List.{List, []}
use mathlib.Core.Option as told
use mathlib.Core.Option.{none, some}
use Prim.Native.Nat.{ℕ}
use native.Mathlib.Omega.{arith}
use lib.ListN.{length, get_or, take, drop}
use Rattle.laws.specs.Bytes.{Bytes}
use Rattle.laws.proofs.Answers.{one_reading}
use Rattle.refusal.specs.declared.Refusal.{Refusal}
use Rattle.refusal.proofs.OneReading.{result_settled}
use Rattle.slices.specs.Place.{runs_past, part_of}
use Rattle.body_message.specs.Message as message
use Rattle.body_message.specs.Message.{Message, Kind, Kind.ACK, Kind.NAK, Kind.PDID, Kind.PDCAP, Kind.LSTATR, Kind.RAW, Kind.KEYPAD, message_kind, message_numbers, message_rest}
use Rattle.body_message.specs.Body.{read_of, message_code, message_bytes}
use Rattle.body_message.proofs.OneMessage.{read_whole, after_numbers}
use Rattle.body_read.specs.Reading.{rest_start_of, rest_length, message_in, read_answer}
use Rattle.body_read.specs.Lookup.{triple_answer, badge_answer}
use Rattle.body_read.proofs.Cases.{part_rest}
use Rattle.body_read.specs.declared.body.Body.{Body}
use Rattle.body_read.specs.declared.body.Body.TheVariants.{Ack, Nak, PdId, PdCap, LStatR, Raw, Keypad}
use Rattle.body_read.specs.declared.lookup.Triple.{Triple}

-- ---- a reading

-- the reading of a kind and its numbers
abbrev reading_of : Kind → List ℕ → Body
reading_of ACK vs = Ack
reading_of NAK vs = Nak (get_or vs 0 0)
reading_of PDID vs =
    PdId (record {
      vendor1 = get_or vs 0 0;
      vendor2 = get_or vs 1 0;
      vendor3 = get_or vs 2 0;
      model = get_or vs 3 0;
      version = get_or vs 4 0;
      serial = get_or vs 5 0;
      major = get_or vs 6 0;
      minor = get_or vs 7 0;
      build = get_or vs 8 0;
    })
reading_of PDCAP vs = PdCap
reading_of LSTATR vs = LStatR (get_or vs 0 0) (get_or vs 1 0)
reading_of RAW vs = Raw (get_or vs 0 0) (get_or vs 1 0) (get_or vs 2 0)
reading_of KEYPAD vs = Keypad (get_or vs 0 0) (get_or vs 1 0)

reading_back : (b : Body) (s : List ℕ) → reading_of (message_kind (message_in b s)) (message_numbers (message_in b s)) ≡ b
reading_back Ack s = refl
reading_back (Nak error) s = refl
reading_back (PdId d) s = refl
reading_back PdCap s = refl
reading_back (LStatR tamper power) s = refl
reading_back (Raw reader format bits) s = refl
reading_back (Keypad reader count) s = refl

pub read_settled : (s : List ℕ) (r q : Result Body Refusal) → read_answer r s ≡ read_answer q s → r ≡ q
read_settled s = result_settled (λ b. message_in b s) (λ m. reading_of (message_kind m) (message_numbers m)) (λ b. reading_back b s)

-- What `read` gives of a payload, with what is looked up there, holds the payload's every byte, and its code.
pub reading_whole : (c : ℕ) (s : List ℕ) (b : Body) → Bytes s → read_answer (Ok b) s ≡ read_of c s
    → (message_bytes (message_in b s) ≡ s) × (message_code (message_in b s) ≡ c)
reading_whole c s b bytes e = read_whole c s (message_in b s) bytes (sym e)

-- ---- the lookups

no_bytes_there : (s : List ℕ) (at : ℕ) → part_of s at 0 ≡ []
unfolding part_of
no_bytes_there s at = by (runs_past (length s) at 0)
  where
    by : (x : Bool) → cond x [] (take 0 (drop at s)) ≡ []
    by true = refl
    by false = refl

-- What `rest` shows of a payload that was read is the rest of its message: no byte of it is left out, and none is added.
pub rest_shown : (c : ℕ) (s : List ℕ) (b : Body) → Bytes s → read_answer (Ok b) s ≡ read_of c s
    → part_of s (rest_start_of b) (rest_length b (length s)) ≡ message_rest (message_in b s)
rest_shown c s Ack h e = no_bytes_there s 0
rest_shown c s (Nak error) h e = refl
rest_shown c s (PdId d) h e = no_bytes_there s 12
rest_shown c s PdCap h e =
    part_rest s 0 (length s) (omega arith) (omega arith) ∙ sym (reading_whole c s PdCap h e).0 ∙ after_numbers (message_in PdCap s)
rest_shown c s (LStatR tamper power) h e = no_bytes_there s 2
rest_shown c s (Raw reader format bits) h e = refl
rest_shown c s (Keypad reader count) h e = refl

abbrev triple_back : told.Option message.Triple → Option Triple
triple_back (some x) = Some (record { function = x.function; compliance = x.compliance; number = x.number })
triple_back none = None

triple_back_lem : (r : Option Triple) → triple_back (triple_answer r) ≡ r
triple_back_lem (Some x) = refl
triple_back_lem None = refl

pub triple_settled : (r q : Option Triple) → triple_answer r ≡ triple_answer q → r ≡ q
triple_settled = one_reading triple_answer triple_back triple_back_lem

abbrev badge_back : told.Option ℕ → Option ℕ
badge_back (some n) = Some n
badge_back none = None

badge_back_lem : (r : Option ℕ) → badge_back (badge_answer r) ≡ r
badge_back_lem (Some n) = refl
badge_back_lem None = refl

pub badge_settled : (r q : Option ℕ) → badge_answer r ≡ badge_answer q → r ≡ q
badge_settled = one_reading badge_answer badge_back badge_back_lem
