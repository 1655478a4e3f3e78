-- Reading a body whole, or refusing it by 19; and the code and the bytes of a message (docs/RULES.md, 13.3).
-- Assumes nothing.
use Rattle.std.specs.Prelude.{ℕ, ◌-◌, Bool, not, ◌&&◌, List, [], ◌∷◌, ◌++◌, leb, eqb, length, drop}
use Rattle.laws.specs.Answer.{Answer, Answer.given, Answer.refused, and_then, refuse_if, choose}
use Rattle.body_message.specs.Fields.{span_of, numbers_in, numbers_laid}
use Rattle.body_message.specs.Message.{Message, Kind, kinds, code, widths, follows, message_of, message_kind, message_numbers, message_rest}

-- the kind that a code names among those listed; an unlisted one: 19
unfoldable pub kind_named : List Kind → ℕ → Answer Kind
kind_named [] c = refused 19 (c ∷ [])
kind_named (k ∷ ks) c = choose (eqb (code k) c) (given k) (kind_named ks c)

-- the numbers at the front of a body, and what follows them
abbrev pub body_numbers : Kind → List ℕ → List ℕ
body_numbers k s = numbers_in (widths k) s

abbrev pub body_rest : Kind → List ℕ → List ℕ
body_rest k s = drop (span_of (widths k)) s

-- whether s is a body of this kind: its numbers are all there, and so many bytes may follow them
abbrev pub shaped : Kind → List ℕ → Bool
shaped k s = leb (span_of (widths k)) (length s) && follows k (body_numbers k s) (length s - span_of (widths k))

unfoldable pub read_as : Kind → List ℕ → Answer Message
read_as k s = refuse_if (not (shaped k s)) 19 (code k ∷ []) (given (message_of k (body_numbers k s) (body_rest k s)))

unfoldable pub read_of : (c : ℕ) (s : List ℕ) → Answer Message
read_of c s = and_then (kind_named kinds c) (λ k. read_as k s)

-- ---- a message's code and its bytes

abbrev pub message_code : Message → ℕ
message_code m = code (message_kind m)

unfoldable pub message_bytes : Message → List ℕ
message_bytes m = numbers_laid (widths (message_kind m)) (message_numbers m) ++ message_rest m
