-- What a body says, and the table of bodies (docs/RULES.md, 13.2): a body more is a case more in each table here.
-- Assumes nothing.
use Rattle.std.specs.Prelude.{ℕ, ◌+◌, ◌/◌, ◌%◌, Bool, true, ◌&&◌, List, [], ◌∷◌, leb, eqb, length, get_or}
use Rattle.body_message.specs.Fields.{span_of, records_of, records_laid}

-- ---- the messages: named numbers, and what has no fixed length as a list

pub record Triple : Type 0 where
  pub function : ℕ
  pub compliance : ℕ
  pub number : ℕ

pub data Message : Type 0 where
  ack : Message
  nak : (error : ℕ) → (rest : List ℕ) → Message
  pdid : (vendor1 vendor2 vendor3 model version serial major minor build : ℕ) → Message
  pdcap : (triples : List Triple) → Message
  lstatr : (tamper power : ℕ) → Message
  raw : (reader format bits : ℕ) → (bytes : List ℕ) → Message
  keypad : (reader count : ℕ) → (digits : List ℕ) → Message

-- ---- the kinds of body: the code, the widths of the numbers at the front, and how many bytes may follow them

pub data Kind : Type 0 where
  ACK : Kind
  NAK : Kind
  PDID : Kind
  PDCAP : Kind
  LSTATR : Kind
  RAW : Kind
  KEYPAD : Kind

abbrev pub kinds : List Kind
kinds = ACK ∷ NAK ∷ PDID ∷ PDCAP ∷ LSTATR ∷ RAW ∷ KEYPAD ∷ []

abbrev pub code : Kind → ℕ
code ACK = 0x40
code NAK = 0x41
code PDID = 0x45
code PDCAP = 0x46
code LSTATR = 0x48
code RAW = 0x50
code KEYPAD = 0x53

abbrev pub widths : Kind → List ℕ
widths ACK = []
widths NAK = 1 ∷ []
widths PDID = 1 ∷ 1 ∷ 1 ∷ 1 ∷ 1 ∷ 4 ∷ 1 ∷ 1 ∷ 1 ∷ []
widths PDCAP = []
widths LSTATR = 1 ∷ 1 ∷ []
widths RAW = 1 ∷ 1 ∷ 2 ∷ []
widths KEYPAD = 1 ∷ 1 ∷ []

abbrev pub triple_widths : List ℕ
triple_widths = 1 ∷ 1 ∷ 1 ∷ []

-- one record or more, of w bytes each, and no part of one
abbrev pub whole_records : ℕ → ℕ → Bool
whole_records w n = leb 1 n && eqb (n % w) 0

-- the bytes that so many bits need: an eighth of them, rounded up
abbrev pub bytes_for : ℕ → ℕ
bytes_for bits = (bits + 7) / 8

-- whether n bytes may follow the numbers vs
abbrev pub follows : Kind → List ℕ → ℕ → Bool
follows ACK vs n = eqb n 0
follows NAK vs n = true
follows PDID vs n = eqb n 0
follows PDCAP vs n = whole_records (span_of triple_widths) n
follows LSTATR vs n = eqb n 0
follows RAW vs n = eqb n (bytes_for (get_or vs 2 0))
follows KEYPAD vs n = eqb n (get_or vs 1 0)

-- ---- a message from its numbers vs and the bytes t that follow them

abbrev pub triple_of : List ℕ → Triple
triple_of v = record { function = get_or v 0 0; compliance = get_or v 1 0; number = get_or v 2 0 }

abbrev pub message_of : Kind → List ℕ → List ℕ → Message
message_of ACK vs t = ack
message_of NAK vs t = nak (get_or vs 0 0) t
message_of PDID vs t = pdid (get_or vs 0 0) (get_or vs 1 0) (get_or vs 2 0) (get_or vs 3 0) (get_or vs 4 0) (get_or vs 5 0) (get_or vs 6 0) (get_or vs 7 0) (get_or vs 8 0)
message_of PDCAP vs t = pdcap (records_of triple_widths triple_of (length t / span_of triple_widths) t)
message_of LSTATR vs t = lstatr (get_or vs 0 0) (get_or vs 1 0)
message_of RAW vs t = raw (get_or vs 0 0) (get_or vs 1 0) (get_or vs 2 0) t
message_of KEYPAD vs t = keypad (get_or vs 0 0) (get_or vs 1 0) t

-- ---- a message's kind, its numbers, and the bytes that follow them

abbrev pub message_kind : Message → Kind
message_kind ack = ACK
message_kind (nak error rest) = NAK
message_kind (pdid vendor1 vendor2 vendor3 model version serial major minor build) = PDID
message_kind (pdcap triples) = PDCAP
message_kind (lstatr tamper power) = LSTATR
message_kind (raw reader format bits bytes) = RAW
message_kind (keypad reader count digits) = KEYPAD

abbrev pub message_numbers : Message → List ℕ
message_numbers ack = []
message_numbers (nak error rest) = error ∷ []
message_numbers (pdid vendor1 vendor2 vendor3 model version serial major minor build) =
    vendor1 ∷ vendor2 ∷ vendor3 ∷ model ∷ version ∷ serial ∷ major ∷ minor ∷ build ∷ []
message_numbers (pdcap triples) = []
message_numbers (lstatr tamper power) = tamper ∷ power ∷ []
message_numbers (raw reader format bits bytes) = reader ∷ format ∷ bits ∷ []
message_numbers (keypad reader count digits) = reader ∷ count ∷ []

abbrev pub triple_numbers : Triple → List ℕ
triple_numbers t = t.function ∷ t.compliance ∷ t.number ∷ []

abbrev pub message_rest : Message → List ℕ
message_rest ack = []
message_rest (nak error rest) = rest
message_rest (pdid vendor1 vendor2 vendor3 model version serial major minor build) = []
message_rest (pdcap triples) = records_laid triple_widths triple_numbers triples
message_rest (lstatr tamper power) = []
message_rest (raw reader format bits bytes) = bytes
message_rest (keypad reader count digits) = digits
