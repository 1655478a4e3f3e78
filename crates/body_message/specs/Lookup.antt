-- What is looked up in a message: a triple of a PDCAP, and the badge of a RAW as one number (docs/RULES.md, 13.4 and 13.5).
-- Assumes nothing.
use Rattle.std.specs.Prelude.{ℕ, ◌+◌, ◌*◌, ◌/◌, ◌%◌, ◌&&◌, cond, List, [], ◌∷◌, ◌++◌, leb, eqb, length, take}
use Rattle.std.proofs.Math.Option.{Option, none, some}
use Rattle.std.proofs.Math.ListN.{get_elem?}
use Rattle.body_message.specs.Message.{Triple, Message, Message.ack, Message.nak, Message.pdid, Message.pdcap, Message.lstatr, Message.raw, Message.keypad, bytes_for}

-- triple i, counted from 0
abbrev pub message_triple : Message → ℕ → Option Triple
message_triple ack i = none
message_triple (nak error rest) i = none
message_triple (pdid vendor1 vendor2 vendor3 model version serial major minor build) i = none
message_triple (pdcap triples) i = get_elem? triples i
message_triple (lstatr tamper power) i = none
message_triple (raw reader format bits bytes) i = none
message_triple (keypad reader count digits) i = none

-- ---- the badge

-- the bits of a byte, the highest first; and those of bytes in a row
abbrev pub bits_of : ℕ → List ℕ
bits_of b = b / 128 % 2 ∷ b / 64 % 2 ∷ b / 32 % 2 ∷ b / 16 % 2 ∷ b / 8 % 2 ∷ b / 4 % 2 ∷ b / 2 % 2 ∷ b % 2 ∷ []

unfoldable pub all_bits : List ℕ → List ℕ
all_bits [] = []
all_bits (b ∷ bs) = bits_of b ++ all_bits bs

-- the number whose binary digits are those of a and then these, the first one highest
unfoldable pub binary : ℕ → List ℕ → ℕ
binary a [] = a
binary a (d ∷ ds) = binary (a * 2 + d) ds

-- 1 to 64 bits, in the bytes that they need, as they stand: what is spare in the last byte is no part of the number
unfoldable pub badge_in : ℕ → List ℕ → Option ℕ
badge_in bits bytes = cond (leb 1 bits && leb bits 64 && eqb (length bytes) (bytes_for bits)) (some (binary 0 (take bits (all_bits bytes)))) none

abbrev pub message_badge : Message → Option ℕ
message_badge ack = none
message_badge (nak error rest) = none
message_badge (pdid vendor1 vendor2 vendor3 model version serial major minor build) = none
message_badge (pdcap triples) = none
message_badge (lstatr tamper power) = none
message_badge (raw reader format bits bytes) = badge_in bits bytes
message_badge (keypad reader count digits) = none
