-- Worked bodies (docs/RULES.md, 13.6): what is read and the message's bytes again, what is refused, and badges. A layout that is swapped both
-- ways would survive the claim, and not these.
-- Assumes nothing.
use mathlib.Core.Path.{◌≡◌, refl}
use mathlib.Core.List.{List, [], ◌∷◌, map}
use mathlib.Core.Option.{none, some}
use Prim.Native.Nat.{ℕ}
use Rattle.laws.specs.Answer.{Answer, Answer.given, Answer.refused, refuse_if, choose, and_then}
use Rattle.body_message.specs.Fields.{records_of, records_laid}
use Rattle.body_message.specs.Message.{Message, Message.ack, Message.nak, Message.pdid, Message.pdcap, Message.lstatr, Message.raw, Message.keypad}
use Rattle.body_message.specs.Body.{kind_named, read_as, read_of, message_code, message_bytes}
use Rattle.body_message.specs.Lookup.{message_triple, all_bits, binary, badge_in, message_badge}

-- a code and its bytes
abbrev pub CodedBody : Type 0
CodedBody = ℕ × List ℕ

pub worked_messages : List Message
worked_messages =
    ack
    ∷ nak 0x03 []
    ∷ nak 0x05 (0xAA ∷ 0xBB ∷ [])
    ∷ pdid 0xCA 0xFE 0x01 2 3 0x12345678 4 5 6
    ∷ pdcap (record { function = 1; compliance = 2; number = 3 } ∷ [])
    ∷ pdcap (record { function = 1; compliance = 2; number = 3 } ∷ record { function = 4; compliance = 5; number = 6 } ∷ [])
    ∷ lstatr 1 0
    ∷ lstatr 0 0xFE
    ∷ raw 0 1 26 (0x8F ∷ 0xA3 ∷ 0x40 ∷ 0x40 ∷ [])
    ∷ raw 0 1 26 (0x8F ∷ 0xA3 ∷ 0x40 ∷ 0x7F ∷ [])
    ∷ raw 7 0 0 []
    ∷ raw 0 0 257 (0 ∷ 1 ∷ 2 ∷ 3 ∷ 4 ∷ 5 ∷ 6 ∷ 7 ∷ 8 ∷ 9 ∷ 10 ∷ 11 ∷ 12 ∷ 13 ∷ 14 ∷ 15 ∷ 16 ∷ 17 ∷ 18 ∷ 19 ∷ 20 ∷ 21 ∷ 22 ∷ 23 ∷ 24 ∷ 25 ∷ 26 ∷ 27 ∷ 28 ∷ 29 ∷ 30 ∷ 31 ∷ 0x80 ∷ [])
    ∷ keypad 0 3 (0x31 ∷ 0x32 ∷ 0x0D ∷ [])
    ∷ keypad 2 0 []
    ∷ []

pub worked_bodies : List CodedBody
worked_bodies =
    (0x40, [])
    ∷ (0x41, 0x03 ∷ [])
    ∷ (0x41, 0x05 ∷ 0xAA ∷ 0xBB ∷ [])
    ∷ (0x45, 0xCA ∷ 0xFE ∷ 0x01 ∷ 2 ∷ 3 ∷ 0x78 ∷ 0x56 ∷ 0x34 ∷ 0x12 ∷ 4 ∷ 5 ∷ 6 ∷ [])
    ∷ (0x46, 1 ∷ 2 ∷ 3 ∷ [])
    ∷ (0x46, 1 ∷ 2 ∷ 3 ∷ 4 ∷ 5 ∷ 6 ∷ [])
    ∷ (0x48, 1 ∷ 0 ∷ [])
    ∷ (0x48, 0 ∷ 0xFE ∷ [])
    ∷ (0x50, 0 ∷ 1 ∷ 26 ∷ 0 ∷ 0x8F ∷ 0xA3 ∷ 0x40 ∷ 0x40 ∷ [])
    ∷ (0x50, 0 ∷ 1 ∷ 26 ∷ 0 ∷ 0x8F ∷ 0xA3 ∷ 0x40 ∷ 0x7F ∷ [])
    ∷ (0x50, 7 ∷ 0 ∷ 0 ∷ 0 ∷ [])
    ∷ (0x50, 0 ∷ 0 ∷ 1 ∷ 1 ∷ 0 ∷ 1 ∷ 2 ∷ 3 ∷ 4 ∷ 5 ∷ 6 ∷ 7 ∷ 8 ∷ 9 ∷ 10 ∷ 11 ∷ 12 ∷ 13 ∷ 14 ∷ 15 ∷ 16 ∷ 17 ∷ 18 ∷ 19 ∷ 20 ∷ 21 ∷ 22 ∷ 23 ∷ 24 ∷ 25 ∷ 26 ∷ 27 ∷ 28 ∷ 29 ∷ 30 ∷ 31 ∷ 0x80 ∷ [])
    ∷ (0x53, 0 ∷ 3 ∷ 0x31 ∷ 0x32 ∷ 0x0D ∷ [])
    ∷ (0x53, 2 ∷ 0 ∷ [])
    ∷ []

abbrev read_coded : CodedBody → Answer Message
read_coded b = read_of b.0 b.1

pub worked_read : map read_coded worked_bodies ≡ map (λ (m : Message). given m) worked_messages
unfolding worked_messages worked_bodies refuse_if choose and_then kind_named read_of read_as records_of
worked_read = refl

pub worked_bytes : map (λ (m : Message). (message_code m, message_bytes m)) worked_messages ≡ worked_bodies
unfolding worked_messages worked_bodies message_bytes records_laid
worked_bytes = refl

-- one byte more and one fewer, no triple and a part of one, bits counted high byte first, a count that is not that of the digits, and codes
-- that are not listed
pub worked_refused : List CodedBody
worked_refused =
    (0x40, 0 ∷ [])
    ∷ (0x41, [])
    ∷ (0x45, 1 ∷ 2 ∷ 3 ∷ 4 ∷ 5 ∷ 6 ∷ 7 ∷ 8 ∷ 9 ∷ 10 ∷ 11 ∷ [])
    ∷ (0x45, 1 ∷ 2 ∷ 3 ∷ 4 ∷ 5 ∷ 6 ∷ 7 ∷ 8 ∷ 9 ∷ 10 ∷ 11 ∷ 12 ∷ 13 ∷ [])
    ∷ (0x46, [])
    ∷ (0x46, 1 ∷ 2 ∷ 3 ∷ 4 ∷ [])
    ∷ (0x48, 1 ∷ [])
    ∷ (0x48, 1 ∷ 0 ∷ 0 ∷ [])
    ∷ (0x50, 0 ∷ 1 ∷ 26 ∷ [])
    ∷ (0x50, 0 ∷ 1 ∷ 26 ∷ 0 ∷ 0x8F ∷ 0xA3 ∷ 0x40 ∷ [])
    ∷ (0x50, 0 ∷ 1 ∷ 26 ∷ 0 ∷ 0x8F ∷ 0xA3 ∷ 0x40 ∷ 0x40 ∷ 0 ∷ [])
    ∷ (0x50, 0 ∷ 1 ∷ 0 ∷ 26 ∷ 0x8F ∷ 0xA3 ∷ 0x40 ∷ 0x40 ∷ [])
    ∷ (0x50, 0 ∷ 1 ∷ 0 ∷ 0 ∷ 0 ∷ [])
    ∷ (0x53, 0 ∷ [])
    ∷ (0x53, 0 ∷ 3 ∷ 0x31 ∷ 0x32 ∷ [])
    ∷ (0x53, 0 ∷ 1 ∷ 0x31 ∷ 0x32 ∷ [])
    ∷ (0x60, [])
    ∷ (0x76, [])
    ∷ (0x78, [])
    ∷ []

pub worked_refused_lem : map read_coded worked_refused ≡ map (λ (b : CodedBody). refused 19 (b.0 ∷ [])) worked_refused
unfolding worked_refused refuse_if choose and_then kind_named read_of read_as records_of
worked_refused_lem = refl

-- 26 bits, whatever is spare; 1 bit; 64; none; 65; bytes that are not those which the bits need; and another body
pub worked_badges :
    map message_badge (
    raw 0 1 26 (0x8F ∷ 0xA3 ∷ 0x40 ∷ 0x40 ∷ [])
    ∷ raw 0 1 26 (0x8F ∷ 0xA3 ∷ 0x40 ∷ 0x7F ∷ [])
    ∷ raw 0 0 1 (0x80 ∷ [])
    ∷ raw 0 0 64 (0xFF ∷ 0xFF ∷ 0xFF ∷ 0xFF ∷ 0xFF ∷ 0xFF ∷ 0xFF ∷ 0xFF ∷ [])
    ∷ raw 0 0 0 []
    ∷ raw 0 0 65 (1 ∷ 2 ∷ 3 ∷ 4 ∷ 5 ∷ 6 ∷ 7 ∷ 8 ∷ 9 ∷ [])
    ∷ raw 0 0 26 []
    ∷ keypad 0 1 (0x31 ∷ [])
    ∷ []
    )
    ≡ some 37653761 ∷ some 37653761 ∷ some 1 ∷ some 18446744073709551615 ∷ none ∷ none ∷ none ∷ none ∷ []
unfolding all_bits binary badge_in
worked_badges = refl

-- the two triples of a PDCAP, and none behind them
pub worked_triples :
    map (message_triple (pdcap (record { function = 1; compliance = 2; number = 3 } ∷ record { function = 4; compliance = 5; number = 6 } ∷ []))) (0 ∷ 1 ∷ 2 ∷ [])
    ≡ some (record { function = 1; compliance = 2; number = 3 }) ∷ some (record { function = 4; compliance = 5; number = 6 }) ∷ none ∷ []
worked_triples = refl
