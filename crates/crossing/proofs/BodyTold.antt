-- What C is told of a body that was read: the code that it was read by, every number of its message, and the place in the payload where its
-- rest stands.
-- Assumes nothing.
use Prim.Native.Nat.{ℕ, ◌-◌}
use mathlib.Core.Path.{◌≡◌, refl, sym, ap, ◌∙◌}
use mathlib.Core.List.{List, [], ◌∷◌}
use native.Mathlib.Omega.{arith}
use lib.ListN.{length, get_or, take, drop, length-drop}
use lib.Seq.{take_all}
use Rattle.laws.specs.Answer.{Answer.given}
use Rattle.laws.specs.Bytes.{Bytes}
use Rattle.body_message.specs.Fields.{span_of}
use Rattle.body_message.specs.Message.{Message, Message.ack, Message.nak, Message.pdid, Message.pdcap, Message.lstatr, Message.raw, Message.keypad, Kind, Kind.ACK, Kind.NAK, Kind.PDID, Kind.PDCAP, Kind.LSTATR, Kind.RAW, Kind.KEYPAD, widths, message_kind, message_numbers, message_rest}
use Rattle.body_message.specs.Body.{read_of}
use Rattle.body_message.proofs.OneMessage.{read_whole, after_numbers}
use Rattle.crossing.specs.Bodies.{c_body}
use Rattle.crossing.specs.declared.body.CBody.{CBody}

-- the numbers of a kind, out of the flat record
abbrev numbers_told : Kind → CBody → List ℕ
numbers_told ACK r = []
numbers_told NAK r = r.error ∷ []
numbers_told PDID r =
    get_or r.vendor 0 0 ∷ get_or r.vendor 1 0 ∷ get_or r.vendor 2 0 ∷ r.model ∷ r.version ∷ r.serial
    ∷ r.firmware_major ∷ r.firmware_minor ∷ r.firmware_build ∷ []
numbers_told PDCAP r = []
numbers_told LSTATR r = r.tamper ∷ r.power ∷ []
numbers_told RAW r = r.reader ∷ r.format ∷ r.bits ∷ []
numbers_told KEYPAD r = r.reader ∷ r.count ∷ []

-- no number of a message is lost, and none is told for another
pub numbers_told_lem : (n : ℕ) (m : Message) → numbers_told (message_kind m) (c_body n (given m)) ≡ message_numbers m
numbers_told_lem n ack = refl
numbers_told_lem n (nak error rest) = refl
numbers_told_lem n (pdid vendor1 vendor2 vendor3 model version serial major minor build) = refl
numbers_told_lem n (pdcap triples) = refl
numbers_told_lem n (lstatr tamper power) = refl
numbers_told_lem n (raw reader format bits bytes) = refl
numbers_told_lem n (keypad reader count digits) = refl

module _ (c : ℕ) (s : List ℕ) (m : Message) (b : Bytes s) (e : read_of c s ≡ given m) where
  abbrev told : CBody
  told = c_body (length s) (read_of c s)

  pub code-told : told.code ≡ c
  code-told = ap (λ x. (c_body (length s) x).code) e ∙ (read_whole c s m b e).1

  pub rest-told : take told.rest_len (drop told.rest_start s) ≡ message_rest m
  rest-told =
      let k = span_of (widths (message_kind m)) in
      ap (λ x. let t = c_body (length s) x in take t.rest_len (drop t.rest_start s)) e
      ∙ take_all (length s - k) (drop k s) (omega (arith, length-drop k s))
      ∙ ap (drop k) (sym (read_whole c s m b e).0)
      ∙ after_numbers m
