-- What a frame carries from a reader: a reply in the clear is read (docs/RULES.md, 14.2).
-- Assumes nothing.
use Rattle.std.specs.Prelude.{ℕ, cond, List, leb}
use Rattle.laws.specs.Answer.{Answer}
use Rattle.packet_head.specs.Numbers.{REPLY_FLAG}
use Rattle.packet_parse.specs.Frame.{MacAt, MacAt.no_mac, MacAt.mac_from}
use Rattle.body_message.specs.Message.{Message}
use Rattle.body_message.specs.Body.{read_of}
use Rattle.body_read.specs.Reading.{read_answer}
use Rattle.listing.specs.Listed.{ListedFrame}
use Rattle.reply_listing.specs.declared.carried.Reply as code

pub data Reply : Type 0 where
  no_reply : Reply
  sealed : Reply
  clear : Answer Message → Reply

-- in the clear: without a MAC
abbrev pub unless_sealed : MacAt → Answer Message → Reply
unless_sealed no_mac a = clear a
unless_sealed (mac_from at) a = sealed

-- a reply: 80 is set in its address byte
unfoldable pub reply_in : ListedFrame → Reply
reply_in f =
    cond (leb REPLY_FLAG f.fields.addr) (unless_sealed f.fields.mac (read_of f.fields.code f.payload)) no_reply

-- ---- the code's reply, with the payload that it was read from

abbrev pub reply_told : code.Reply → List ℕ → Reply
reply_told code.Reply.NoReply s = no_reply
reply_told code.Reply.Sealed s = sealed
reply_told (code.Reply.Clear a) s = clear (read_answer a s)
