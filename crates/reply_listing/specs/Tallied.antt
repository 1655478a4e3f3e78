-- A capture's replies in numbers (docs/RULES.md, 14.2): each is a sum over its frames.
-- Assumes nothing.
use Rattle.std.specs.Prelude.{ℕ, ◌+◌, ◌<◌, ◌^◌, List}
use Rattle.laws.specs.Answer.{Answer, Answer.given, Answer.refused}
use Rattle.body_message.specs.Message.{Message}
use Rattle.listing.specs.Listed.{ListedFrame, frame_length, over_frames}
use Rattle.reply_listing.specs.InClear.{Reply, Reply.no_reply, Reply.sealed, Reply.clear, reply_in}
use Rattle.reply_listing.specs.declared.counting.Tally.{Tally}

-- what a reply counts for: as one in the clear, as one whose body is refused, as one that is sealed
abbrev pub as_clear : Reply → ℕ
as_clear no_reply = 0
as_clear sealed = 0
as_clear (clear a) = 1

abbrev pub body_refused : Answer Message → ℕ
body_refused (given m) = 0
body_refused (refused k vs) = 1

abbrev pub as_refused : Reply → ℕ
as_refused no_reply = 0
as_refused sealed = 0
as_refused (clear a) = body_refused a

abbrev pub as_sealed : Reply → ℕ
as_sealed no_reply = 0
as_sealed sealed = 1
as_sealed (clear a) = 0

-- all frames
unfoldable pub tally_of : List ListedFrame → Tally
tally_of fs =
    record {
      bytes = over_frames frame_length fs;
      replies = over_frames (λ f. as_clear (reply_in f)) fs;
      refused = over_frames (λ f. as_refused (reply_in f)) fs;
      sealed = over_frames (λ f. as_sealed (reply_in f)) fs;
    }

-- ---- one frame after the other

-- a frame of len bytes can still be counted: no count is above the bytes
pub record RoomFor (t : Tally) (len : ℕ) : Type 0 where
  pub bytes : t.bytes + len < 2 ^ 64
  pub replies : t.replies < t.bytes + len
  pub refused : t.refused < t.bytes + len
  pub sealed : t.sealed < t.bytes + len

-- a frame of len bytes more, with this reply
abbrev pub tally_more : Tally → ℕ → Reply → Tally
tally_more t len r =
    record {
      bytes = t.bytes + len;
      replies = t.replies + as_clear r;
      refused = t.refused + as_refused r;
      sealed = t.sealed + as_sealed r;
    }
