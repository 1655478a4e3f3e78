-- A loop that counts replies, frame after frame: its counts are the sums over the frames that it has passed.
-- Assumes nothing.
use mathlib.Core.Path.{◌≡◌, refl, sym, ap, ◌∙◌, subst}
use mathlib.Core.List.{List, [], ◌∷◌, ◌++◌}
use Prim.Native.Nat.{ℕ, ◌+◌, ◌≤◌, ◌<◌, ◌^◌}
use native.Mathlib.Omega.{arith}
use lib.ListN.{length, drop, take}
use lib.Seq.{drop-drop}
use Rattle.laws.specs.Answer.{Answer, Answer.given, Answer.refused}
use Rattle.slices.specs.Place.{part_of}
use Rattle.slices.proofs.PlaceLaws.{part_in}
use Rattle.packet_parse.specs.Frame.{Fields, parse_of}
use Rattle.body_message.specs.Message.{Message}
use Rattle.listing.specs.Listed.{ListedFrame, listed_frame, frames_in, over_frames}
use Rattle.listing.proofs.Passing.{PassedFrames, passed_none, passed_more, passed_refused, passed_all, frame_inside, over_more}
use Rattle.reply_listing.specs.declared.counting.Tally.{Tally}
use Rattle.reply_listing.specs.InClear.{Reply, Reply.no_reply, Reply.sealed, Reply.clear, reply_in}
use Rattle.reply_listing.specs.Tallied.{as_clear, as_refused, as_sealed, body_refused, RoomFor, tally_more, tally_of}

-- ---- a frame more

refused_one : (a : Answer Message) → body_refused a ≤ 1
refused_one (given m) = omega arith
refused_one (refused k vs) = omega arith

-- a reply counts for one at most
counts_one : (r : Reply) → (as_clear r ≤ 1) × (as_refused r ≤ 1) × (as_sealed r ≤ 1)
counts_one no_reply = (omega arith, omega arith, omega arith)
counts_one sealed = (omega arith, omega arith, omega arith)
counts_one (clear a) = (omega arith, refused_one a, omega arith)

more_of : (fs : List ListedFrame) (f : ListedFrame) → tally_more (tally_of fs) f.fields.len (reply_in f) ≡ tally_of (fs ++ (f ∷ []))
unfolding tally_of
more_of fs f = simp over_more

-- the payload, as the code takes it from the capture
pub payload_part : (s : List ℕ) (at : ℕ) (F : Fields) → at ≤ length s → parse_of (drop at s) ≡ given F → part_of s (at + F.data_start) F.data_len ≡ (listed_frame (drop at s) F).payload
payload_part s at F h e =
    let i = frame_inside s at F e in
    part_in s (at + F.data_start) F.data_len (omega (arith, i.most, i.«data»)) ∙ ap (take F.data_len) (sym (drop-drop F.data_start at s))

-- ---- the loop

-- t counts the frames that make up the bytes it has; each has a byte or more
pub record CountedFrames (s : List ℕ) (t : Tally) : Type 0 where
  pub frames : List ListedFrame
  pub passed : PassedFrames s t.bytes frames
  pub sums : t ≡ tally_of frames
  pub replies : t.replies ≤ t.bytes
  pub refused : t.refused ≤ t.bytes
  pub sealed : t.sealed ≤ t.bytes

pub counted_none : (s : List ℕ) → CountedFrames s (record { bytes = 0; replies = 0; refused = 0; sealed = 0 })
unfolding tally_of over_frames
counted_none s =
    record { frames = []; passed = passed_none s; sums = refl; replies = omega arith; refused = omega arith; sealed = omega arith }

module _ (s : List ℕ) (t : Tally) (F : Fields) (h : t.bytes < length s) (e : parse_of (drop t.bytes s) ≡ given F) (p : CountedFrames s t) where
  pub counted-room : length s < 2 ^ 64 → RoomFor t F.len
  counted-room k =
      let i = frame_inside s t.bytes F e in
      record {
        bytes = omega (arith, i.most);
        replies = omega (arith, i.least, p.replies);
        refused = omega (arith, i.least, p.refused);
        sealed = omega (arith, i.least, p.sealed);
      }

  pub counted-more : (u : Tally) → u ≡ tally_more t F.len (reply_in (listed_frame (drop t.bytes s) F)) → CountedFrames s u
  counted-more u q =
      let f = listed_frame (drop t.bytes s) F in
      let i = frame_inside s t.bytes F e in
      let one = counts_one (reply_in f) in
      let m : CountedFrames s (tally_more t F.len (reply_in f)) = record {
        frames = p.frames ++ (f ∷ []);
        passed = passed_more s t.bytes p.frames F h e p.passed;
        sums = ap (λ (x : Tally). tally_more x F.len (reply_in f)) p.sums ∙ more_of p.frames f;
        replies = omega (arith, i.least, p.replies, one.0);
        refused = omega (arith, i.least, p.refused, one.1);
        sealed = omega (arith, i.least, p.sealed, one.2);
      } in
      subst (CountedFrames s) (sym q) m

-- a refusal ends it, and so does the end
pub counted-refused : (s : List ℕ) (t : Tally) (k : ℕ) (vs : List ℕ) → t.bytes < length s → parse_of (drop t.bytes s) ≡ refused k vs → CountedFrames s t → t ≡ tally_of (frames_in s)
counted-refused s t k vs h e p = p.sums ∙ ap tally_of (passed_refused s t.bytes p.frames k vs h e p.passed)

pub counted-all : (s : List ℕ) (t : Tally) → length s ≤ t.bytes → CountedFrames s t → t ≡ tally_of (frames_in s)
counted-all s t h p = p.sums ∙ ap tally_of (passed_all s t.bytes p.frames h p.passed)
