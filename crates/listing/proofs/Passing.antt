-- A loop that passes frame after frame: what it has passed and what is left make the whole.
-- Assumes nothing.
use mathlib.Core.Path.{◌≡◌, refl, sym, ap, ◌∙◌}
use mathlib.Core.List.{List, [], ◌∷◌, ◌++◌, append_assoc, append-nil}
use Prim.Native.Nat.{ℕ, zero, suc, ◌+◌, ◌-◌, ◌≤◌, ◌<◌}
use native.Mathlib.Nat.{add_assoc}
use native.Mathlib.Omega.{arith}
use lib.ListN.{length, drop, drop_of_length-le, length-drop}
use lib.Seq.{drop-drop}
use Rattle.laws.specs.Answer.{Answer, Answer.given, Answer.refused, and_then, refuse_if}
use Rattle.packet_parse.specs.Frame.{Fields, head_of, parse_of}
use Rattle.packet_parse.proofs.Within.{Inside, accepted_inside}
use Rattle.listing.specs.Listed.{ListedFrame, listed_frame, then_behind, frames_from, frames_in, over_frames, frame_length, listed}

-- ---- sums

pub over_more : (w : ListedFrame → ℕ) (fs : List ListedFrame) (f : ListedFrame) → over_frames w (fs ++ (f ∷ [])) ≡ over_frames w fs + w f
unfolding over_frames
over_more w [] f = omega arith
over_more w (g ∷ fs) f = ap (λ (n : ℕ). w g + n) (over_more w fs f) ∙ sym (add_assoc (w g) (over_frames w fs) (w f))

-- ---- the loop

-- the bytes before `at` are the frames fs, and at most `left` frames follow
pub record PassedFrames (s : List ℕ) (at : ℕ) (fs : List ListedFrame) : Type 0 where
  pub left : ℕ
  pub enough : length s - at ≤ left
  pub within : at ≤ length s
  pub bytes : at ≡ over_frames frame_length fs
  pub whole : fs ++ frames_from left (drop at s) ≡ frames_in s

pub passed_none : (s : List ℕ) → PassedFrames s 0 []
unfolding frames_in over_frames
passed_none s = record { left = length s; enough = omega arith; within = omega arith; bytes = refl; whole = refl }

-- a frame that is read at `at` lies within what is left
pub frame_inside : (s : List ℕ) (at : ℕ) (F : Fields) → parse_of (drop at s) ≡ given F → Inside (length s - at) F
frame_inside s at F e = let i = accepted_inside (drop at s) F e in rw (length-drop at s) at i

-- one frame more
pub passed_more : (s : List ℕ) (at : ℕ) (fs : List ListedFrame) (F : Fields) → at < length s → parse_of (drop at s) ≡ given F → PassedFrames s at fs
    → PassedFrames s (at + F.len) (fs ++ (listed_frame (drop at s) F ∷ []))
unfolding frames_from then_behind
passed_more s at fs F h e p = go p.left p.enough p.whole
  where
    go : (n : ℕ) → length s - at ≤ n → fs ++ frames_from n (drop at s) ≡ frames_in s → PassedFrames s (at + F.len) (fs ++ (listed_frame (drop at s) F ∷ []))
    go zero q w = absurd (omega arith)
    go (suc n) q w =
        let i = frame_inside s at F e in
        record {
          left = n;
          enough = omega (arith, i.least);
          within = omega (arith, i.most);
          bytes = ap (λ (k : ℕ). k + F.len) p.bytes ∙ sym (over_more frame_length fs (listed_frame (drop at s) F));
          whole =
              append_assoc fs (listed_frame (drop at s) F ∷ []) (frames_from n (drop (at + F.len) s))
              ∙ ap (λ (r : List ℕ). fs ++ (listed_frame (drop at s) F ∷ frames_from n r)) (sym (drop-drop F.len at s))
              ∙ ap (λ (a : Answer Fields). fs ++ then_behind a (drop at s) (frames_from n)) (sym e) ∙ w;
        }

-- a refusal ends it
pub passed_refused : (s : List ℕ) (at : ℕ) (fs : List ListedFrame) (k : ℕ) (vs : List ℕ) → at < length s → parse_of (drop at s) ≡ refused k vs → PassedFrames s at fs → fs ≡ frames_in s
unfolding frames_from then_behind
passed_refused s at fs k vs h e p = go p.left p.enough p.whole
  where
    go : (n : ℕ) → length s - at ≤ n → fs ++ frames_from n (drop at s) ≡ frames_in s → fs ≡ frames_in s
    go zero q w = absurd (omega arith)
    go (suc n) q w = sym (append-nil fs) ∙ ap (λ (a : Answer Fields). fs ++ then_behind a (drop at s) (frames_from n)) (sym e) ∙ w

-- and so does the end
pub passed_all : (s : List ℕ) (at : ℕ) (fs : List ListedFrame) → length s ≤ at → PassedFrames s at fs → fs ≡ frames_in s
unfolding frames_from then_behind head_of parse_of and_then refuse_if
passed_all s at fs h p = go p.left p.whole
  where
    go : (n : ℕ) → fs ++ frames_from n (drop at s) ≡ frames_in s → fs ≡ frames_in s
    go zero w = sym (append-nil fs) ∙ w
    go (suc n) w = sym (append-nil fs) ∙ ap (λ (r : List ℕ). fs ++ frames_from (suc n) r) (sym (drop_of_length-le s {i = at} h)) ∙ w

-- the bytes that were passed, where the frames are all
pub passed_bytes : {s : List ℕ} {at : ℕ} {fs : List ListedFrame} → PassedFrames s at fs → fs ≡ frames_in s → at ≡ listed s
unfolding listed
passed_bytes p e = p.bytes ∙ ap (over_frames frame_length) e
