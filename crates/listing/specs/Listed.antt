-- The frames of a capture, one behind the other, up to the first refusal (docs/RULES.md, 11.2).
-- Assumes nothing.
use Rattle.std.specs.Prelude.{ℕ, zero, suc, ◌+◌, List, [], ◌∷◌, length, take, drop}
use Rattle.laws.specs.Answer.{Answer, Answer.given, Answer.refused}
use Rattle.packet_parse.specs.Frame.{Fields, parse_of}

-- a frame that was read, and its payload
pub record ListedFrame : Type 0 where
  pub fields : Fields
  pub payload : List ℕ

-- the one at the start of s
abbrev pub listed_frame : List ℕ → Fields → ListedFrame
listed_frame s F = record { fields = F; payload = take F.data_len (drop F.data_start s) }

-- it, and what follows its last byte; nothing after a refusal
unfoldable pub then_behind : Answer Fields → List ℕ → (List ℕ → List ListedFrame) → List ListedFrame
then_behind (given F) s rest = listed_frame s F ∷ rest (drop F.len s)
then_behind (refused k vs) s rest = []

-- at most n frames
unfoldable pub frames_from : ℕ → List ℕ → List ListedFrame
frames_from zero s = []
frames_from (suc n) s = then_behind (parse_of s) s (frames_from n)

-- all of them: a frame has at least one byte, so there are no more frames than bytes
unfoldable pub frames_in : List ℕ → List ListedFrame
frames_in s = frames_from (length s) s

-- the sum over frames of what each counts for
unfoldable pub over_frames : (ListedFrame → ℕ) → List ListedFrame → ℕ
over_frames w [] = 0
over_frames w (f ∷ fs) = w f + over_frames w fs

-- how many bytes were frames
abbrev pub frame_length : ListedFrame → ℕ
frame_length f = f.fields.len

unfoldable pub listed : List ℕ → ℕ
listed s = over_frames frame_length (frames_in s)
