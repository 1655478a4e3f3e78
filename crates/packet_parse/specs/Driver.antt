-- What a driver may rely on while a frame's bytes arrive, and how it reads one (docs/RULES.md, 3.2 and 3.7).
-- Assumes nothing.
use Rattle.std.specs.Prelude.{◌≡◌, ℕ, ◌+◌, ◌-◌, ◌*◌, ◌/◌, ◌%◌, ◌<◌, ◌≤◌, List, [], ◌∷◌, length, take, ◌==◌, ◌≢◌, slice_index, slice_index_or}
use Rattle.laws.specs.Answer.{Answer, Answer.given, Answer.refused}
use Rattle.packet_head.specs.Numbers.{HEADER_LEN}
use Rattle.packet_head.specs.Header.{Control}
use Rattle.packet_parse.specs.Frame.{Head, Fields, head_of, parse_of}

-- ---- the head

-- what a byte says as CTRL (2.2)
abbrev pub ctrl_said : ℕ → Control
ctrl_said b = record { sqn = b % 4; crc = (b / 4 % 2 == 1); block = (b / 8 % 2 == 1) }

-- an answer: what each of the five bytes of s says
pub record HeadAnswered (s : List ℕ) (h : Head) : Type 0 where
  pub five : 5 ≤ length s
  pub som : slice_index_or s 0 0 ≡ 0x53
  pub addr : h.addr ≡ slice_index s 1
  pub len : h.len ≡ slice_index s 2 + 256 * slice_index s 3
  pub low : slice_index_or s 4 0 < 0x10
  pub ctrl : h.ctrl ≡ ctrl_said (slice_index s 4)

-- a refusal: its number, what it carries, and why, where what comes before it is in order
pub data HeadRefused (s : List ℕ) : ℕ → List ℕ → Type 0 where
  too_few : length s < 5 → HeadRefused s 1 (length s ∷ 5 ∷ [])
  bad_start : 5 ≤ length s → (slice_index s 0 ≢ 0x53) → HeadRefused s 2 (slice_index s 0 ∷ [])
  bad_ctrl : 5 ≤ length s → slice_index s 0 ≡ 0x53 → 0x10 ≤ slice_index s 4 → HeadRefused s 3 (slice_index s 4 ∷ [])

-- ---- the driver

-- how many bytes it reads once `head` has said this of the first five: none where LEN is 5 or less
abbrev pub to_read : Answer Head → ℕ
to_read (given h) = h.len - HEADER_LEN
to_read (refused n vs) = 0

-- how many it wants in all, s being there
unfoldable pub wanted_of : List ℕ → ℕ
wanted_of s = HEADER_LEN + to_read (head_of s)

-- five bytes of the line, as many more as these say, and one parse
unfoldable pub driver_of : List ℕ → Answer Fields
driver_of line = parse_of (take (wanted_of (take HEADER_LEN line)) line)
