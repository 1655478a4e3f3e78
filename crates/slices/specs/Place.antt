-- A place in a slice: a start, counted from the first byte, and a length (docs/RULES.md, 3.5 and 8.5).
-- Assumes nothing.
use Rattle.std.specs.Prelude.{ℕ, ◌+◌, ◌-◌, ◌^◌, Bool, cond, List, [], ltb, length, take, drop}
use Rattle.std.specs.Borrow.{Bor}
use Rattle.slices.specs.Stretch.{Stretch, stretch_in}

-- whether it runs past the end of `size` bytes
abbrev pub runs_past : ℕ → ℕ → ℕ → Bool
runs_past size at len = ltb size (at + len)

-- how many of its bytes do not
unfoldable pub fits : ℕ → ℕ → ℕ → ℕ
fits size at len = cond (runs_past size at len) (size - at) len

-- the bytes of s there, or none where they run past its end
unfoldable pub part_of : List ℕ → ℕ → ℕ → List ℕ
part_of s at len = cond (runs_past (length s) at len) [] (take len (drop at s))

-- and where they begin in s: a part of no bytes that stands for one past the end, at the first byte
unfoldable pub part_start : List ℕ → ℕ → ℕ → ℕ
part_start s at len = cond (runs_past (length s) at len) 0 at

-- the part, as a slice: these bytes, at that place of the caller's slice
abbrev pub part_seen : Bor (List ℕ) → ℕ → ℕ → Stretch
part_seen s at len = stretch_in s (part_start s.now at len) (part_of s.now at len)

-- a number as 64 bits carry it
abbrev pub saturated : ℕ → ℕ
saturated n = cond (ltb n (2 ^ 64)) n 18446744073709551615
