-- A slice as a promise tells it: where it begins in memory, and its bytes (docs/RULES.md, 3.5 and 8.5).
-- Two slices that agree in these are one machine value with the same bytes: `stretch_settled` (proofs/Stretches).
-- Assumes nothing.
use Rattle.std.specs.Prelude.{List, ℕ, ◌+◌}
use Rattle.std.specs.Borrow.{Bor}

-- a place, which is a block of memory and a number of bytes from its start; and the bytes there
abbrev pub Stretch : Type 0
Stretch = (ℕ × ℕ) × List ℕ

abbrev pub stretch_of : Bor (List ℕ) → Stretch
stretch_of s = (s.ref_ptr, s.now)

-- the bytes b, where they begin `at` bytes after the start of s
abbrev pub stretch_in : Bor (List ℕ) → ℕ → List ℕ → Stretch
stretch_in s at b = ((s.ref_ptr.0, at + s.ref_ptr.1), b)
