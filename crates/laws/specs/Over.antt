-- A list with another written over a part of it.
-- Assumes nothing.
use Rattle.std.specs.Prelude.{List, ◌++◌, ℕ, ◌+◌, length, take, drop}

-- l, with s from `at` on
unfoldable pub write : List ℕ → ℕ → List ℕ → List ℕ
write l at s = take at l ++ s ++ drop (at + length s) l
