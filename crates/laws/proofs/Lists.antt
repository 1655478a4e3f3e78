-- Lists: what a loop from the front has left, and a part in the middle.
-- Assumes nothing.
use mathlib.Core.Path.{◌≡◌, refl, ap, ◌∙◌}
use mathlib.Core.List.{List, [], ◌∷◌, ◌++◌}
use Prim.Native.Nat.{ℕ, ◌+◌, ◌≤◌, ◌<◌}
use native.Mathlib.Numerals.{add-one}
use native.Mathlib.Omega.{arith}
use lib.ListN.{length, get_or, take, drop, length-drop}
use lib.Seq.{drop-cons, drop_at, take_at, length-take-le}

-- one element, and the rest
pub drop_next : (s : List ℕ) (i : ℕ) → i < length s → drop i s ≡ get_or s i 0 ∷ drop (i + 1) s
drop_next s i h = rw (add-one, drop-cons s i 0)

-- a list between two others
pub middle : (q d r : List ℕ) (i n : ℕ) → length q ≡ i → length d ≡ n → take n (drop i (q ++ (d ++ r))) ≡ d
middle q d r i n e f = ap (take n) (drop_at q (d ++ r) i e) ∙ take_at d r n f

-- how long a part is
pub part_length : (s : List ℕ) (at n : ℕ) → at + n ≤ length s → length (take n (drop at s)) ≡ n
part_length s at n h = length-take-le n (drop at s) (omega (arith, length-drop at s))

-- a list of no length
pub nothing : (l : List ℕ) → length l ≡ 0 → [] ≡ l
nothing [] e = refl
nothing (x ∷ l) e = absurd (omega arith)
