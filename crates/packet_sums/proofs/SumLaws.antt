-- The sum of bytes: what a loop from the front has left, and lists joined.
-- Assumes nothing.
use Rattle.std.proofs.Common.{◌≡◌, ℕ, ◌+◌, ◌%◌, ◌<◌, ◌≤◌, List, [], ◌∷◌, ◌++◌, length, get_or, drop, drop_of_length-le, sym, refl, ap, ◌∙◌, zero-add, arith}
use Rattle.laws.proofs.Lists.{drop_next}
use Rattle.packet_sums.specs.Checksum.{sum_of, checksum_of}

pub sum_nil : sum_of [] ≡ 0
unfolding sum_of
sum_nil = refl

pub sum_cons : (x : ℕ) (s : List ℕ) → sum_of (x ∷ s) ≡ x + sum_of s
unfolding sum_of
sum_cons x s = refl

pub sum-append : (a b : List ℕ) → sum_of (a ++ b) ≡ sum_of a + sum_of b
unfolding sum_of
sum-append [] b = sym (zero-add (sum_of b))
sum-append (x ∷ a) b = ap (λ (n : ℕ). x + n) (sum-append a b) ∙ omega arith

pub sum_drop : (s : List ℕ) (i : ℕ) → i < length s → sum_of (drop i s) ≡ get_or s i 0 + sum_of (drop (i + 1) s)
sum_drop s i h = ap sum_of (drop_next s i h) ∙ sum_cons (get_or s i 0) (drop (i + 1) s)

-- the checksum is what makes the sum of all 0 modulo 256
pub checksum_closes : (s : List ℕ) → (sum_of s + checksum_of s) % 256 ≡ 0
unfolding checksum_of
checksum_closes s = omega arith

-- and no other byte does
pub checksum_only : (s : List ℕ) (n : ℕ) → n < 256 → (sum_of s + n) % 256 ≡ 0 → n ≡ checksum_of s
unfolding checksum_of
checksum_only s n h e = omega arith

pub sum_past : (s : List ℕ) (i : ℕ) → length s ≤ i → sum_of (drop i s) ≡ 0
sum_past s i h = ap sum_of (drop_of_length-le s {i = i} h) ∙ sum_nil

-- what a loop over the bytes needs
pub ruleset summing = (sum_drop, sum_past)
