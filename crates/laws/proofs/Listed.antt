-- A function of a number written out as a list, and a list written out entry by entry.
-- Assumes nothing.
use mathlib.Core.List.{List}
use mathlib.Core.Path.{◌≡◌, refl, sym, ap, ◌∙◌}
use Prim.Native.Nat.{ℕ, zero, suc, ◌+◌, ◌<◌, ◌≤◌}
use native.Mathlib.Nat.{zero-add, suc-add, add-zero, add-suc, not-suc-le-zero, le_of_suc-le-suc}
use native.Mathlib.Omega.{arith}
use lib.ListN.{length, get_or, take}
use lib.Seq.{ext_get_or, get_or-take, length-take-le, take_all}
use Rattle.laws.specs.Table.{from, block_of}

pub length_from_lem : (f : ℕ → ℕ) (i n : ℕ) → length (from f i n) ≡ n
length_from_lem f i zero = refl
length_from_lem f i (suc n) = ap suc (length_from_lem f (suc i) n)

pub get_or-from : (f : ℕ → ℕ) (i n k : ℕ) → k < n → get_or (from f i n) k 0 ≡ f (i + k)
get_or-from f i zero k h = absurd (not-suc-le-zero h)
get_or-from f i (suc n) zero h = ap f (sym (add-zero i))
get_or-from f i (suc n) (suc k) h = get_or-from f (suc i) n k (le_of_suc-le-suc h) ∙ ap f (suc-add i k ∙ sym (add-suc i k))

-- the front of a list
pub front_listed : (s : List ℕ) (n : ℕ) → n ≤ length s → from (λ i. get_or s i 0) 0 n ≡ take n s
front_listed s n h =
    let e = length_from_lem (λ i. get_or s i 0) 0 n in
    ext_get_or 0 (from (λ i. get_or s i 0) 0 n) (take n s) (e ∙ sym (length-take-le n s h))
    (λ i lt. let k : i < n = omega arith in rw (get_or-from, zero-add, get_or-take))

pub all_listed : (s : List ℕ) (n : ℕ) → length s ≡ n → from (λ i. get_or s i 0) 0 n ≡ s
all_listed s n h = front_listed s n (omega arith) ∙ take_all n s (omega arith)

-- ---- sixteen

pub length_block_of : (f : ℕ → ℕ) → length (block_of f) ≡ 16
unfolding block_of
length_block_of f = refl

pub get_or_block_of : (f : ℕ → ℕ) (k : ℕ) → k < 16 → get_or (block_of f) k 0 ≡ f k
unfolding block_of
get_or_block_of f k h = get_or-from f 0 16 k h ∙ ap f (zero-add k)

pub block_listed : (s : List ℕ) → length s ≡ 16 → block_of (λ i. get_or s i 0) ≡ s
unfolding block_of
block_listed s h = all_listed s 16 h
