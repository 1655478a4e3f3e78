-- `inverse` is the multiplicative inverse: one test of every byte, carried to each.
-- Assumes nothing.
use mathlib.Core.Path.{◌≡◌}
use mathlib.Core.Bool.{Bool, true}
use mathlib.Core.List.{List}
use Prim.Native.Nat.{ℕ, zero, suc, ◌<◌}
use native.Mathlib.Nat.{not-suc-le-zero}
use lib.Dec.{eqb, eqb→eq, T}
use Rattle.laws.specs.Table.{from}
use Rattle.laws.proofs.Entries.{every_at, every}
use Rattle.aes_field.specs.Field.{◌⊕◌, xtime, bits_times, ◌•◌, squares, inverse}

abbrev numbers : List ℕ
numbers = from (λ i. i) 0 256

abbrev right : ℕ → ℕ → Bool
right zero x = true
right (suc k) x = eqb (suc k • inverse (suc k)) 1

all_right : T (every right 0 numbers)
unfolding ◌⊕◌ xtime bits_times ◌•◌ squares inverse
all_right = tt

pub times_inverse : (a : ℕ) → 0 < a → a < 256 → a • inverse a ≡ 1
times_inverse zero h l = absurd (not-suc-le-zero h)
times_inverse (suc a) h l = eqb→eq (suc a • inverse (suc a)) 1 (every_at right numbers all_right (suc a) l)
