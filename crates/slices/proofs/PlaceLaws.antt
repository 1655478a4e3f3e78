-- A place that lies inside has its bytes, at their place; one that runs past the end shows none, at the first byte.
-- Assumes nothing.
use mathlib.Core.List.{List, []}
use mathlib.Core.Path.{◌≡◌}
use Prim.Native.Nat.{ℕ, ◌+◌, ◌-◌, ◌^◌, ◌≤◌, ◌<◌, min}
use native.Mathlib.Omega.{arith}
use borrow.Author.Tests.{lt-ltb, le-ltb}
use lib.ListN.{length, take, drop}
use Rattle.std.proofs.lemmas.Bool.Decides.{nat_tests}
use Rattle.slices.specs.Place.{fits, saturated, part_of, part_start}

module _ (size at n : ℕ) where
  pub fits_all : at + n ≤ size → fits size at n ≡ n
  unfolding fits
  fits_all h = rw (le-ltb size (at + n) h)

  -- by where the place ends, or the bytes do
  pub fits_end : size < 2 ^ 64 → fits size at n ≡ min (saturated (at + n)) size - at
  unfolding fits
  fits_end h = grind (arith, nat_tests)

module _ (s : List ℕ) (at len : ℕ) where
  pub part_in : at + len ≤ length s → part_of s at len ≡ take len (drop at s)
  unfolding part_of
  part_in h = rw (le-ltb (length s) (at + len) h)

  pub start-in : at + len ≤ length s → part_start s at len ≡ at
  unfolding part_start
  start-in h = rw (le-ltb (length s) (at + len) h)

  pub part_out : length s < at + len → part_of s at len ≡ []
  unfolding part_of
  part_out h = rw (lt-ltb (length s) (at + len) h)

  pub start-out : length s < at + len → part_start s at len ≡ 0
  unfolding part_start
  start-out h = rw (lt-ltb (length s) (at + len) h)
