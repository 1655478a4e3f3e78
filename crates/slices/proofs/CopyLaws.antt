-- A copy by its cases: all has room, or not; and zeros by theirs.
-- Assumes nothing.
use mathlib.Core.List.{List, ◌++◌}
use mathlib.Core.Path.{◌≡◌, sym, ap, ◌∙◌}
use Prim.Native.Nat.{ℕ, ◌+◌, ◌-◌, ◌≤◌}
use native.Mathlib.Omega.{arith}
use borrow.Author.Tests.{le-ltb}
use lib.ListN.{length, take, drop, length-drop}
use lib.Seq.{length-take-le}
use Rattle.laws.specs.Bytes.{zeros}
use Rattle.laws.specs.Over.{write}
use Rattle.laws.proofs.Overwrite.{write_whole, part_write}
use Rattle.slices.specs.Copy.{copy_of, zero_of}
use Rattle.slices.proofs.PlaceLaws.{fits_all}

module _ (o : List ℕ) (at : ℕ) (s : List ℕ) where
  pub copy-all : at + length s ≤ length o → copy_of o at s ≡ write o at s
  unfolding copy_of
  copy-all h = rw (le-ltb (length o) (at + length s) h)

-- as a caller finds it
pub copied_all : (o : List ℕ) (at : ℕ) (s : List ℕ) {o₂ : List ℕ} → o₂ ≡ copy_of o at s → at + length s ≤ length o → o₂ ≡ write o at s
copied_all o at s e h = e ∙ copy-all o at s h

-- as a caller finds it that lent a part of just the length of s, from `at` to `end`
pub copied_part : (o : List ℕ) (at end : ℕ) (s : List ℕ) {m : List ℕ} → m ≡ copy_of (take (end - at) (drop at o)) 0 s → end ≡ at + length s → end ≤ length o
    → take at o ++ (m ++ drop (end - at) (drop at o)) ≡ write o at s
copied_part o at end s {m} e f h =
    let p : List ℕ = take (end - at) (drop at o) in
    let k : end - at ≡ length s = omega arith in
    let n : length p ≡ length s = length-take-le (end - at) (drop at o) (omega (arith, length-drop at o)) ∙ k in
    let w : m ≡ s = copied_all p 0 s e (omega arith) ∙ write_whole p s n in
    part_write o at (end - at) m (ap length w ∙ sym k) ∙ ap (write o at) w

module _ (o : List ℕ) (at n : ℕ) where
  pub zero-all : at + n ≤ length o → zero_of o at n ≡ write o at (zeros n)
  unfolding zero_of
  zero-all h = rw (fits_all (length o) at n h)

pub zeroed_all : (o : List ℕ) (at n : ℕ) {o₂ : List ℕ} → o₂ ≡ zero_of o at n → at + n ≤ length o → o₂ ≡ write o at (zeros n)
zeroed_all o at n e h = e ∙ zero-all o at n h
