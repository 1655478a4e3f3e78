-- The bits of bytes as one number: summed up byte by byte, and the spare bits at the end taken off by a division.
-- Assumes nothing.
use mathlib.Core.Path.{◌≡◌, refl, sym, ap, ap₂, ◌∙◌}
use mathlib.Core.List.{List, [], ◌∷◌, ◌++◌}
use mathlib.Core.Option.{none, some}
use Prim.Native.Nat.{ℕ, zero, suc, ◌+◌, ◌*◌, ◌-◌, ◌/◌, ◌%◌, ◌^◌, ◌≤◌, ◌<◌}
use native.Mathlib.Omega.{arith}
use native.Mathlib.Nat.{pow-suc, div-one, div-div-eq-div-mul}
use borrow.Author.Tests.{eq-eqb, ne_eqb, le-leb, lt-leb}
use lib.ListN.{length, take, drop, get_or, length-drop, take-append-drop, drop_of_length-le}
use Rattle.laws.proofs.Lists.{drop_next}
use Rattle.body_message.specs.Message.{bytes_for}
use Rattle.body_message.specs.Lookup.{bits_of, all_bits, binary, badge_in}

-- ---- byte by byte

-- the eight bits of a byte
eight : (a b : ℕ) → b < 256 → binary a (bits_of b) ≡ a * 256 + b
unfolding binary
eight a b h =
    let s₁ : a * 2 + b / 128 % 2 ≡ a * 2 + b / 128 = omega arith in
    let s₂ : (a * 2 + b / 128) * 2 + b / 64 % 2 ≡ a * 4 + b / 64 = omega arith in
    let s₃ : (a * 4 + b / 64) * 2 + b / 32 % 2 ≡ a * 8 + b / 32 = omega arith in
    let s₄ : (a * 8 + b / 32) * 2 + b / 16 % 2 ≡ a * 16 + b / 16 = omega arith in
    let s₅ : (a * 16 + b / 16) * 2 + b / 8 % 2 ≡ a * 32 + b / 8 = omega arith in
    let s₆ : (a * 32 + b / 8) * 2 + b / 4 % 2 ≡ a * 64 + b / 4 = omega arith in
    let s₇ : (a * 64 + b / 4) * 2 + b / 2 % 2 ≡ a * 128 + b / 2 = omega arith in
    let s₈ : (a * 128 + b / 2) * 2 + b % 2 ≡ a * 256 + b = omega arith in
    rw (s₁, s₂, s₃, s₄, s₅, s₆, s₇, s₈)

pub binary-append : (a : ℕ) (l r : List ℕ) → binary a (l ++ r) ≡ binary (binary a l) r
unfolding binary
binary-append a [] r = refl
binary-append a (d ∷ l) r = binary-append (a * 2 + d) l r

-- one byte more, and none left
pub bits_more : (a i : ℕ) (s : List ℕ) → i < length s → get_or s i 0 < 256 → binary (a * 256 + get_or s i 0) (all_bits (drop (i + 1) s)) ≡ binary a (all_bits (drop i s))
unfolding all_bits
bits_more a i s h b =
    sym
    (ap (λ (l : List ℕ). binary a (all_bits l)) (drop_next s i h)
    ∙ binary-append a (bits_of (get_or s i 0)) (all_bits (drop (i + 1) s))
    ∙ ap (λ (n : ℕ). binary n (all_bits (drop (i + 1) s))) (eight a (get_or s i 0) b))

pub bits_end : (a i : ℕ) (s : List ℕ) → length s ≤ i → binary a (all_bits (drop i s)) ≡ a
unfolding all_bits binary
bits_end a i s h = ap (λ (l : List ℕ). binary a (all_bits l)) (drop_of_length-le s {i = i} h)

-- ---- the spare bits

-- each number of the list is a binary digit
abbrev Digits : List ℕ → Type 0
Digits [] = Unit {0}
Digits (d ∷ ds) = (d < 2) × Digits ds

digits_all : (s : List ℕ) → Digits (all_bits s)
unfolding all_bits
digits_all [] = tt
digits_all (b ∷ s) = (omega arith, (omega arith, (omega arith, (omega arith, (omega arith, (omega arith, (omega arith, (omega arith, digits_all s))))))))

digits_drop : (n : ℕ) (ds : List ℕ) → Digits ds → Digits (drop n ds)
digits_drop zero ds h = h
digits_drop (suc n) [] h = tt
digits_drop (suc n) (d ∷ ds) h = digits_drop n ds h.1

pub length_bits : (s : List ℕ) → length (all_bits s) ≡ length s * 8
unfolding all_bits
length_bits [] = refl
length_bits (b ∷ s) = omega (arith, length_bits s)

-- a division by two for each digit leaves what stood before them
spare_off : (a : ℕ) (ds : List ℕ) → Digits ds → binary a ds / 2 ^ length ds ≡ a
unfolding binary
spare_off a [] h = div-one a
spare_off a (d ∷ ds) h =
    ap (λ (n : ℕ). binary (a * 2 + d) ds / n) (pow-suc 2 (length ds))
    ∙ sym (div-div-eq-div-mul (binary (a * 2 + d) ds) (2 ^ length ds) 2)
    ∙ ap (λ (n : ℕ). n / 2) (spare_off (a * 2 + d) ds h.1)
    ∙ omega (arith, h.0)

pub first_bits : (n : ℕ) (s : List ℕ) → binary 0 (all_bits s) / 2 ^ (length s * 8 - n) ≡ binary 0 (take n (all_bits s))
first_bits n s =
    let l : List ℕ = all_bits s in
    let e : length (drop n l) ≡ length s * 8 - n = length-drop n l ∙ ap (λ (k : ℕ). k - n) (length_bits s) in
    ap₂ (λ (x y : ℕ). x / 2 ^ y) (ap (binary 0) (sym (take-append-drop n l)) ∙ binary-append 0 (take n l) (drop n l)) (sym e)
    ∙ spare_off (binary 0 (take n l)) (drop n l) (digits_drop n l (digits_all s))

-- ---- when a number is given

module _ (bits : ℕ) (bytes : List ℕ) where
  pub no_bits : bits < 1 → none ≡ badge_in bits bytes
  unfolding badge_in
  no_bits h = rw (lt-leb 1 bits h)

  pub many-bits : 1 ≤ bits → 64 < bits → none ≡ badge_in bits bytes
  unfolding badge_in
  many-bits g h = rw (le-leb 1 bits g, lt-leb bits 64 h)

  pub other-bytes : 1 ≤ bits → bits ≤ 64 → (length bytes ≡ bytes_for bits → ⊥) → none ≡ badge_in bits bytes
  unfolding badge_in
  other-bytes g h n = rw (le-leb 1 bits g, le-leb bits 64 h, ne_eqb (length bytes) (bytes_for bits) n)

  pub a-number : 1 ≤ bits → bits ≤ 64 → length bytes ≡ bytes_for bits → some (binary 0 (all_bits bytes) / 2 ^ (length bytes * 8 - bits)) ≡ badge_in bits bytes
  unfolding badge_in
  a-number g h n = ap some (first_bits bits bytes) ∙ sym (rw (le-leb 1 bits g, le-leb bits 64 h, eq-eqb (length bytes) (bytes_for bits) n))
