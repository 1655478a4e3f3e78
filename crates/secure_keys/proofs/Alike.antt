-- Two lists of one length compared byte by byte, the differences gathered in d: what is gathered tells whether they are equal.
-- Assumes nothing.
use mathlib.Core.Bool.{Bool, true, false, ◌&&◌, and_assoc}
use mathlib.Core.List.{List, [], ◌∷◌}
use mathlib.Core.Path.{◌≡◌, refl, sym, ap, ◌∙◌}
use Prim.Native.Nat.{ℕ, suc}
use native.Mathlib.Omega.{arith}
use lib.Bits.{bit_or, bit_xor, or_add_and, xor_add_and, and_le_l, and_le_r, xor_self}
use lib.Dec.{eqb}
use lib.ListN.{length}
use borrow.Author.Tests.{eq-eqb, ne_eqb, eqb-true, eqb-false}
use borrow.Author.Rules.{rules}
use Rattle.laws.specs.Bytes.{eql}
use Rattle.std.specs.List.{fold, zip}

-- ---- one byte more

module _ (d x y : ℕ) where
  gather : (t u : Bool) → eqb d 0 ≡ t → eqb x y ≡ u → eqb (bit_or d (bit_xor x y)) 0 ≡ t && u
  gather true true e f =
      let z : bit_xor x y ≡ 0 = ap (bit_xor x) (sym (eqb-true x y f)) ∙ xor_self x in
      eq-eqb (bit_or d (bit_xor x y)) 0 (omega (arith, eqb-true d 0 e, or_add_and d (bit_xor x y)))
  gather true false e f =
      ne_eqb (bit_or d (bit_xor x y)) 0 (λ o. eqb-false x y f
      (omega (arith, or_add_and d (bit_xor x y), and_le_l d (bit_xor x y), xor_add_and x y, and_le_l x y, and_le_r x y)))
  gather false u e f =
      ne_eqb (bit_or d (bit_xor x y)) 0 (λ o. eqb-false d 0 e (omega (arith, or_add_and d (bit_xor x y), and_le_r d (bit_xor x y))))

abbrev pub gathered : ℕ → ℕ × ℕ → ℕ
gathered d p = bit_or d (bit_xor p.0 p.1)

pub alike : (a b : List ℕ) (d : ℕ) → length a ≡ length b → eqb (fold gathered d (zip a b)) 0 ≡ eqb d 0 && eql a b
unfolding eql
alike [] [] d h = search rules
alike [] (y ∷ b) d h = absurd (omega arith)
alike (x ∷ a) [] d h = absurd (omega arith)
alike (x ∷ a) (y ∷ b) d h =
    alike a b (bit_or d (bit_xor x y)) (omega arith) ∙ ap (λ (t : Bool). t && eql a b) (gather d x y (eqb d 0) (eqb x y) refl refl)
    ∙ and_assoc (eqb d 0) (eqb x y) (eql a b)

-- lists of different lengths differ
and_false : (t u : Bool) → false ≡ u → false ≡ t && u
and_false true u e = e
and_false false u e = refl

pub eql_lengths : (a b : List ℕ) → (length b ≡ length a → ⊥) → false ≡ eql a b
unfolding eql
eql_lengths [] [] h = absurd (h refl)
eql_lengths [] (y ∷ b) h = refl
eql_lengths (x ∷ a) [] h = refl
eql_lengths (x ∷ a) (y ∷ b) h = and_false (eqb x y) (eql a b) (eql_lengths a b (λ e. h (ap suc e)))
