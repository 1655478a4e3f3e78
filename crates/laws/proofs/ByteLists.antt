-- Lists of bytes: bounds, exclusive or, complement, equality.
-- Assumes nothing.
use mathlib.Core.Path.{◌≡◌, refl, ap, ap₂}
use mathlib.Core.Bool.{Bool, true, false, ◌&&◌}
use mathlib.Core.List.{List, [], ◌∷◌, ◌++◌}
use Prim.Native.Nat.{ℕ, zero, suc, ◌-◌, ◌<◌}
use native.Mathlib.Omega.{arith}
use borrow.Author.Tests.{eq-eqb, eqb-true}
use lib.Bits.{bit_xor, xor_lt}
use lib.Dec.{eqb}
use lib.ListN.{length, take, drop, get_or, replicate}
use Rattle.laws.specs.Bytes.{Bytes, zeros, xorl, compl, eql}
use Rattle.laws.proofs.Xor.{xor_cancel}

-- ---- bounds

pub bytes_nil : Bytes []
bytes_nil i = omega arith

pub bytes_cons : (x : ℕ) (s : List ℕ) → x < 256 → Bytes s → Bytes (x ∷ s)
bytes_cons x s h b zero = h
bytes_cons x s h b (suc i) = b i

pub bytes-append : (a b : List ℕ) → Bytes a → Bytes b → Bytes (a ++ b)
bytes-append [] b ha hb = hb
bytes-append (x ∷ a) b ha hb = bytes_cons x (a ++ b) (ha 0) (bytes-append a b (λ i. ha (suc i)) hb)

pub bytes_take : (n : ℕ) (s : List ℕ) → Bytes s → Bytes (take n s)
bytes_take zero s b = bytes_nil
bytes_take (suc n) [] b = bytes_nil
bytes_take (suc n) (x ∷ s) b = bytes_cons x (take n s) (b 0) (bytes_take n s (λ i. b (suc i)))

pub bytes_drop : (n : ℕ) (s : List ℕ) → Bytes s → Bytes (drop n s)
bytes_drop zero s b = b
bytes_drop (suc n) [] b = bytes_nil
bytes_drop (suc n) (x ∷ s) b = bytes_drop n s (λ i. b (suc i))

pub bytes-replicate : (n x : ℕ) → x < 256 → Bytes (replicate n x)
bytes-replicate zero x h = bytes_nil
bytes-replicate (suc n) x h = bytes_cons x (replicate n x) h (bytes-replicate n x h)

pub bytes-zeros : (n : ℕ) → Bytes (zeros n)
bytes-zeros n = bytes-replicate n 0 (omega arith)

-- ---- exclusive or

pub length-xorl : (a b : List ℕ) → length (xorl a b) ≡ length a
unfolding xorl
length-xorl [] b = refl
length-xorl (x ∷ xs) [] = refl
length-xorl (x ∷ xs) (y ∷ ys) = ap suc (length-xorl xs ys)

pub xorl_cancel : (a b : List ℕ) → xorl (xorl a b) b ≡ a
unfolding xorl
xorl_cancel [] b = refl
xorl_cancel (x ∷ xs) [] = refl
xorl_cancel (x ∷ xs) (y ∷ ys) = ap₂ (λ (h : ℕ) (t : List ℕ). h ∷ t) (xor_cancel x y) (xorl_cancel xs ys)

pub bytes-xorl : (a b : List ℕ) → Bytes a → Bytes b → Bytes (xorl a b)
unfolding xorl
bytes-xorl [] b ha hb = bytes_nil
bytes-xorl (x ∷ xs) [] ha hb = ha
bytes-xorl (x ∷ xs) (y ∷ ys) ha hb =
    bytes_cons (bit_xor x y) (xorl xs ys) (xor_lt 8 x y (ha 0) (hb 0)) (bytes-xorl xs ys (λ i. ha (suc i)) (λ i. hb (suc i)))

pub get_or-xorl : (a b : List ℕ) (i : ℕ) → i < length a → i < length b → get_or (xorl a b) i 0 ≡ bit_xor (get_or a i 0) (get_or b i 0)
unfolding xorl
get_or-xorl [] b i h₁ h₂ = absurd (omega arith)
get_or-xorl (x ∷ xs) [] i h₁ h₂ = absurd (omega arith)
get_or-xorl (x ∷ xs) (y ∷ ys) zero h₁ h₂ = refl
get_or-xorl (x ∷ xs) (y ∷ ys) (suc i) h₁ h₂ = get_or-xorl xs ys i (omega arith) (omega arith)

-- ---- complement

pub length-compl : (a : List ℕ) → length (compl a) ≡ length a
unfolding compl
length-compl [] = refl
length-compl (x ∷ xs) = ap suc (length-compl xs)

pub bytes-compl : (a : List ℕ) → Bytes (compl a)
unfolding compl
bytes-compl [] = bytes_nil
bytes-compl (x ∷ xs) = bytes_cons (255 - x) (compl xs) (omega arith) (bytes-compl xs)

pub get_or-compl : (a : List ℕ) (i : ℕ) → i < length a → get_or (compl a) i 0 ≡ 255 - get_or a i 0
unfolding compl
get_or-compl [] i h = absurd (omega arith)
get_or-compl (x ∷ xs) zero h = refl
get_or-compl (x ∷ xs) (suc i) h = get_or-compl xs i (omega arith)

-- ---- equality

pub eql_refl : (l : List ℕ) → eql l l ≡ true
unfolding eql
eql_refl [] = refl
eql_refl (x ∷ xs) = rw (eq-eqb x x refl) (eql_refl xs)

eql_parts : (t : Bool) (x y : ℕ) (xs ys : List ℕ) → eqb x y ≡ t → t && eql xs ys ≡ true → (eql xs ys ≡ true → xs ≡ ys) → x ∷ xs ≡ y ∷ ys
eql_parts true x y xs ys h f g = ap₂ (λ (a : ℕ) (b : List ℕ). a ∷ b) (eqb-true x y h) (g f)
eql_parts false x y xs ys h f g = cc

pub eql_true : (a b : List ℕ) → eql a b ≡ true → a ≡ b
unfolding eql
eql_true [] [] e = refl
eql_true [] (y ∷ ys) e = cc
eql_true (x ∷ xs) [] e = cc
eql_true (x ∷ xs) (y ∷ ys) e = eql_parts (eqb x y) x y xs ys refl e (eql_true xs ys)
