-- Four bytes as one number, the first lowest: equal exactly where the bytes are.
-- Assumes nothing.
use native.Mathlib.Omega.{arith}
use mathlib.Core.Bool.{Bool, true, false}
use mathlib.Core.List.{List, [], ◌∷◌}
use mathlib.Core.Path.{◌≡◌, refl, sym, ap, ◌∙◌}
use Prim.Native.Nat.{ℕ, ◌+◌, ◌*◌, ◌≤◌}
use borrow.Author.Tests.{eq-eqb, eqb-true}
use lib.Dec.{eqb}
use lib.ListN.{length, get_or, take}
use Rattle.laws.specs.Bytes.{Bytes, eql}
use Rattle.laws.proofs.ByteLists.{eql_refl, eql_true}
use Rattle.laws.proofs.Listed.{front_listed, all_listed}

abbrev listed : List ℕ → List ℕ
listed l = get_or l 0 0 ∷ get_or l 1 0 ∷ get_or l 2 0 ∷ get_or l 3 0 ∷ []

-- the first four entries of a list as a number
abbrev pub four_of : List ℕ → ℕ
four_of l = get_or l 0 0 + get_or l 1 0 * 256 + get_or l 2 0 * 65536 + get_or l 3 0 * 16777216

same_entries : (f w : List ℕ) → Bytes f → Bytes w → four_of f ≡ four_of w → listed f ≡ listed w
same_entries f w hf hw h =
    let a : get_or f 0 0 ≡ get_or w 0 0 = omega (arith, hf 0, hw 0) in
    let b : get_or f 1 0 ≡ get_or w 1 0 = omega (arith, hf 1, hw 1) in
    let c : get_or f 2 0 ≡ get_or w 2 0 = omega (arith, hf 2, hw 2) in
    let d : get_or f 3 0 ≡ get_or w 3 0 = omega arith in
    λ i. a i ∷ b i ∷ c i ∷ d i ∷ []

either_way : (x y : Bool) → (x ≡ true → y ≡ true) → (y ≡ true → x ≡ true) → x ≡ y
either_way true y f g = sym (f refl)
either_way false true f g = g refl
either_way false false f g = refl

pub four_begins : (f w : List ℕ) → 4 ≤ length f → length w ≡ 4 → Bytes f → Bytes w → (x y : ℕ) → x ≡ four_of f → y ≡ four_of w → eqb x y ≡ eql (take 4 f) w
four_begins f w lf lw hf hw x y hx hy =
    either_way (eqb x y) (eql (take 4 f) w)
    (λ e.
    let h : four_of f ≡ four_of w = sym hx ∙ eqb-true _ _ e ∙ hy in
    let s : take 4 f ≡ w = sym (front_listed f 4 lf) ∙ same_entries f w hf hw h ∙ all_listed w 4 lw in
    ap (λ (l : List ℕ). eql l w) s ∙ eql_refl w)
    (λ e. eq-eqb _ _ (hx ∙ ap four_of (front_listed f 4 lf ∙ eql_true _ _ e) ∙ sym hy))
