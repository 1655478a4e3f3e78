-- An array that a closure fills, which keeps what it captured: each entry is what the closure gives for it.
-- Assumes nothing.
use mathlib.Core.List.{List}
use mathlib.Core.Path.{◌≡◌, refl, sym, subst, ◌∙◌}
use Prim.Native.Nat.{ℕ, zero, suc, ◌+◌, ◌<◌}
use native.Mathlib.Nat.{not-suc-le-zero}
use native.Mathlib.Omega.{arith}
use lib.ListN.{length, get_or}
use lib.Seq.{ext_get_or}
use denote.Param.Members.{Mut, Called}
use Rattle.std.specs.Array.{IsFromFnResultFrom, IsFromFnResult}

module _ {F : Type 0} (g : Mut F (ℕ × Unit {0}) ℕ) (f : F) (h : ℕ → ℕ)
    (step : (i b : ℕ) (p : F) → Called g f (i, tt) b p → (b ≡ h i) × (p ≡ f)) where
  made_from : (p : F) → p ≡ f → (ys : List ℕ) (i n k j : ℕ) → j ≡ i + k → k < n → IsFromFnResultFrom g p ys i n → get_or ys j 0 ≡ h j
  made_from p e ys i zero k j ej l m = absurd (not-suc-le-zero l)
  made_from p e ys i (suc n) zero j ej l m =
      let s = step i m.1 m.0 (subst (λ (x : F). Called g x (i, tt) m.1 m.0) e m.3) in
      let z : j ≡ i = omega arith in
      rw z (m.2.1 0 ∙ s.0)
  made_from p e ys i (suc n) (suc k) j ej l m =
      let s = step i m.1 m.0 (subst (λ (x : F). Called g x (i, tt) m.1 m.0) e m.3) in
      made_from m.0 s.1 ys (i + 1) n k j (omega arith) (omega arith) m.4

  pub made_is : (ys xs : List ℕ) (n : ℕ) → length xs ≡ n → ((i : ℕ) → i < n → h i ≡ get_or xs i 0) → IsFromFnResult g f ys n → ys ≡ xs
  made_is ys xs n l same m =
      ext_get_or 0 ys xs (m.long ∙ sym l)
      (λ i lt. let k : i < n = omega (arith, m.long) in made_from f refl ys 0 n i i (omega arith) k m.each ∙ same i k)
