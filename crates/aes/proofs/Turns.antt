-- The clauses of the turns, from the first on.
-- Assumes nothing.
use mathlib.Core.Path.{◌≡◌, refl, sym, ap, ◌∙◌}
use mathlib.Core.List.{List}
use Prim.Native.Nat.{ℕ, zero, suc, ◌+◌, ◌-◌, ◌≤◌}
use native.Mathlib.Nat.{not-suc-le-zero}
use native.Mathlib.Omega.{arith}
use Rattle.aes.specs.Halves.{turns}

module _ (substituted : List ℕ → List ℕ) (mixed : List ℕ → List ℕ → List ℕ) (key : ℕ → List ℕ) (s : List ℕ) where
  pub turns-none : turns substituted mixed key 0 s ≡ s
  unfolding turns
  turns-none = refl

  pub turns-next : (r : ℕ) → 1 ≤ r → turns substituted mixed key (r + 1 - 1) s ≡ mixed (substituted (turns substituted mixed key (r - 1) s)) (key r)
  unfolding turns
  turns-next zero h = absurd (not-suc-le-zero h)
  turns-next (suc n) h =
      let now : suc n + 1 - 1 ≡ suc n = omega arith in
      let before : suc n - 1 ≡ n = omega arith in
      ap (λ (m : ℕ). turns substituted mixed key m s) now
      ∙ ap (λ (m : ℕ). mixed (substituted (turns substituted mixed key m s)) (key (suc n))) (sym before)
