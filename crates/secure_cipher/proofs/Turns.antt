-- The blocks that a loop has before it, a block a turn.
-- Assumes nothing.
use mathlib.Core.Path.{◌≡◌, refl, ap, ◌∙◌}
use mathlib.Core.List.{List, [], ◌∷◌}
use Prim.Native.Nat.{ℕ, zero, suc, ◌+◌, ◌-◌, ◌*◌, ◌≤◌, ◌<◌}
use native.Mathlib.Nat.{sub-zero}
use native.Mathlib.Omega.{arith}
use lib.ListN.{take, drop, get_or}
use lib.Seq.{drop-drop}
use Rattle.std.specs.Simd.{first_chunks}
use Rattle.laws.specs.Blocks.{cut}
use Rattle.laws.proofs.BlockLists.{cut_suc}

-- of the first n blocks of p, those from i on
abbrev pub blocks_left : List ℕ → ℕ → ℕ → List (List ℕ)
blocks_left p n i = cut (n - i) (drop (i * 16) p)

pub cut_none : (l : List ℕ) → cut 0 l ≡ []
unfolding cut
cut_none l = refl

pub left_all : (p : List ℕ) (n : ℕ) → blocks_left p n 0 ≡ cut n p
left_all p n = rw sub-zero

pub left_next : (p : List ℕ) (n i : ℕ) → i < n → blocks_left p n i ≡ take 16 (drop (i * 16) p) ∷ blocks_left p n (i + 1)
left_next p n i h =
    let a : n - i ≡ suc (n - (i + 1)) = omega arith in
    let b : (i + 1) * 16 ≡ i * 16 + 16 = omega arith in
    rw (a, b, cut_suc, drop-drop)

pub left_none : (p : List ℕ) (n i : ℕ) → n ≤ i → blocks_left p n i ≡ []
left_none p n i h = let a : n - i ≡ 0 = omega arith in rw (a, cut_none)

-- a block of a slice that is cut into arrays
pub get_or-chunks : (n i : ℕ) (l : List ℕ) → i < n → get_or (first_chunks 16 n l) i [] ≡ take 16 (drop (i * 16) l)
get_or-chunks zero i l h = absurd (omega arith)
get_or-chunks (suc n) zero l h = refl
get_or-chunks (suc n) (suc i) l h =
    let e : 16 + i * 16 ≡ suc i * 16 = omega arith in
    get_or-chunks n i (drop 16 l) (omega arith) ∙ ap (take 16) (drop-drop (i * 16) 16 l ∙ ap (λ (m : ℕ). drop m l) e)
