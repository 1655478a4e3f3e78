-- Bytes held in one number, the first of them lowest: how the code holds two columns of the state at a time. FIPS 197 has nothing
-- of this. The promises of `pack`, `mix` and `unmix` speak of it, which `aes` calls; no promise of `aes` to its callers does.
-- Assumes nothing.
use Rattle.std.specs.Prelude.{List, [], ◌∷◌, ℕ, zero, suc, ◌+◌, ◌*◌, ◌/◌, ◌%◌, get_or}

unfoldable pub packed : List ℕ → ℕ
packed [] = 0
packed (b ∷ bs) = packed bs * 256 + b

-- the n lowest bytes of x
unfoldable pub unpacked : ℕ → ℕ → List ℕ
unpacked zero x = []
unpacked (suc n) x = x % 256 ∷ unpacked n (x / 256)

-- F of each byte of two columns and of the three bytes below it in its column, the first after the last
unfoldable pub columns : (ℕ → ℕ → ℕ → ℕ → ℕ) → List ℕ → List ℕ
columns F l =
    let g : ℕ → ℕ = λ i. get_or l i 0 in
    F (g 0) (g 1) (g 2) (g 3) ∷ F (g 1) (g 2) (g 3) (g 0) ∷ F (g 2) (g 3) (g 0) (g 1) ∷ F (g 3) (g 0) (g 1) (g 2)
    ∷ F (g 4) (g 5) (g 6) (g 7) ∷ F (g 5) (g 6) (g 7) (g 4) ∷ F (g 6) (g 7) (g 4) (g 5) ∷ F (g 7) (g 4) (g 5) (g 6) ∷ []

-- of a byte and the three below it, the one k rows below
abbrev pub row : ℕ → ℕ → ℕ → ℕ → ℕ → ℕ
row zero a b c d = a
row (suc zero) a b c d = b
row (suc (suc k)) a b c d = c
