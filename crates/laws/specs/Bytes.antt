-- Lists of bytes: exclusive or, complement, and equality as a test.
-- Assumes nothing.
use Rattle.std.specs.Prelude.{Bool, true, false, ◌&&◌, List, [], ◌∷◌, ◌≡◌, ℕ, ◌-◌, ◌<◌, eqb, length, get_or, replicate}
use Rattle.std.specs.Int.Bits.{bit_xor}

-- each number of the list is a byte
abbrev pub Bytes : List ℕ → Type 0
Bytes s = (i : ℕ) → get_or s i 0 < 256

-- exactly n bytes
pub record Exactly (n : ℕ) (s : List ℕ) : Type 0 where
  pub size : length s ≡ n
  pub bytes : Bytes s

abbrev pub zeros : ℕ → List ℕ
zeros n = replicate n 0

-- the exclusive or of a list with another that is as long
unfoldable pub xorl : List ℕ → List ℕ → List ℕ
xorl [] b = []
xorl (x ∷ xs) [] = x ∷ xs
xorl (x ∷ xs) (y ∷ ys) = bit_xor x y ∷ xorl xs ys

-- the complement of each byte
unfoldable pub compl : List ℕ → List ℕ
compl [] = []
compl (x ∷ xs) = (255 - x) ∷ compl xs

-- whether two lists are equal
unfoldable pub eql : List ℕ → List ℕ → Bool
eql [] [] = true
eql [] (y ∷ ys) = false
eql (x ∷ xs) [] = false
eql (x ∷ xs) (y ∷ ys) = eqb x y && eql xs ys
