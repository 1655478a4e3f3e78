-- Blocks of sixteen bytes.
-- Assumes nothing.
use Rattle.std.specs.Prelude.{List, [], ◌∷◌, ◌++◌, ℕ, zero, suc, ◌/◌, length, take, drop}
use Rattle.laws.specs.Bytes.{Exactly}

-- sixteen bytes: a key, a block, a chain value
abbrev pub Block : List ℕ → Type 0
Block b = Exactly 16 b

-- each list is a block
abbrev pub Blocks : List (List ℕ) → Type 0
Blocks [] = Unit {0}
Blocks (b ∷ bs) = Block b × Blocks bs

-- the first n blocks of a list
unfoldable pub cut : ℕ → List ℕ → List (List ℕ)
cut zero l = []
cut (suc n) l = take 16 l ∷ cut n (drop 16 l)

-- every whole block of a list
unfoldable pub blocks : List ℕ → List (List ℕ)
blocks l = cut (length l / 16) l

-- blocks, joined
unfoldable pub flat : List (List ℕ) → List ℕ
flat [] = []
flat (b ∷ bs) = b ++ flat bs
