-- The state, or a round key, as two halves of two columns each, as the code holds it, and the ten rounds that both directions are.
-- FIPS 197 has nothing of this; specs/Whole shows that the ten rounds are CIPHER and INVCIPHER, and proofs/KeyHalves that two halves
-- are the next round key.
-- Assumes nothing.
use Rattle.std.specs.Prelude.{List, [], ◌∷◌, ◌++◌, ℕ, zero, suc, ◌+◌, ◌*◌, get_or, flat_map}
use Rattle.laws.specs.Table.{block_of}
use Rattle.aes_field.specs.Field.{◌⊕◌}
use Rattle.aes_field.specs.Packed.{unpacked}
use Rattle.aes.specs.declared.round.Halves.{Halves}

-- the sixteen bytes of two halves
abbrev pub halves_bytes : Halves → List ℕ
halves_bytes s = unpacked 8 s.first ++ unpacked 8 s.second

-- the bytes of round keys, one after the other
abbrev pub schedule_of : List Halves → List ℕ
schedule_of keys = flat_map halves_bytes keys

-- a half of SUBBYTES and of the shifted rows, with the table t: rows 0 and 2 come from l and m, rows 1 and 3 from p and q
unfoldable pub rows_shifted : List ℕ → List ℕ → List ℕ → List ℕ → List ℕ → List ℕ
rows_shifted t l m p q =
    let entry : List ℕ → ℕ → ℕ = λ half i. get_or t (get_or half i 0) 0 in
    entry l 0 ∷ entry p 5 ∷ entry m 2 ∷ entry q 7 ∷ entry l 4 ∷ entry q 1 ∷ entry m 6 ∷ entry p 3 ∷ []

-- the sum of two blocks
unfoldable pub added : List ℕ → List ℕ → List ℕ
added s k = block_of (λ i. get_or s i 0 ⊕ get_or k i 0)

-- the words w[4 r] to w[4 r + 3] of the key schedule
unfoldable pub round_key : List ℕ → ℕ → List ℕ
round_key w r = block_of (λ i. get_or w (16 * r + i) 0)

-- n turns of a state, each substituted, and mixed with its round key
unfoldable pub turns : (List ℕ → List ℕ) → (List ℕ → List ℕ → List ℕ) → (ℕ → List ℕ) → ℕ → List ℕ → List ℕ
turns substituted mixed key zero s = s
turns substituted mixed key (suc n) s = mixed (substituted (turns substituted mixed key n s)) (key (suc n))

-- ten rounds of a block, of which the last mixes no columns
unfoldable pub ten_rounds : (List ℕ → List ℕ) → (List ℕ → List ℕ → List ℕ) → (ℕ → List ℕ) → List ℕ → List ℕ
ten_rounds substituted mixed key b = added (substituted (turns substituted mixed key 9 (added b (key 0)))) (key 10)

-- what is added to the first word of a round key to make the next one's: m is its second half, c the round's constant
unfoldable pub key_turn : List ℕ → ℕ → List ℕ → List ℕ
key_turn t c m =
    let q : ℕ → ℕ = λ i. get_or t (get_or m i 0) 0 in
    q 5 ⊕ c ∷ q 6 ∷ q 7 ∷ q 4 ∷ 0 ∷ 0 ∷ 0 ∷ 0 ∷ []

-- the sum of l and m, and its first column added to its second
unfoldable pub carry : List ℕ → List ℕ → List ℕ
carry l m =
    let s : ℕ → ℕ = λ i. get_or l i 0 ⊕ get_or m i 0 in
    s 0 ∷ s 1 ∷ s 2 ∷ s 3 ∷ s 4 ⊕ s 0 ∷ s 5 ⊕ s 1 ∷ s 6 ⊕ s 2 ∷ s 7 ⊕ s 3 ∷ []
