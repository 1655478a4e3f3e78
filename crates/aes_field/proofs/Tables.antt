-- The two tables as the code writes them: each entry follows its rule, and each table undoes the other. The rules are tested at all
-- 256 entries at once, and one law carries the test to an entry.
-- Assumes nothing.
use Prim.Native.Nat.{ℕ, ◌<◌}
use mathlib.Core.Path.{◌≡◌, refl, sym, ap, ◌∙◌}
use native.Mathlib.Nat.{zero-add}
use mathlib.Core.List.{List, [], ◌∷◌}
use mathlib.Core.Bool.{Bool, ◌&&◌}
use lib.Dec.{eqb, eqb→eq, ltb, ltb→lt, T}
use lib.ListN.{length, get_or}
use lib.Seq.{ext_get_or}
use mir.Facts.{and_yes}
use Rattle.laws.specs.Table.{table}
use Rattle.laws.proofs.Listed.{length_from_lem, get_or-from}
use Rattle.laws.proofs.Entries.{every_at, every}
use Rattle.aes_field.specs.Field.{◌⊕◌, xtime, bits_times, ◌•◌, squares, inverse}
use Rattle.aes_field.specs.Sbox.{rotl, affine, sbox, inv_affine, inv_sbox, SBOX, INVSBOX}

abbrev pub forward : List ℕ
forward =
    99 ∷ 124 ∷ 119 ∷ 123 ∷ 242 ∷ 107 ∷ 111 ∷ 197 ∷ 48 ∷ 1 ∷ 103 ∷ 43 ∷ 254 ∷ 215 ∷ 171 ∷ 118
    ∷ 202 ∷ 130 ∷ 201 ∷ 125 ∷ 250 ∷ 89 ∷ 71 ∷ 240 ∷ 173 ∷ 212 ∷ 162 ∷ 175 ∷ 156 ∷ 164 ∷ 114 ∷ 192
    ∷ 183 ∷ 253 ∷ 147 ∷ 38 ∷ 54 ∷ 63 ∷ 247 ∷ 204 ∷ 52 ∷ 165 ∷ 229 ∷ 241 ∷ 113 ∷ 216 ∷ 49 ∷ 21
    ∷ 4 ∷ 199 ∷ 35 ∷ 195 ∷ 24 ∷ 150 ∷ 5 ∷ 154 ∷ 7 ∷ 18 ∷ 128 ∷ 226 ∷ 235 ∷ 39 ∷ 178 ∷ 117
    ∷ 9 ∷ 131 ∷ 44 ∷ 26 ∷ 27 ∷ 110 ∷ 90 ∷ 160 ∷ 82 ∷ 59 ∷ 214 ∷ 179 ∷ 41 ∷ 227 ∷ 47 ∷ 132
    ∷ 83 ∷ 209 ∷ 0 ∷ 237 ∷ 32 ∷ 252 ∷ 177 ∷ 91 ∷ 106 ∷ 203 ∷ 190 ∷ 57 ∷ 74 ∷ 76 ∷ 88 ∷ 207
    ∷ 208 ∷ 239 ∷ 170 ∷ 251 ∷ 67 ∷ 77 ∷ 51 ∷ 133 ∷ 69 ∷ 249 ∷ 2 ∷ 127 ∷ 80 ∷ 60 ∷ 159 ∷ 168
    ∷ 81 ∷ 163 ∷ 64 ∷ 143 ∷ 146 ∷ 157 ∷ 56 ∷ 245 ∷ 188 ∷ 182 ∷ 218 ∷ 33 ∷ 16 ∷ 255 ∷ 243 ∷ 210
    ∷ 205 ∷ 12 ∷ 19 ∷ 236 ∷ 95 ∷ 151 ∷ 68 ∷ 23 ∷ 196 ∷ 167 ∷ 126 ∷ 61 ∷ 100 ∷ 93 ∷ 25 ∷ 115
    ∷ 96 ∷ 129 ∷ 79 ∷ 220 ∷ 34 ∷ 42 ∷ 144 ∷ 136 ∷ 70 ∷ 238 ∷ 184 ∷ 20 ∷ 222 ∷ 94 ∷ 11 ∷ 219
    ∷ 224 ∷ 50 ∷ 58 ∷ 10 ∷ 73 ∷ 6 ∷ 36 ∷ 92 ∷ 194 ∷ 211 ∷ 172 ∷ 98 ∷ 145 ∷ 149 ∷ 228 ∷ 121
    ∷ 231 ∷ 200 ∷ 55 ∷ 109 ∷ 141 ∷ 213 ∷ 78 ∷ 169 ∷ 108 ∷ 86 ∷ 244 ∷ 234 ∷ 101 ∷ 122 ∷ 174 ∷ 8
    ∷ 186 ∷ 120 ∷ 37 ∷ 46 ∷ 28 ∷ 166 ∷ 180 ∷ 198 ∷ 232 ∷ 221 ∷ 116 ∷ 31 ∷ 75 ∷ 189 ∷ 139 ∷ 138
    ∷ 112 ∷ 62 ∷ 181 ∷ 102 ∷ 72 ∷ 3 ∷ 246 ∷ 14 ∷ 97 ∷ 53 ∷ 87 ∷ 185 ∷ 134 ∷ 193 ∷ 29 ∷ 158
    ∷ 225 ∷ 248 ∷ 152 ∷ 17 ∷ 105 ∷ 217 ∷ 142 ∷ 148 ∷ 155 ∷ 30 ∷ 135 ∷ 233 ∷ 206 ∷ 85 ∷ 40 ∷ 223
    ∷ 140 ∷ 161 ∷ 137 ∷ 13 ∷ 191 ∷ 230 ∷ 66 ∷ 104 ∷ 65 ∷ 153 ∷ 45 ∷ 15 ∷ 176 ∷ 84 ∷ 187 ∷ 22 ∷ []

abbrev pub backward : List ℕ
backward =
    82 ∷ 9 ∷ 106 ∷ 213 ∷ 48 ∷ 54 ∷ 165 ∷ 56 ∷ 191 ∷ 64 ∷ 163 ∷ 158 ∷ 129 ∷ 243 ∷ 215 ∷ 251
    ∷ 124 ∷ 227 ∷ 57 ∷ 130 ∷ 155 ∷ 47 ∷ 255 ∷ 135 ∷ 52 ∷ 142 ∷ 67 ∷ 68 ∷ 196 ∷ 222 ∷ 233 ∷ 203
    ∷ 84 ∷ 123 ∷ 148 ∷ 50 ∷ 166 ∷ 194 ∷ 35 ∷ 61 ∷ 238 ∷ 76 ∷ 149 ∷ 11 ∷ 66 ∷ 250 ∷ 195 ∷ 78
    ∷ 8 ∷ 46 ∷ 161 ∷ 102 ∷ 40 ∷ 217 ∷ 36 ∷ 178 ∷ 118 ∷ 91 ∷ 162 ∷ 73 ∷ 109 ∷ 139 ∷ 209 ∷ 37
    ∷ 114 ∷ 248 ∷ 246 ∷ 100 ∷ 134 ∷ 104 ∷ 152 ∷ 22 ∷ 212 ∷ 164 ∷ 92 ∷ 204 ∷ 93 ∷ 101 ∷ 182 ∷ 146
    ∷ 108 ∷ 112 ∷ 72 ∷ 80 ∷ 253 ∷ 237 ∷ 185 ∷ 218 ∷ 94 ∷ 21 ∷ 70 ∷ 87 ∷ 167 ∷ 141 ∷ 157 ∷ 132
    ∷ 144 ∷ 216 ∷ 171 ∷ 0 ∷ 140 ∷ 188 ∷ 211 ∷ 10 ∷ 247 ∷ 228 ∷ 88 ∷ 5 ∷ 184 ∷ 179 ∷ 69 ∷ 6
    ∷ 208 ∷ 44 ∷ 30 ∷ 143 ∷ 202 ∷ 63 ∷ 15 ∷ 2 ∷ 193 ∷ 175 ∷ 189 ∷ 3 ∷ 1 ∷ 19 ∷ 138 ∷ 107
    ∷ 58 ∷ 145 ∷ 17 ∷ 65 ∷ 79 ∷ 103 ∷ 220 ∷ 234 ∷ 151 ∷ 242 ∷ 207 ∷ 206 ∷ 240 ∷ 180 ∷ 230 ∷ 115
    ∷ 150 ∷ 172 ∷ 116 ∷ 34 ∷ 231 ∷ 173 ∷ 53 ∷ 133 ∷ 226 ∷ 249 ∷ 55 ∷ 232 ∷ 28 ∷ 117 ∷ 223 ∷ 110
    ∷ 71 ∷ 241 ∷ 26 ∷ 113 ∷ 29 ∷ 41 ∷ 197 ∷ 137 ∷ 111 ∷ 183 ∷ 98 ∷ 14 ∷ 170 ∷ 24 ∷ 190 ∷ 27
    ∷ 252 ∷ 86 ∷ 62 ∷ 75 ∷ 198 ∷ 210 ∷ 121 ∷ 32 ∷ 154 ∷ 219 ∷ 192 ∷ 254 ∷ 120 ∷ 205 ∷ 90 ∷ 244
    ∷ 31 ∷ 221 ∷ 168 ∷ 51 ∷ 136 ∷ 7 ∷ 199 ∷ 49 ∷ 177 ∷ 18 ∷ 16 ∷ 89 ∷ 39 ∷ 128 ∷ 236 ∷ 95
    ∷ 96 ∷ 81 ∷ 127 ∷ 169 ∷ 25 ∷ 181 ∷ 74 ∷ 13 ∷ 45 ∷ 229 ∷ 122 ∷ 159 ∷ 147 ∷ 201 ∷ 156 ∷ 239
    ∷ 160 ∷ 224 ∷ 59 ∷ 77 ∷ 174 ∷ 42 ∷ 245 ∷ 176 ∷ 200 ∷ 235 ∷ 187 ∷ 60 ∷ 131 ∷ 83 ∷ 153 ∷ 97
    ∷ 23 ∷ 43 ∷ 4 ∷ 126 ∷ 186 ∷ 119 ∷ 214 ∷ 38 ∷ 225 ∷ 105 ∷ 20 ∷ 99 ∷ 85 ∷ 33 ∷ 12 ∷ 125 ∷ []

-- ---- the rules

abbrev follows : (ℕ → ℕ) → ℕ → ℕ → Bool
follows f k x = eqb x (f k)

forward_all : T (every (follows sbox) 0 forward)
unfolding ◌⊕◌ xtime bits_times ◌•◌ squares inverse rotl affine sbox
forward_all = tt

backward_all : T (every (follows inv_sbox) 0 backward)
unfolding ◌⊕◌ xtime bits_times ◌•◌ squares inverse rotl inv_affine inv_sbox
backward_all = tt

-- ---- a table of a function

length-table : (f : ℕ → ℕ) → length (table f) ≡ 256
unfolding table
length-table f = length_from_lem f 0 256

look : (f : ℕ → ℕ) (k : ℕ) → k < 256 → get_or (table f) k 0 ≡ f k
unfolding table
look f k h = get_or-from f 0 256 k h ∙ ap f (zero-add k)

tabled : (f : ℕ → ℕ) (l : List ℕ) → length l ≡ 256 → T (every (follows f) 0 l) → l ≡ table f
tabled f l e t =
    ext_get_or 0 l (table f) (e ∙ sym (length-table f)) (λ k lt. eqb→eq (get_or l k 0) (f k) (every_at (follows f) l t k lt) ∙ sym (look f k (rw (← e) lt)))

pub forward_table : forward ≡ SBOX
unfolding SBOX
forward_table = tabled sbox forward refl forward_all

pub backward_table : backward ≡ INVSBOX
unfolding INVSBOX
backward_table = tabled inv_sbox backward refl backward_all

-- an entry of either table
pub SBOX-at : (k : ℕ) → k < 256 → get_or SBOX k 0 ≡ sbox k
unfolding SBOX
SBOX-at k h = look sbox k h

pub INVSBOX-at : (k : ℕ) → k < 256 → get_or INVSBOX k 0 ≡ inv_sbox k
unfolding INVSBOX
INVSBOX-at k h = look inv_sbox k h

-- ---- each table undoes the other, and their entries are bytes

abbrev undoes : List ℕ → ℕ → ℕ → Bool
undoes l k x = ltb x 256 && eqb (get_or l x 0) k

forward_undone : T (every (undoes backward) 0 forward)
forward_undone = tt

backward_undone : T (every (undoes forward) 0 backward)
backward_undone = tt

-- what the test says of an entry
entry : (l m : List ℕ) → T (every (undoes m) 0 l) → (k : ℕ) → k < length l → (get_or l k 0 < 256) × (get_or m (get_or l k 0) 0 ≡ k)
entry l m t k h =
    let x = get_or l k 0 in
    let hold = and_yes (ltb x 256) (eqb (get_or m x 0) k) (every_at (undoes m) l t k h) in
    (ltb→lt x 256 hold.0, eqb→eq (get_or m x 0) k hold.1)

module _ (k : ℕ) (h : k < 256) where
  pub SBOX-lt : get_or SBOX k 0 < 256
  SBOX-lt = rw (← forward_table) (entry forward backward forward_undone k h).0

  pub INVSBOX-lt : get_or INVSBOX k 0 < 256
  INVSBOX-lt = rw (← backward_table) (entry backward forward backward_undone k h).0

  pub SBOX-undone : get_or INVSBOX (get_or SBOX k 0) 0 ≡ k
  SBOX-undone = rw (← forward_table, ← backward_table) (entry forward backward forward_undone k h).1

  pub INVSBOX-undone : get_or SBOX (get_or INVSBOX k 0) 0 ≡ k
  INVSBOX-undone = rw (← forward_table, ← backward_table) (entry backward forward backward_undone k h).1
