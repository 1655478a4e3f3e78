-- MIXCOLUMNS and INVMIXCOLUMNS of two packed columns, from the columns turned by one byte and by two.
-- Assumes nothing.
use mathlib.Core.Path.{◌≡◌, sym, ap, ap₂, ◌∙◌}
use mathlib.Core.List.{List, map}
use Prim.Native.Nat.{ℕ, ◌<◌}
use lib.Bits.{bit_xor}
use lib.ListN.{get_or}
use Rattle.laws.specs.Bytes.{Bytes, xorl}
use Rattle.aes_field.specs.Field.{◌⊕◌, xtime}
use Rattle.aes_field.specs.Mix.{mix_byte, inv_mix_byte}
use Rattle.aes_field.specs.Packed.{packed, unpacked, columns}
use Rattle.aes_field.proofs.Sums.{⊕_assoc, ⊕_lt}
use Rattle.aes_field.proofs.Linear.{sums, products, mixed, xtime-⊕, xtime_lt, ⊕_back}
use Rattle.aes_field.proofs.Packing.{eight, eight_bytes, map-bytes, unpacked_xor, unpacked-packed, unpacked-bytes}

-- ---- a byte of each

mix_byte_lem : (a b c d : ℕ) → a < 256 → b < 256 → xtime (a ⊕ b) ⊕ b ⊕ (c ⊕ d) ≡ mix_byte a b c d
mix_byte_lem a b c d p q = sym (⊕_assoc (xtime (a ⊕ b) ⊕ b) c d) ∙ mixed a b c d p q

twice_twice_⊕ : (a b : ℕ) → a < 256 → b < 256 → xtime (xtime (a ⊕ b)) ≡ xtime (xtime a) ⊕ xtime (xtime b)
twice_twice_⊕ a b p q = ap xtime (xtime-⊕ a b p q) ∙ xtime-⊕ (xtime a) (xtime b) (xtime_lt p) (xtime_lt q)

unmix_byte : (a b c d : ℕ) → a < 256 → b < 256 → c < 256 → d < 256
    → mix_byte (a ⊕ xtime (xtime (a ⊕ c))) (b ⊕ xtime (xtime (b ⊕ d))) (c ⊕ xtime (xtime (c ⊕ a))) (d ⊕ xtime (xtime (d ⊕ b))) ≡ inv_mix_byte a b c d
unmix_byte a b c d ha hb hc hd =
    let xa : xtime a < 256 = xtime_lt ha in
    let xb : xtime b < 256 = xtime_lt hb in
    let xc : xtime c < 256 = xtime_lt hc in
    let xd : xtime d < 256 = xtime_lt hd in
    let ya : xtime (xtime a) < 256 = xtime_lt xa in
    let yb : xtime (xtime b) < 256 = xtime_lt xb in
    let yc : xtime (xtime c) < 256 = xtime_lt xc in
    let yd : xtime (xtime d) < 256 = xtime_lt xd in
    let ac : xtime (xtime (a ⊕ c)) ≡ xtime (xtime a) ⊕ xtime (xtime c) = twice_twice_⊕ a c ha hc in
    let bd : xtime (xtime (b ⊕ d)) ≡ xtime (xtime b) ⊕ xtime (xtime d) = twice_twice_⊕ b d hb hd in
    let ca : xtime (xtime (c ⊕ a)) ≡ xtime (xtime c) ⊕ xtime (xtime a) = twice_twice_⊕ c a hc ha in
    let db : xtime (xtime (d ⊕ b)) ≡ xtime (xtime d) ⊕ xtime (xtime b) = twice_twice_⊕ d b hd hb in
    (λ i. mix_byte (a ⊕ ac i) (b ⊕ bd i) (c ⊕ ca i) (d ⊕ db i))
    ∙ simp (products, ⊕_lt) (simp (sums, ⊕_back))

-- ---- two packed columns

-- F of bytes is a byte
abbrev Closed : (ℕ → ℕ → ℕ → ℕ → ℕ) → Type 0
Closed F = (a b c d : ℕ) → a < 256 → b < 256 → c < 256 → d < 256 → F a b c d < 256

columns-bytes : (F : ℕ → ℕ → ℕ → ℕ → ℕ) → Closed F → (l : List ℕ) → Bytes l → Bytes (columns F l)
unfolding columns
columns-bytes F h l b =
    let at : (p q r s : ℕ) → F (get_or l p 0) (get_or l q 0) (get_or l r 0) (get_or l s 0) < 256 =
    λ p q r s. h (get_or l p 0) (get_or l q 0) (get_or l r 0) (get_or l s 0) (b p) (b q) (b r) (b s) in
    eight_bytes (at 0 1 2 3) (at 1 2 3 0) (at 2 3 0 1) (at 3 0 1 2) (at 4 5 6 7) (at 5 6 7 4) (at 6 7 4 5) (at 7 4 5 6)

columns_same : (F G : ℕ → ℕ → ℕ → ℕ → ℕ) → ((a b c d : ℕ) → a < 256 → b < 256 → c < 256 → d < 256 → F a b c d ≡ G a b c d)
    → (l : List ℕ) → Bytes l → columns F l ≡ columns G l
unfolding columns
columns_same F G e l b =
    let at : (p q r s : ℕ) → F (get_or l p 0) (get_or l q 0) (get_or l r 0) (get_or l s 0) ≡ G (get_or l p 0) (get_or l q 0) (get_or l r 0) (get_or l s 0) =
    λ p q r s. e (get_or l p 0) (get_or l q 0) (get_or l r 0) (get_or l s 0) (b p) (b q) (b r) (b s) in
    (λ i. eight (at 0 1 2 3 i) (at 1 2 3 0 i) (at 2 3 0 1 i) (at 3 0 1 2 i) (at 4 5 6 7 i) (at 5 6 7 4 i) (at 6 7 4 5 i) (at 7 4 5 6 i))

-- the bytes of the columns of z turned, and of x times each byte of z
turned : (F : ℕ → ℕ → ℕ → ℕ → ℕ) → Closed F → (y z : ℕ) → y ≡ packed (columns F (unpacked 8 z)) → unpacked 8 y ≡ columns F (unpacked 8 z)
unfolding columns
turned F h y z e = ap (unpacked 8) e ∙ unpacked-packed (columns F (unpacked 8 z)) (columns-bytes F h (unpacked 8 z) (unpacked-bytes 8 z))

doubled : (y z : ℕ) → y ≡ packed (map xtime (unpacked 8 z)) → unpacked 8 y ≡ map xtime (unpacked 8 z)
unfolding unpacked
doubled y z e = ap (unpacked 8) e ∙ unpacked-packed (map xtime (unpacked 8 z)) (map-bytes xtime (λ a l. xtime_lt l) (unpacked 8 z) (unpacked-bytes 8 z))

module _ (x : ℕ) where
  abbrev l : List ℕ
  l = unpacked 8 x

  pub mix_two : (y z p q : ℕ) → y ≡ packed (columns (λ a b c d. b) l) → z ≡ bit_xor x y
      → p ≡ packed (map xtime (unpacked 8 z)) → q ≡ packed (columns (λ a b c d. c) (unpacked 8 z))
      → unpacked 8 (bit_xor (bit_xor p y) q) ≡ columns mix_byte l
  unfolding unpacked columns xorl ◌⊕◌
  mix_two y z p q ey ez ep eq =
      let ys : unpacked 8 y ≡ columns (λ a b c d. b) l = turned (λ a b c d. b) (λ a b c d ha hb hc hd. hb) y x ey in
      let zs : unpacked 8 z ≡ columns (λ a b c d. a ⊕ b) l = ap (unpacked 8) ez ∙ unpacked_xor 8 x y ∙ ap (xorl l) ys in
      let ps : unpacked 8 p ≡ columns (λ a b c d. xtime (a ⊕ b)) l = doubled p z ep ∙ ap (map xtime) zs in
      let qs : unpacked 8 q ≡ columns (λ a b c d. c ⊕ d) l = turned (λ a b c d. c) (λ a b c d ha hb hc hd. hc) q z eq ∙ ap (columns (λ a b c d. c)) zs in
      unpacked_xor 8 (bit_xor p y) q ∙ ap₂ xorl (unpacked_xor 8 p y ∙ ap₂ xorl ps ys) qs
      ∙ columns_same (λ a b c d. xtime (a ⊕ b) ⊕ b ⊕ (c ⊕ d)) mix_byte (λ a b c d ha hb hc hd. mix_byte_lem a b c d ha hb) l (unpacked-bytes 8 x)

  pub unmix_two : (y u v s r : ℕ) → y ≡ packed (columns (λ a b c d. c) l) → u ≡ packed (map xtime (unpacked 8 (bit_xor x y)))
      → v ≡ packed (map xtime (unpacked 8 u)) → s ≡ bit_xor x v → unpacked 8 r ≡ columns mix_byte (unpacked 8 s)
      → unpacked 8 r ≡ columns inv_mix_byte l
  unfolding unpacked columns xorl ◌⊕◌
  unmix_two y u v s r ey eu ev es er =
      let ys : unpacked 8 y ≡ columns (λ a b c d. c) l = turned (λ a b c d. c) (λ a b c d ha hb hc hd. hc) y x ey in
      let zs : unpacked 8 (bit_xor x y) ≡ columns (λ a b c d. a ⊕ c) l = unpacked_xor 8 x y ∙ ap (xorl l) ys in
      let us : unpacked 8 u ≡ columns (λ a b c d. xtime (a ⊕ c)) l = doubled u (bit_xor x y) eu ∙ ap (map xtime) zs in
      let vs : unpacked 8 v ≡ columns (λ a b c d. xtime (xtime (a ⊕ c))) l = doubled v u ev ∙ ap (map xtime) us in
      let ss : unpacked 8 s ≡ columns (λ a b c d. a ⊕ xtime (xtime (a ⊕ c))) l = ap (unpacked 8) es ∙ unpacked_xor 8 x v ∙ ap (xorl l) vs in
      er ∙ ap (columns mix_byte) ss ∙ columns_same _ inv_mix_byte unmix_byte l (unpacked-bytes 8 x)
