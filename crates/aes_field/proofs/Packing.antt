-- Packed bytes: what is done to the whole number is done to each byte, as long as no byte reaches into the next.
-- Assumes nothing.
use mathlib.Core.Path.{◌≡◌, refl, sym, ap, ap₂, ◌∙◌}
use mathlib.Core.List.{List, [], ◌∷◌, map}
use Prim.Native.Nat.{ℕ, zero, suc, ◌+◌, ◌-◌, ◌*◌, ◌/◌, ◌%◌, ◌^◌, ◌<◌}
use native.Mathlib.Nat.{pow-suc, div-one, div-div-eq-div-mul, add-mul, mul_right_comm, mod-lt}
use native.Mathlib.Omega.{arith}
use lib.Dec.{lit<}
use lib.Bits.{bit_and, bit_xor, and_block, xor_block, and_mask, and_high, and_le_r, and_zero_r, xor_zero_r, xor_mod, xor_shr}
use lib.ListN.{length, get_or, replicate}
use Rattle.std.specs.Int.{w64, to_le_bytes}
use Rattle.std.proofs.Common.{◌⊎◌, inl, inr}
use Rattle.laws.specs.Bytes.{Bytes, xorl}
use Rattle.laws.proofs.ByteLists.{bytes_nil, bytes_cons, bytes-replicate}
use Rattle.laws.proofs.Xor.{bit_ind}
use Rattle.aes_field.specs.Field.{◌⊕◌, xtime}
use Rattle.aes_field.specs.Packed.{packed, unpacked, columns, row}

-- ---- packing and unpacking

abbrev pub eight : ℕ → ℕ → ℕ → ℕ → ℕ → ℕ → ℕ → ℕ → List ℕ
eight a b c d e f g h = a ∷ b ∷ c ∷ d ∷ e ∷ f ∷ g ∷ h ∷ []

pub eight_bytes : {a b c d e f g h : ℕ} → a < 256 → b < 256 → c < 256 → d < 256 → e < 256 → f < 256 → g < 256 → h < 256 → Bytes (eight a b c d e f g h)
eight_bytes {a} {b} {c} {d} {e} {f} {g} {h} p q r s t u v w =
    bytes_cons a (b ∷ c ∷ d ∷ e ∷ f ∷ g ∷ h ∷ []) p (bytes_cons b (c ∷ d ∷ e ∷ f ∷ g ∷ h ∷ []) q (bytes_cons c (d ∷ e ∷ f ∷ g ∷ h ∷ []) r
    (bytes_cons d (e ∷ f ∷ g ∷ h ∷ []) s (bytes_cons e (f ∷ g ∷ h ∷ []) t (bytes_cons f (g ∷ h ∷ []) u (bytes_cons g (h ∷ []) v (bytes_cons h [] w bytes_nil)))))))

pub unpacked-bytes : (n x : ℕ) → Bytes (unpacked n x)
unfolding unpacked
unpacked-bytes zero x = bytes_nil
unpacked-bytes (suc n) x = bytes_cons (x % 256) (unpacked n (x / 256)) (mod-lt x (lit< tt)) (unpacked-bytes n (x / 256))

pub packed-unpacked : (n x : ℕ) → x < 256 ^ n → packed (unpacked n x) ≡ x
unfolding packed unpacked
packed-unpacked zero x h = omega arith
packed-unpacked (suc n) x h = omega (arith, packed-unpacked n (x / 256) (omega arith))

pub unpacked-packed : (l : List ℕ) → Bytes l → unpacked (length l) (packed l) ≡ l
unfolding packed unpacked
unpacked-packed [] b = refl
unpacked-packed (x ∷ l) b =
    let h : x < 256 = b 0 in
    let low : (packed l * 256 + x) % 256 ≡ x = omega arith in
    let high : (packed l * 256 + x) / 256 ≡ packed l = omega arith in
    ap₂ (λ (y : ℕ) (m : List ℕ). y ∷ m) low (ap (unpacked (length l)) high ∙ unpacked-packed l (λ i. b (suc i)))

-- the bytes of a sum
pub unpacked_xor : (n x y : ℕ) → unpacked n (bit_xor x y) ≡ xorl (unpacked n x) (unpacked n y)
unfolding unpacked xorl
unpacked_xor zero x y = refl
unpacked_xor (suc n) x y =
    ap₂ (λ (b : ℕ) (l : List ℕ). b ∷ l) (xor_mod x y 8) (ap (unpacked n) (xor_shr x y 8) ∙ unpacked_xor n (x / 256) (y / 256))

-- eight bytes, each at its place
pub placed : (a b c d e f g h : ℕ) → a < 256 → b < 256 → c < 256 → d < 256 → e < 256 → f < 256 → g < 256 → h < 256 → (x : ℕ)
    → x ≡ packed (a ∷ b ∷ c ∷ d ∷ e ∷ f ∷ g ∷ h ∷ []) → unpacked 8 x ≡ a ∷ b ∷ c ∷ d ∷ e ∷ f ∷ g ∷ h ∷ []
placed a b c d e f g h p q r s t u v w x e₀ = ap (unpacked 8) e₀ ∙ unpacked-packed (eight a b c d e f g h) (eight_bytes p q r s t u v w)

-- ---- operations on each byte

abbrev pub zip : (ℕ → ℕ → ℕ) → List ℕ → List ℕ → List ℕ
zip f [] m = []
zip f (x ∷ l) [] = []
zip f (x ∷ l) (y ∷ m) = f x y ∷ zip f l m

-- an operation that keeps to the bytes of a number
packed_each : (f : ℕ → ℕ → ℕ) → f 0 0 ≡ 0 → ((p q x y : ℕ) → x < 256 → y < 256 → f (p * 256 + x) (q * 256 + y) ≡ f p q * 256 + f x y)
    → (l m : List ℕ) → length l ≡ length m → Bytes l → Bytes m → f (packed l) (packed m) ≡ packed (zip f l m)
unfolding packed
packed_each f z h [] [] e b c = z
packed_each f z h [] (y ∷ m) e b c = absurd (omega arith)
packed_each f z h (x ∷ l) [] e b c = absurd (omega arith)
packed_each f z h (x ∷ l) (y ∷ m) e b c =
    h (packed l) (packed m) x y (b 0) (c 0)
    ∙ ap (λ (n : ℕ). n * 256 + f x y) (packed_each f z h l m (omega arith) (λ i. b (suc i)) (λ i. c (suc i)))

pub packed_and : (l m : List ℕ) → length l ≡ length m → Bytes l → Bytes m → bit_and (packed l) (packed m) ≡ packed (zip bit_and l m)
packed_and = packed_each bit_and refl (and_block 8)

pub packed_xor : (l m : List ℕ) → length l ≡ length m → Bytes l → Bytes m → bit_xor (packed l) (packed m) ≡ packed (zip bit_xor l m)
packed_xor = packed_each bit_xor refl (xor_block 8)

packed_times : (f : ℕ → ℕ) (k : ℕ) (l : List ℕ) → packed (map (λ a. f a * k) l) ≡ packed (map f l) * k
unfolding packed
packed_times f k [] = omega arith
packed_times f k (x ∷ l) =
    ap (λ (z : ℕ). z * 256 + f x * k) (packed_times f k l)
    ∙ ap (λ (z : ℕ). z + f x * k) (mul_right_comm (packed (map f l)) k 256)
    ∙ sym (add-mul (packed (map f l) * 256) (f x) k)

packed_same : (f g : ℕ → ℕ) → ((a : ℕ) → a < 256 → f a ≡ g a) → (l : List ℕ) → Bytes l → packed (map f l) ≡ packed (map g l)
unfolding packed
packed_same f g e [] b = refl
packed_same f g e (x ∷ l) b = ap₂ (λ (z y : ℕ). z * 256 + y) (packed_same f g e l (λ i. b (suc i))) (e x (b 0))

pub map-bytes : (f : ℕ → ℕ) → ((a : ℕ) → a < 256 → f a < 256) → (l : List ℕ) → Bytes l → Bytes (map f l)
map-bytes f h [] b = bytes_nil
map-bytes f h (x ∷ l) b = bytes_cons (f x) (map f l) (h x (b 0)) (map-bytes f h l (λ i. b (suc i)))

-- ---- x times each byte

abbrev low7 : ℕ → ℕ
low7 a = a % 128

abbrev top : ℕ → ℕ
top a = a / 128 % 2

top_mask : (b : ℕ) → b < 2 → bit_and (b * 127) 27 ≡ b * 27
top_mask = bit_ind (λ b. bit_and (b * 127) 27 ≡ b * 27) refl refl

xtime_halves : (a : ℕ) → a < 256 → bit_xor (a % 128 * 2) (top a * 27) ≡ xtime a
unfolding ◌⊕◌ xtime
xtime_halves a l =
    let p : a % 128 * 2 ≡ a * 2 % 256 = omega arith in
    let q : top a * 27 ≡ a / 128 * 27 = omega arith in
    ap₂ bit_xor p q

-- a byte under the mask 255
keep : (y : ℕ) → bit_and (y % 256) 255 ≡ y % 256
keep y = let e : y % 256 % 256 ≡ y % 256 = omega arith in and_mask (y % 256) 8 ∙ e

-- eight bytes, moved up by three places and by two
up3 : (a e : ℕ) → a < 256 → e < 256
    → packed (a ∷ 0 ∷ 0 ∷ 0 ∷ e ∷ 0 ∷ 0 ∷ 0 ∷ []) * 2 ^ 24 % 2 ^ 64 ≡ packed (0 ∷ 0 ∷ 0 ∷ a ∷ 0 ∷ 0 ∷ 0 ∷ e ∷ [])
unfolding packed
up3 a e p q = omega arith

up2 : (a b e f : ℕ) → a < 256 → b < 256 → e < 256 → f < 256
    → packed (a ∷ b ∷ 0 ∷ 0 ∷ e ∷ f ∷ 0 ∷ 0 ∷ []) * 2 ^ 16 % 2 ^ 64 ≡ packed (0 ∷ 0 ∷ a ∷ b ∷ 0 ∷ 0 ∷ e ∷ f ∷ [])
unfolding packed
up2 a b e f p q r s = omega arith

ff_byte : 255 < 256
ff_byte = lit< tt

pub empty : 0 < 256
empty = lit< tt

pub byte : (y : ℕ) → y % 256 < 256
byte y = mod-lt y (lit< tt)

-- x without its i lowest bytes
abbrev pub drop_bytes : ℕ → ℕ → ℕ
drop_bytes x zero = x
drop_bytes x (suc i) = drop_bytes x i / 256

-- the same by one shift
pub drop-bytes_is : (x i : ℕ) → x / 256 ^ i ≡ drop_bytes x i
drop-bytes_is x zero = div-one x
drop-bytes_is x (suc i) = ap (λ (n : ℕ). x / n) (pow-suc 256 i) ∙ sym (div-div-eq-div-mul x (256 ^ i) 256) ∙ ap (λ (y : ℕ). y / 256) (drop-bytes_is x i)

-- a byte, and what a table has for it
pub byte_at : (x i : ℕ) → x / 256 ^ i % 256 ≡ drop_bytes x i % 256
byte_at x i = ap (λ (z : ℕ). z % 256) (drop-bytes_is x i)

-- the bytes of a number as std has them
pub le_bytes_unpacked : (x : ℕ) → to_le_bytes w64 x ≡ unpacked 8 x
unfolding unpacked
le_bytes_unpacked x =
    λ i. x % 256 ∷ byte_at x 1 i ∷ byte_at x 2 i ∷ byte_at x 3 i ∷ byte_at x 4 i ∷ byte_at x 5 i ∷ byte_at x 6 i ∷ byte_at x 7 i ∷ []

pub entry_at : (t : List ℕ) (x i : ℕ) → get_or t (x / 256 ^ i % 256) 0 ≡ get_or t (drop_bytes x i % 256) 0
entry_at t x i = ap (λ (z : ℕ). get_or t z 0) (byte_at x i)

-- the bytes of a number under a mask
under : (y : ℕ) (m : List ℕ) → y < 2 ^ 64 → length m ≡ 8 → Bytes m → bit_and y (packed m) ≡ packed (zip bit_and (unpacked 8 y) m)
unfolding unpacked
under y m h e b = ap (λ (z : ℕ). bit_and z (packed m)) (sym (packed-unpacked 8 y h)) ∙ packed_and (unpacked 8 y) m (sym e) (unpacked-bytes 8 y) b

module _ (x : ℕ) (h : x < 2 ^ 64) where
  abbrev g : ℕ → ℕ
  g i = drop_bytes x i

  -- under a mask that is the same for each byte
  masked : (k m : ℕ) → k < 256 → packed (replicate 8 k) ≡ m → bit_and x m ≡ packed (map (λ a. bit_and a k) (unpacked 8 x))
  unfolding unpacked
  masked k m l e = ap (bit_and x) (sym e) ∙ under x (replicate 8 k) h refl (bytes-replicate 8 k l)

  low_bits : bit_and x 0x7f7f7f7f7f7f7f7f * 2 ≡ packed (map (λ a. a % 128 * 2) (unpacked 8 x))
  unfolding packed
  low_bits =
      ap (λ (y : ℕ). y * 2)
      (masked 127 0x7f7f7f7f7f7f7f7f (lit< tt) refl ∙ packed_same (λ a. bit_and a 127) low7 (λ a l. and_mask a 7) (unpacked 8 x) (unpacked-bytes 8 x))
      ∙ sym (packed_times low7 2 (unpacked 8 x))

  top-bits : bit_and x 0x8080808080808080 ≡ packed (map top (unpacked 8 x)) * 128
  unfolding packed
  top-bits =
      masked 128 0x8080808080808080 (lit< tt) refl
      ∙ packed_same (λ a. bit_and a 128) (λ a. top a * 128) (λ a l. and_high a 1 7) (unpacked 8 x) (unpacked-bytes 8 x)
      ∙ packed_times top 128 (unpacked 8 x)

  spread : bit_and x 0x8080808080808080 - bit_and x 0x8080808080808080 / 128 ≡ packed (map (λ a. top a * 127) (unpacked 8 x))
  spread =
      let p = packed (map top (unpacked 8 x)) in
      let e : p * 128 - p * 128 / 128 ≡ p * 127 = omega arith in
      ap (λ (y : ℕ). y - y / 128) top-bits ∙ e ∙ sym (packed_times top 127 (unpacked 8 x))

  reduced : bit_and (bit_and x 0x8080808080808080 - bit_and x 0x8080808080808080 / 128) 0x1b1b1b1b1b1b1b1b
      ≡ packed (map (λ a. top a * 27) (unpacked 8 x))
  unfolding packed unpacked
  reduced =
      ap (λ (y : ℕ). bit_and y 0x1b1b1b1b1b1b1b1b) spread
      ∙ packed_and (map (λ a. top a * 127) (unpacked 8 x)) (replicate 8 27) refl
      (map-bytes (λ a. top a * 127) (λ a l. omega arith) (unpacked 8 x) (unpacked-bytes 8 x)) (bytes-replicate 8 27 (lit< tt))
      ∙ packed_same (λ a. bit_and (top a * 127) 27) (λ a. top a * 27) (λ a l. top_mask (top a) (mod-lt (a / 128) (lit< tt))) (unpacked 8 x) (unpacked-bytes 8 x)

  -- x times each of eight bytes
  pub twice_each : bit_xor (bit_and x 0x7f7f7f7f7f7f7f7f * 2 % 2 ^ 64) (bit_and (bit_and x 0x8080808080808080 - bit_and x 0x8080808080808080 / 128) 0x1b1b1b1b1b1b1b1b)
      ≡ packed (map xtime (unpacked 8 x))
  unfolding unpacked ◌⊕◌ xtime
  twice_each =
      let small : bit_and x 0x7f7f7f7f7f7f7f7f * 2 % 2 ^ 64 ≡ bit_and x 0x7f7f7f7f7f7f7f7f * 2 = omega (arith, and_le_r x 0x7f7f7f7f7f7f7f7f) in
      ap₂ bit_xor (small ∙ low_bits) reduced
      ∙ packed_xor (map (λ a. a % 128 * 2) (unpacked 8 x)) (map (λ a. top a * 27) (unpacked 8 x)) refl
      (map-bytes (λ a. a % 128 * 2) (λ a l. omega arith) (unpacked 8 x) (unpacked-bytes 8 x))
      (map-bytes (λ a. top a * 27) (λ a l. omega arith) (unpacked 8 x) (unpacked-bytes 8 x))
      ∙ packed_same (λ a. bit_xor (a % 128 * 2) (top a * 27)) xtime xtime_halves (unpacked 8 x) (unpacked-bytes 8 x)

  -- each byte replaced by the one below it in its column
  pub turn_one : bit_xor (bit_and (x / 256) 0x00ffffff00ffffff) (bit_and x 0x000000ff000000ff * 2 ^ 24 % 2 ^ 64)
      ≡ packed (columns (λ a b c d. b) (unpacked 8 x))
  unfolding packed unpacked columns
  turn_one =
      let lower : bit_and (x / 256) 0x00ffffff00ffffff ≡ packed (eight (g 1 % 256) (g 2 % 256) (g 3 % 256) 0 (g 5 % 256) (g 6 % 256) (g 7 % 256) 0) =
      under (x / 256) (eight 255 255 255 0 255 255 255 0) (omega arith) refl (eight_bytes ff_byte ff_byte ff_byte empty ff_byte ff_byte ff_byte empty) ∙ simp (keep, and_zero_r) in
      let upper : bit_and x 0x000000ff000000ff * 2 ^ 24 % 2 ^ 64 ≡ packed (eight 0 0 0 (g 0 % 256) 0 0 0 (g 4 % 256)) =
      ap (λ (y : ℕ). y * 2 ^ 24 % 2 ^ 64)
      (under x (eight 255 0 0 0 255 0 0 0) h refl (eight_bytes ff_byte empty empty empty ff_byte empty empty empty) ∙ simp (keep, and_zero_r))
      ∙ up3 (g 0 % 256) (g 4 % 256) (byte (g 0)) (byte (g 4)) in
      ap₂ bit_xor lower upper
      ∙ packed_xor (eight (g 1 % 256) (g 2 % 256) (g 3 % 256) 0 (g 5 % 256) (g 6 % 256) (g 7 % 256) 0) (eight 0 0 0 (g 0 % 256) 0 0 0 (g 4 % 256)) refl
      (eight_bytes (byte (g 1)) (byte (g 2)) (byte (g 3)) empty (byte (g 5)) (byte (g 6)) (byte (g 7)) empty)
      (eight_bytes empty empty empty (byte (g 0)) empty empty empty (byte (g 4)))
      ∙ simp xor_zero_r

  -- each byte replaced by the one two below it
  pub turn_two : bit_xor (bit_and (x / 65536) 0x0000ffff0000ffff) (bit_and x 0x0000ffff0000ffff * 2 ^ 16 % 2 ^ 64)
      ≡ packed (columns (λ a b c d. c) (unpacked 8 x))
  unfolding packed unpacked columns
  turn_two =
      let two : x / 65536 ≡ x / 256 / 256 = omega arith in
      let lower : bit_and (x / 65536) 0x0000ffff0000ffff ≡ packed (eight (g 2 % 256) (g 3 % 256) 0 0 (g 6 % 256) (g 7 % 256) 0 0) =
      ap (λ (y : ℕ). bit_and y 0x0000ffff0000ffff) two
      ∙ under (x / 256 / 256) (eight 255 255 0 0 255 255 0 0) (omega arith) refl (eight_bytes ff_byte ff_byte empty empty ff_byte ff_byte empty empty) ∙ simp (keep, and_zero_r) in
      let upper : bit_and x 0x0000ffff0000ffff * 2 ^ 16 % 2 ^ 64 ≡ packed (eight 0 0 (g 0 % 256) (g 1 % 256) 0 0 (g 4 % 256) (g 5 % 256)) =
      ap (λ (y : ℕ). y * 2 ^ 16 % 2 ^ 64)
      (under x (eight 255 255 0 0 255 255 0 0) h refl (eight_bytes ff_byte ff_byte empty empty ff_byte ff_byte empty empty) ∙ simp (keep, and_zero_r))
      ∙ up2 (g 0 % 256) (g 1 % 256) (g 4 % 256) (g 5 % 256) (byte (g 0)) (byte (g 1)) (byte (g 4)) (byte (g 5)) in
      ap₂ bit_xor lower upper
      ∙ packed_xor (eight (g 2 % 256) (g 3 % 256) 0 0 (g 6 % 256) (g 7 % 256) 0 0) (eight 0 0 (g 0 % 256) (g 1 % 256) 0 0 (g 4 % 256) (g 5 % 256)) refl
      (eight_bytes (byte (g 2)) (byte (g 3)) empty empty (byte (g 6)) (byte (g 7)) empty empty)
      (eight_bytes empty empty (byte (g 0)) (byte (g 1)) empty empty (byte (g 4)) (byte (g 5)))
      ∙ simp xor_zero_r

  -- each byte replaced by the one k below it
  pub turned : (k : ℕ) → (k ≡ 1) ⊎ (k ≡ 2)
      → bit_xor (bit_and (x / 2 ^ (8 * k)) (0xffffffff / 2 ^ (8 * k) * 0x0000000100000001))
      (bit_and x (0xffffffffffffffff - 0xffffffff / 2 ^ (8 * k) * 0x0000000100000001 * 2 ^ (8 * k) % 2 ^ 64) * 2 ^ (32 - 8 * k) % 2 ^ 64)
      ≡ packed (columns (row k) (unpacked 8 x))
  turned k (inl e) = rw e turn_one
  turned k (inr e) = rw e turn_two
