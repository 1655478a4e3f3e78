-- The tests of building, one after the other: what each leaves to the next, and what they hand on.
-- Assumes nothing.
use mathlib.Core.Path.{◌≡◌, refl, sym, ap, ◌∙◌}
use mathlib.Core.Bool.{Bool, true, false, not, beq}
use mathlib.Core.List.{[], ◌∷◌}
use Prim.Native.Nat.{ℕ, ◌≤◌, ◌<◌}
use native.Mathlib.Omega.{arith}
use native.Mathlib.Decide.{dec_lt}
use borrow.Author.Tests.{le-ltb, lt-ltb, eq-eqb, ne_eqb}
use Rattle.laws.specs.Answer.{Answer, Answer.given, Answer.refused, refuse_if, and_then}
use Rattle.laws.proofs.Answers.{given_inj, given-refused}
use Rattle.refusal.specs.Paper.{refusal_of}
use Rattle.refusal.specs.declared.Refusal.{Refusal}
use Rattle.packet_head.specs.Header.{Control, ctrl_byte, encode_of}
use Rattle.packet_head.specs.Trailer.{mac_len_of}
use Rattle.packet_build.specs.Build.{differ, FrameSizes, test_of, total_len}
use Rattle.packet_build.specs.Tested.{with_ctrl}

-- ---- the control byte, encoded first

pub encode_fine : (c : Control) → c.sqn ≤ 3 → encode_of c ≡ given (ctrl_byte c)
unfolding encode_of refuse_if
encode_fine c h = rw (le-ltb _ _ h)

pub encode_over : (c : Control) → 3 < c.sqn → encode_of c ≡ refused 10 (c.sqn ∷ [])
unfolding encode_of refuse_if
encode_over c h = rw (lt-ltb _ _ h)

pub encoded_sqn : (c : Control) (b : ℕ) → given b ≡ encode_of c → c.sqn ≤ 3
encoded_sqn c b e = elim (dec_lt 3 c.sqn) [
  | yes h ↦ absurd (given-refused (e ∙ encode_over c h))
  | no n ↦ omega arith
]

pub encoded_byte : (c : Control) (b : ℕ) → given b ≡ encode_of c → b ≡ ctrl_byte c
encoded_byte c b e = let k = encode_fine c (encoded_sqn c b e) in cc

-- a refusal to encode is the first test's
pub encode_refused : (c : Control) (z : FrameSizes) (e : Refusal) → ◌≡◌ {A = Answer ℕ} (refusal_of e) (encode_of c)
    → refusal_of e ≡ with_ctrl c (test_of c z)
unfolding test_of refuse_if with_ctrl and_then
encode_refused c z e h = elim (dec_lt 3 c.sqn) [
  | yes l ↦ let k = h ∙ encode_over c l in rw (lt-ltb _ _ l) (cc)
  | no n ↦ absurd (given-refused (sym (h ∙ encode_fine c (omega arith))))
]

-- `!=` of two flags
pub differ_as : (a b : Bool) → not (beq a b) ≡ differ a b
differ_as true true = refl
differ_as true false = refl
differ_as false true = refl
differ_as false false = refl

-- ---- the others, in their order, once the control byte is b

module _ (c : Control) (z : FrameSizes) (b : ℕ) (e : given b ≡ encode_of c) where
  pub refused-3 : differ z.has_block c.block ≡ true → refused 3 (b ∷ []) ≡ with_ctrl c (test_of c z)
  unfolding test_of refuse_if with_ctrl and_then
  refused-3 d = rw (le-ltb _ _ (encoded_sqn c b e), d, encoded_byte c b e)

  pub refused-11 : differ z.has_block c.block ≡ false → (z.mac ≡ mac_len_of z.mac_due → ⊥) → refused 11 [] ≡ with_ctrl c (test_of c z)
  unfolding test_of refuse_if with_ctrl and_then
  refused-11 d m = rw (le-ltb _ _ (encoded_sqn c b e), d, ne_eqb _ _ m)

  pub refused-17 : differ z.has_block c.block ≡ false → z.mac ≡ mac_len_of z.mac_due → 253 < z.block_data → refused 17 (z.block_data ∷ []) ≡ with_ctrl c (test_of c z)
  unfolding test_of refuse_if with_ctrl and_then
  refused-17 d m h = rw (le-ltb _ _ (encoded_sqn c b e), d, eq-eqb _ _ m, lt-ltb _ _ h)

  pub refused-12 : differ z.has_block c.block ≡ false → z.mac ≡ mac_len_of z.mac_due → z.block_data ≤ 253 → 65535 < total_len c.crc z
      → refused 12 (total_len c.crc z ∷ 65535 ∷ []) ≡ with_ctrl c (test_of c z)
  unfolding test_of refuse_if with_ctrl and_then
  refused-12 d m s h = rw (le-ltb _ _ (encoded_sqn c b e), d, eq-eqb _ _ m, le-ltb _ _ s, lt-ltb _ _ h)

  pub refused-18 : differ z.has_block c.block ≡ false → z.mac ≡ mac_len_of z.mac_due → z.block_data ≤ 253 → total_len c.crc z ≤ 65535
      → z.room < total_len c.crc z
      → refused 18 (total_len c.crc z ∷ z.room ∷ []) ≡ with_ctrl c (test_of c z)
  unfolding test_of refuse_if with_ctrl and_then
  refused-18 d m s h r = rw (le-ltb _ _ (encoded_sqn c b e), d, eq-eqb _ _ m, le-ltb _ _ s, le-ltb _ _ h, lt-ltb _ _ r)

  pub all-passed : differ z.has_block c.block ≡ false → z.mac ≡ mac_len_of z.mac_due → z.block_data ≤ 253 → total_len c.crc z ≤ 65535
      → total_len c.crc z ≤ z.room
      → given (total_len c.crc z, b) ≡ with_ctrl c (test_of c z)
  unfolding test_of refuse_if with_ctrl and_then
  all-passed d m s h r = rw (le-ltb _ _ (encoded_sqn c b e), d, eq-eqb _ _ m, le-ltb _ _ s, le-ltb _ _ h, le-ltb _ _ r, encoded_byte c b e)

-- ---- what the tests hand on

pub with_given : (c : Control) (a : Answer ℕ) (n b : ℕ) → given (n, b) ≡ with_ctrl c a → (a ≡ given n) × (b ≡ ctrl_byte c)
unfolding with_ctrl and_then
with_given c (given m) n b e =
    let k = given_inj (n, b) (m, ctrl_byte c) e in
    (ap given (sym (ap (λ (x : ℕ × ℕ). x.0) k)), ap (λ (x : ℕ × ℕ). x.1) k)
with_given c (refused m vs) n b e = absurd (given-refused e)

pub with_refused : (c : Control) (a : Answer ℕ) (e : Refusal) → refusal_of e ≡ with_ctrl c a → a ≡ refusal_of e
unfolding with_ctrl and_then
with_refused c (given m) e h = absurd (given-refused (sym h))
with_refused c (refused m vs) e h = cc
