-- KEYEXPANSION, four words at a time: the words 4 r to 4 r + 3 are the round key r.
-- Assumes nothing.
use mathlib.Core.Path.{◌≡◌, refl, sym, ap, ap₂, subst, ◌∙◌}
use mathlib.Core.List.{List, [], ◌++◌, append_assoc}
use Prim.Native.Nat.{ℕ, suc, ◌+◌, ◌-◌, ◌*◌, ◌/◌, ◌%◌, ◌<◌}
use native.Mathlib.Numerals.{add-one}
use native.Mathlib.Omega.{arith}
use lib.ListN.{length, take, drop, get_or, set, replicate}
use lib.Seq.{drop-append-add, take_all}
use Rattle.std.proofs.lemmas.List.{append-nil, length-set, take_more, take_more_set, flat_map_more}
use Rattle.laws.specs.Table.{block_of}
use Rattle.laws.specs.Bytes.{xorl}
use Rattle.laws.proofs.Listed.{block_listed}
use Rattle.aes_field.specs.Field.{◌⊕◌, xtime}
use Rattle.aes.specs.KeyExpansion.{word, temp, power, words, key_expansion}
use Rattle.aes.specs.RoundKey.{key_byte, next_key}
use Rattle.aes.specs.declared.round.Halves.{Halves}
use Rattle.aes.specs.Halves.{halves_bytes, schedule_of}
use Rattle.aes.proofs.RoundKeys.{length-halves_bytes, length-first_keys}

-- words past p are words of what follows it
word_past : (p x : List ℕ) (r j : ℕ) → length p ≡ 16 * r → word (p ++ x) (4 * r + j) ≡ word x j
word_past p x r j e = ap (take 4) (ap (λ (n : ℕ). drop n (p ++ x)) (there p r j e) ∙ drop-append-add p x (4 * j))
  where
    there : (p : List ℕ) (r j : ℕ) → length p ≡ 16 * r → 4 * (4 * r + j) ≡ length p + 4 * j
    there p r j e = omega arith

-- the next power of 02
pub power_next : (r : ℕ) → power (r + 1) ≡ xtime (power r)
unfolding power
power_next r = rw add-one

module _ (t : List ℕ) where
  -- one word more, of a list that starts at a round key
  ext : ℕ → ℕ → List ℕ → List ℕ
  ext r j x = x ++ xorl (word x j) (temp t j (r + 1) (word x (j + 3)))

  same : (p x : List ℕ) (r j : ℕ) → j < 4 → length p ≡ 16 * r
      → temp t ((4 * r + j + 4) % 4) ((4 * r + j + 4) / 4) (word (p ++ x) (4 * r + j + 3)) ≡ temp t j (r + 1) (word x (j + 3))
  same p x r j h l =
      let a : (4 * r + j + 4) % 4 ≡ j = omega arith in
      let b : (4 * r + j + 4) / 4 ≡ r + 1 = omega arith in
      let c : 4 * r + j + 3 ≡ 4 * r + (j + 3) = omega arith in
      ap₂ (λ (m q : ℕ). temp t m q (word (p ++ x) (4 * r + j + 3))) a b
      ∙ ap (temp t j (r + 1)) (ap (word (p ++ x)) c ∙ word_past p x r (j + 3) l)

  step : (k p x : List ℕ) (r j : ℕ) → j < 4 → length p ≡ 16 * r → words t (4 * r + j) k ≡ p ++ x → words t (4 * r + (j + 1)) k ≡ p ++ ext r j x
  unfolding words ext
  step k p x r j h l e =
      let n : ℕ = 4 * r + j in
      let up : 4 * r + (j + 1) ≡ suc n = omega arith in
      ap (λ (m : ℕ). words t m k) up
      ∙ ap (λ (w : List ℕ). w ++ xorl (word w n) (temp t ((n + 4) % 4) ((n + 4) / 4) (word w (n + 3)))) e
      ∙ ap₂ (λ (a b : List ℕ). (p ++ x) ++ xorl a b) (word_past p x r j l) (same p x r j h l)
      ∙ append_assoc p x (xorl (word x j) (temp t j (r + 1) (word x (j + 3))))

  -- four words more are the next round key
  four : (r : ℕ) (g : ℕ → ℕ) → ext r 3 (ext r 2 (ext r 1 (ext r 0 (block_of g)))) ≡ block_of g ++ next_key t (power (r + 1 - 1)) (block_of g)
  unfolding ext block_of next_key key_byte xorl ◌⊕◌
  four r g = refl

  pub grown : (r : ℕ) (k p x : List ℕ) → length p ≡ 16 * r → length x ≡ 16 → words t (4 * r) k ≡ p ++ x
      → words t (4 * (r + 1)) k ≡ (p ++ x) ++ next_key t (power r) x
  grown r k p x l lx e =
      let zero_more : 4 * r + 0 ≡ 4 * r = omega arith in
      let four-more : 4 * (r + 1) ≡ 4 * r + 4 = omega arith in
      let pred : r + 1 - 1 ≡ r = omega arith in
      let w : x ≡ block_of (λ i. get_or x i 0) = sym (block_listed x lx) in
      ap (λ (n : ℕ). words t n k) four-more
      ∙ step k p _ r 3 (omega arith) l (step k p _ r 2 (omega arith) l (step k p _ r 1 (omega arith) l (step k p x r 0 (omega arith) l (ap (λ (n : ℕ). words t n k) zero_more ∙ e))))
      ∙ ap (λ (y : List ℕ). p ++ ext r 3 (ext r 2 (ext r 1 (ext r 0 y)))) w
      ∙ ap (λ (y : List ℕ). p ++ y) (four r (λ i. get_or x i 0))
      ∙ ap₂ (λ (y : List ℕ) (n : ℕ). p ++ (y ++ next_key t (power n) y)) (sym w) pred
      ∙ sym (append_assoc p x (next_key t (power r) x))

  -- ks has the round keys 0 to r
  pub record Expanded (key : List ℕ) (ks : List Halves) (r : ℕ) : Type 0 where
    pub size : length ks ≡ 11
    pub made : words t (4 * r) key ≡ schedule_of (take (r + 1) ks)

  pub expanded-none : (key : List ℕ) (k : Halves) → halves_bytes k ≡ key → Expanded key (replicate 11 k) 0
  unfolding words
  expanded-none key k e = record {
    size = refl;
    made = sym (append-nil (halves_bytes k) ∙ e);
  }

  -- a turn that puts n, the round key after the last, behind it
  pub expanded-more : (key : List ℕ) (ks : List Halves) (d n : Halves) (r : ℕ) → r < 10 → halves_bytes n ≡ next_key t (power r) (halves_bytes (get_or ks r d))
      → Expanded key ks r → Expanded key (set ks (r + 1) n) (r + 1)
  expanded-more key ks d n r h p e =
      let k : Halves = get_or ks r d in
      let q : List ℕ = schedule_of (take r ks) in
      let s : length ks ≡ 11 = e.size in
      let in_ks : r + 1 < length ks = omega arith in
      let first : schedule_of (take (r + 1) ks) ≡ q ++ halves_bytes k =
      ap schedule_of (take_more ks r d (omega arith)) ∙ sym (flat_map_more halves_bytes [] (take r ks) k) in
      record {
        size = length-set ks (r + 1) n ∙ s;
        made = grown r key q (halves_bytes k) (length-first_keys ks r (omega arith)) (length-halves_bytes k) (e.made ∙ first)
            ∙ ap₂ ◌++◌ (sym first) (sym p)
            ∙ flat_map_more halves_bytes [] (take (r + 1) ks) n
            ∙ ap schedule_of (sym (take_more_set ks (r + 1) n in_ks));
      }

  pub expanded-all : (key : List ℕ) (ks : List Halves) (r : ℕ) → r ≡ 10 → Expanded key ks r → schedule_of ks ≡ key_expansion t key
  unfolding key_expansion
  expanded-all key ks r h e =
      let ten : Expanded key ks 10 = subst (Expanded key ks) h e in
      ap schedule_of (sym (take_all 11 ks (omega (arith, e.size)))) ∙ sym ten.made
