-- The ten rounds, in the order and with the round keys of a direction, are CIPHER and INVCIPHER.
-- Assumes nothing.
use mathlib.Core.Path.{◌≡◌, refl, ap, ◌∙◌}
use mathlib.Core.List.{List}
use Prim.Native.Nat.{ℕ, zero, suc, ◌+◌, ◌-◌}
use native.Mathlib.Omega.{arith}
use Rattle.laws.specs.Table.{block_of}
use Rattle.aes.specs.State.{sub_bytes, shift_rows, inv_shift_rows, mix_columns, inv_mix_columns, add_round_key}
use Rattle.aes.specs.Cipher.{rounds, cipher, inv_rounds, inv_cipher}
use Rattle.aes.specs.Halves.{added, round_key, turns, ten_rounds}

-- the sum with a round key is ADDROUNDKEY
added_key : (s w : List ℕ) (r : ℕ) → added s (round_key w r) ≡ add_round_key s w r
unfolding added round_key add_round_key block_of
added_key s w r = refl

module _ (t w : List ℕ) where
  abbrev forth : List ℕ → List ℕ
  forth s = shift_rows (sub_bytes t s)

  abbrev back : List ℕ → List ℕ
  back s = sub_bytes t (inv_shift_rows s)

  abbrev mixed : List ℕ → List ℕ → List ℕ
  mixed s k = added (mix_columns s) k

  abbrev unmixed : List ℕ → List ℕ → List ℕ
  unmixed s k = inv_mix_columns (added s k)

  abbrev down : ℕ → List ℕ
  down turn = round_key w (10 - turn)

  forth_turns : (n : ℕ) (s : List ℕ) → turns forth mixed (round_key w) n s ≡ rounds t w n s
  unfolding turns rounds
  forth_turns zero s = refl
  forth_turns (suc n) s =
      ap (λ (x : List ℕ). mixed (forth x) (round_key w (suc n))) (forth_turns n s)
      ∙ added_key (mix_columns (forth (rounds t w n s))) w (suc n)

  -- after m turns of nine, n rounds are to go
  back_turns : (m n : ℕ) (s : List ℕ) → m + n ≡ 9 → inv_rounds t w n (turns back unmixed down m s) ≡ inv_rounds t w 9 s
  unfolding turns inv_rounds
  back_turns zero n s h = let e : n ≡ 9 = omega arith in ap (λ (k : ℕ). inv_rounds t w k s) e
  back_turns (suc m) n s h =
      let e : 10 - suc m ≡ suc n = omega arith in
      let x : List ℕ = back (turns back unmixed down m s) in
      ap (λ (r : ℕ). inv_rounds t w n (unmixed x (round_key w r))) e
      ∙ ap (λ (y : List ℕ). inv_rounds t w n (inv_mix_columns y)) (added_key x w (suc n))
      ∙ back_turns m (suc n) s (omega arith)

pub forth_whole : (t w b : List ℕ)
    → ten_rounds (λ s. shift_rows (sub_bytes t s)) (λ s k. added (mix_columns s) k) (λ turn. round_key w turn) b ≡ cipher t w b
unfolding ten_rounds cipher
forth_whole t w b =
    added_key (forth t w (turns (forth t w) (mixed t w) (round_key w) 9 (added b (round_key w 0)))) w 10
    ∙ ap (λ (x : List ℕ). add_round_key (forth t w x) w 10)
    (forth_turns t w 9 (added b (round_key w 0)) ∙ ap (rounds t w 9) (added_key b w 0))

pub back_whole : (t w b : List ℕ)
    → ten_rounds (λ s. sub_bytes t (inv_shift_rows s)) (λ s k. inv_mix_columns (added s k)) (λ turn. round_key w (10 - turn)) b ≡ inv_cipher t w b
unfolding ten_rounds inv_cipher inv_rounds
back_whole t w b =
    added_key (back t w (turns (back t w) (unmixed t w) (down t w) 9 (added b (round_key w 10)))) w 0
    ∙ ap (λ (x : List ℕ). add_round_key (back t w x) w 0)
    (back_turns t w 9 0 (added b (round_key w 10)) refl ∙ ap (inv_rounds t w 9) (added_key b w 10))
