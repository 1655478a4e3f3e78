-- What enciphering and deciphering answer and leave behind, case by case, in the code's order.
-- Assumes nothing.
use mathlib.Core.Path.{◌≡◌, sym, ap, ap₂, ◌∙◌}
use mathlib.Core.List.{List, [], ◌∷◌, ◌++◌}
use Prim.Native.Nat.{ℕ, ◌+◌, ◌-◌, ◌*◌, ◌/◌, ◌%◌, ◌≤◌, ◌<◌}
use native.Mathlib.Omega.{arith}
use borrow.Author.Tests.{eq-eqb, ne_eqb, lt-ltb, le-ltb}
use lib.ListN.{length, take, drop, set, length-set, length-replicate}
use lib.Seq.{set-append_left}
use Rattle.laws.specs.Answer.{Answer, Answer.given, Answer.refused}
use Rattle.laws.specs.Bytes.{Bytes, zeros}
use Rattle.laws.specs.Blocks.{Block, blocks, flat}
use Rattle.laws.specs.Over.{write}
use Rattle.laws.proofs.Overwrite.{take-write, write_over}
use Rattle.secure_cipher.specs.Pad.{pad_data, unpad}
use Rattle.secure_cipher.specs.Cbc.{Done, CbcRun, Opening, dec_run, hide, reveal, encrypt_of, decrypt_of, opened_into, wiped, laid}
use Rattle.secure_cipher.specs.Parts.{bad_padding, Deciphered}
use Rattle.secure_cipher.proofs.CbcLaws.{length-hide, reveal-hide}
use Rattle.secure_cipher.proofs.PadLaws.{pad_data_front, unpad-refused, unpad-less, unpad-clear}

abbrev pub cipher_done : Answer ℕ → List ℕ → ℕ → Done
cipher_done a o n = record { answer = a; out = o; steps = n }

-- ---- enciphering

module _ (k v x o : List ℕ) (need : ℕ) (e : need ≡ length (pad_data x)) where
  pub encrypt-short : length o < need → cipher_done (refused 18 (need ∷ length o ∷ [])) o 0 ≡ encrypt_of k v x o
  unfolding encrypt_of
  encrypt-short h = rw (← e, lt-ltb (length o) need h)

  pub encrypt-good : (o₂ : List ℕ) (n : ℕ) → need ≤ length o → o₂ ≡ write o 0 (hide k v x).bytes → n ≡ (hide k v x).steps → cipher_done (given need) o₂ n ≡ encrypt_of k v x o
  unfolding encrypt_of
  encrypt-good o₂ n h eo en = rw (← e, le-ltb (length o) need h) (ap₂ (cipher_done (given need)) eo en)

-- a byte set in what was written
set_over : (o s : List ℕ) (i v : ℕ) → i < length s → set (write o 0 s) i v ≡ write o 0 (set s i v)
unfolding write
set_over o s i v h = set-append_left s (drop (0 + length s) o) i v h ∙ ap (λ (n : ℕ). set s i v ++ drop (0 + n) o) (sym (length-set s i v))

-- ---- deciphering

module _ (k v c o : List ℕ) where
  pub decrypt-short : length o < length c → cipher_done (refused 18 (length c ∷ length o ∷ [])) o 0 ≡ decrypt_of k v c o
  unfolding decrypt_of
  decrypt-short h = rw (lt-ltb (length o) (length c) h)

  -- what an opening that was read comes to
  opened : Opening → Done
  opened p = cipher_done p.answer (opened_into (length c) p p.answer o) p.steps

  decrypt-from : (p : Opening) → length c ≤ length o → reveal k v c ≡ p → decrypt_of k v c o ≡ opened p
  unfolding decrypt_of opened
  decrypt-from p h e = rw (le-ltb (length o) (length c) h) (ap opened e)

  reveal-empty : length c ≡ 0 → reveal k v c ≡ record { answer = refused 14 []; text = []; steps = 0 }
  unfolding reveal
  reveal-empty h = rw (eq-eqb (length c) 0 h)

  reveal-ragged : (length c ≡ 0 → ⊥) → (length c % 16 ≡ 0 → ⊥) → reveal k v c ≡ record { answer = refused 14 []; text = []; steps = 0 }
  unfolding reveal
  reveal-ragged h r = rw (ne_eqb (length c) 0 h, ne_eqb (length c % 16) 0 r)

  pub decrypt-empty : length c ≤ length o → length c ≡ 0 → bad_padding (length c) o 0 ≡ decrypt_of k v c o
  unfolding opened opened_into
  decrypt-empty h e = sym (decrypt-from _ h (reveal-empty e))

  pub decrypt-ragged : length c ≤ length o → (length c ≡ 0 → ⊥) → (length c % 16 ≡ 0 → ⊥) → bad_padding (length c) o 0 ≡ decrypt_of k v c o
  unfolding opened opened_into
  decrypt-ragged h e r = sym (decrypt-from _ h (reveal-ragged e r))

  -- what the blocks decipher to
  text : List ℕ
  text = flat (dec_run k v (blocks c)).out

  -- o₁ holds the deciphered blocks, n is the number of them
  module _ (o₁ : List ℕ) (n : ℕ) (h : length c ≤ length o) (some : length c ≡ 0 → ⊥) (whole : length c % 16 ≡ 0)
      (w : o₁ ≡ write o 0 (flat (dec_run k v (blocks c)).out)) (m : length (flat (dec_run k v (blocks c)).out) ≡ length c)
      (s : n ≡ (dec_run k v (blocks c)).steps) where
    reveal-blocks : (a : Answer ℕ) → unpad text ≡ a → reveal k v c ≡ record { answer = a; text = text; steps = n }
    unfolding reveal text
    reveal-blocks a e = rw (ne_eqb (length c) 0 some, eq-eqb (length c % 16) 0 whole) (λ i. record { answer = e i; text = text; steps = sym s i })

    pub decrypt-bad : (j : ℕ) (vs : List ℕ) → refused j vs ≡ unpad (flat (dec_run k v (blocks c)).out) → bad_padding (length c) o₁ n ≡ decrypt_of k v c o
    unfolding opened opened_into wiped text
    decrypt-bad j vs e =
        ap (λ (x : List ℕ). cipher_done (refused 14 []) x n)
        (ap (λ (x : List ℕ). write x 0 (zeros (length c))) w ∙ write_over o text (zeros (length c)) (m ∙ sym (length-replicate {A = ℕ} (length c) 0)))
        ∙ sym (decrypt-from _ h (reveal-blocks (refused 14 []) (unpad-refused text j vs (sym e))))

    pub decrypt-good : (j : ℕ) → given j ≡ unpad (flat (dec_run k v (blocks c)).out) → cipher_done (given j) (set o₁ j 0) n ≡ decrypt_of k v c o
    unfolding opened opened_into laid text
    decrypt-good j e =
        ap (λ (x : List ℕ). cipher_done (given j) x n)
        (ap (λ (x : List ℕ). set x j 0) w ∙ set_over o text j 0 (unpad-less text j (sym e))
        ∙ ap (write o 0) (unpad-clear text j (sym e) ∙ ap (λ (z : ℕ). take j text ++ zeros (z - j)) m))
        ∙ sym (decrypt-from _ h (reveal-blocks (given j) (sym e)))

-- the front of the buffer is what the blocks decipher to
pub read-text : {r : CbcRun} {n : ℕ} {before after : List ℕ} {steps : ℕ} → Deciphered r n before after steps → take n after ≡ flat r.out
read-text {r} {n} {before} {after} d = ap (take n) d.here ∙ take-write before n (flat r.out) (sym d.size)

-- ---- read back: what was enciphered is deciphered to the payload, with zeros behind it

module _ (k v x o : List ℕ) (hk : Block k) (hv : Block v) (hx : Bytes x) where
  pub decrypt-hide : (length x / 16 + 1) * 16 ≤ length o
      → decrypt_of k v (hide k v x).bytes o ≡ record { answer = given (length x); out = write o 0 (x ++ zeros ((length x / 16 + 1) * 16 - length x)); steps = length x / 16 + 1 }
  unfolding opened opened_into laid
  decrypt-hide h =
      let n = length-hide k v x hk hv hx in
      decrypt-from k v (hide k v x).bytes o _ (omega arith) (reveal-hide k v x hk hv hx)
      ∙ ap₂ (λ (y : List ℕ) (m : ℕ). cipher_done (given (length x)) (write o 0 (y ++ zeros (m - length x))) (length x / 16 + 1)) (pad_data_front x) n
