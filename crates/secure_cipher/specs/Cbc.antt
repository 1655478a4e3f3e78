-- CBC (NIST SP 800-38A, 6.2) over whole blocks, and the two calls over bytes with the data's padding (docs/RULES.md, 6). Each call of
-- the cipher is counted where it is made.
-- Assumes nothing.
use Rattle.std.specs.Prelude.{ℕ, suc, ◌-◌, ◌%◌, cond, not, ◌||◌, List, [], ◌∷◌, ◌++◌, ltb, eqb, length, take}
use Rattle.laws.specs.Answer.{Answer, Answer.given, Answer.refused}
use Rattle.laws.specs.Bytes.{xorl, zeros}
use Rattle.laws.specs.Blocks.{blocks, flat}
use Rattle.laws.specs.Over.{write}
use Rattle.aes.specs.Cipher.{E, D}
use Rattle.refusal.specs.Reading.{length_answer}
use Rattle.secure_cipher.specs.Pad.{pad_data, unpad}
use Rattle.secure_cipher.specs.declared.cipher.Ciphered.{Ciphered}

-- blocks, and how often the cipher was called for them
pub record CbcRun : Type 0 where
  pub out : List (List ℕ)
  pub steps : ℕ

-- C_1 = CIPH_K (P_1 ⊕ IV), C_j = CIPH_K (P_j ⊕ C_{j-1})
unfoldable pub enc_run : List ℕ → List ℕ → List (List ℕ) → CbcRun
enc_run k v [] = record { out = []; steps = 0 }
enc_run k v (b ∷ bs) =
    let c = E k (xorl b v) in
    let r = enc_run k c bs in
    record { out = c ∷ r.out; steps = suc r.steps }

-- P_1 = CIPH⁻¹_K (C_1) ⊕ IV, P_j = CIPH⁻¹_K (C_j) ⊕ C_{j-1}
unfoldable pub dec_run : List ℕ → List ℕ → List (List ℕ) → CbcRun
dec_run k v [] = record { out = []; steps = 0 }
dec_run k v (c ∷ cs) =
    let r = dec_run k c cs in
    record { out = xorl (D k c) v ∷ r.out; steps = suc r.steps }

-- ---- a payload, padded and enciphered

pub record Hidden : Type 0 where
  pub bytes : List ℕ
  pub steps : ℕ

unfoldable pub hide : List ℕ → List ℕ → List ℕ → Hidden
hide k v x = let r = enc_run k v (blocks (pad_data x)) in record { bytes = flat r.out; steps = r.steps }

-- ---- encrypted data, deciphered and unpadded: how long the payload is, or 14, also for an empty or ragged length; what the blocks deciphered to

pub record Opening : Type 0 where
  pub answer : Answer ℕ
  pub text : List ℕ
  pub steps : ℕ

unfoldable pub reveal : List ℕ → List ℕ → List ℕ → Opening
reveal k v c =
    let r = dec_run k v (blocks c) in
    cond (eqb (length c) 0 || not (eqb (length c % 16) 0)) (record { answer = refused 14 []; text = []; steps = 0 })
    (record { answer = unpad (flat r.out); text = flat r.out; steps = r.steps })

-- ---- the calls: what is answered, what the buffer holds, the steps

pub record Done : Type 0 where
  pub answer : Answer ℕ
  pub out : List ℕ
  pub steps : ℕ

-- a refusal before anything is done
abbrev pub cipher_stop : ℕ → List ℕ → List ℕ → Done
cipher_stop n vs o = record { answer = refused n vs; out = o; steps = 0 }

-- how long n bytes of payload become
abbrev pub hidden_len : List ℕ → ℕ
hidden_len x = length (pad_data x)

-- 18 (need, have)
unfoldable pub encrypt_of : List ℕ → List ℕ → List ℕ → List ℕ → Done
encrypt_of k v x o =
    let h = hide k v x in
    cond (ltb (length o) (hidden_len x)) (cipher_stop 18 (hidden_len x ∷ length o ∷ []) o)
    (record { answer = given (hidden_len x); out = write o 0 h.bytes; steps = h.steps })

-- n bytes at the front of the buffer wiped
unfoldable pub wiped : ℕ → List ℕ → List ℕ
wiped n o = write o 0 (zeros n)

-- the first l bytes of the text at the front of the buffer, the rest of n bytes zero
unfoldable pub laid : ℕ → ℕ → List ℕ → List ℕ → List ℕ
laid l n t o = write o 0 (take l t ++ zeros (n - l))

-- what an opening of n bytes leaves in the buffer
unfoldable pub opened_into : ℕ → Opening → Answer ℕ → List ℕ → List ℕ
opened_into n p (given l) o = laid l n p.text o
opened_into n p (refused m vs) o = wiped n o

-- 18 (need, have), then 14
unfoldable pub decrypt_of : List ℕ → List ℕ → List ℕ → List ℕ → Done
decrypt_of k v c o =
    let p = reveal k v c in
    cond (ltb (length o) (length c)) (cipher_stop 18 (length c ∷ length o ∷ []) o)
    (record { answer = p.answer; out = opened_into (length c) p p.answer o; steps = p.steps })

-- ---- the code's answer, as the paper has it; `o` is the buffer in the end

abbrev pub cipher_told : Ciphered ℕ → List ℕ → Done
cipher_told r o = record { answer = length_answer r.answer; out = o; steps = r.calls }
