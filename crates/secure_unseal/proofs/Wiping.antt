-- How long an opened text is and how many steps it took, so that the sum of the calls fits and a wipe after it leaves nothing of it.
-- Assumes nothing.
use mathlib.Core.Bool.{Bool, true, false, cond, not, ◌||◌}
use mathlib.Core.List.{List, [], ◌∷◌, ◌++◌}
use mathlib.Core.Path.{◌≡◌, refl, sym, ap, ◌∙◌}
use Prim.Native.Nat.{ℕ, suc, ◌+◌, ◌-◌, ◌/◌, ◌%◌, ◌≤◌}
use native.Mathlib.Omega.{arith}
use borrow.Author.Tests.{ltb-false}
use lib.Dec.{ltb, eqb}
use lib.ListN.{length, take, drop, length-append, length-replicate}
use lib.Seq.{length-take-le}
use Rattle.laws.specs.Answer.{Answer, Answer.given, Answer.refused}
use Rattle.laws.specs.Bytes.{Bytes, zeros, compl}
use Rattle.laws.proofs.Answers.{given-refused}
use Rattle.laws.proofs.ByteLists.{bytes_take, bytes_drop}
use Rattle.laws.specs.Blocks.{Block, Blocks, blocks, flat}
use Rattle.laws.proofs.BlockLists.{block-xorl, length-blocks, length-flat, blocks-blocks, block-compl}
use Rattle.laws.proofs.Lists.{part_length}
use Rattle.laws.proofs.Overwrite.{write_over}
use Rattle.aes.proofs.Laws.{D-block}
use Rattle.aes.specs.Cipher.{D}
use Rattle.secure_cipher.specs.Cbc.{Done, Opening, dec_run, reveal, decrypt_of, opened_into, wiped, laid}
use Rattle.secure_cipher.specs.Mac.{mac_calls}
use Rattle.secure_cipher.proofs.CbcLaws.{dec_steps}
use Rattle.secure_cipher.proofs.MacLaws.{mac-steps}
use Rattle.secure_cipher.proofs.PadLaws.{unpad-less}
use Rattle.secure_keys.specs.declared.crypto.SessionKeys.{SessionKeys}
use Rattle.secure_unseal.specs.Unseal.{check}
use Rattle.secure_unseal.proofs.Cases.{opened_unless}

-- ---- the text

dec_blocks : (k v : List ℕ) (bs : List (List ℕ)) → Block k → Block v → Blocks bs → Blocks (dec_run k v bs).out
unfolding dec_run
dec_blocks k v [] hk hv h = tt
dec_blocks k v (c ∷ cs) hk hv h = (block-xorl (D k c) v (D-block k c hk h.0) hv, dec_blocks k c cs hk h.0 h.1)

dec_length : (k v : List ℕ) (bs : List (List ℕ)) → length (dec_run k v bs).out ≡ length bs
unfolding dec_run
dec_length k v [] = refl
dec_length k v (c ∷ cs) = ap suc (dec_length k c cs)

abbrev refused_or : Bool → Opening → Opening
refused_or b o = cond b (record { answer = refused 14 []; text = []; steps = 0 }) o

few : (b : Bool) (o : Opening) (n : ℕ) → o.steps ≤ n → (refused_or b o).steps ≤ n
few true o n h = omega arith
few false o n h = h

reveal-steps : (k v c : List ℕ) → (reveal k v c).steps ≤ length c / 16
unfolding reveal
reveal-steps k v c =
    few (eqb (length c) 0 || not (eqb (length c % 16) 0)) _ (length c / 16) (omega (arith, dec_steps k v (blocks c), length-blocks c))

stopped_or : (b : Bool) (x y : Done) (n : ℕ) → x.steps ≡ 0 → y.steps ≤ n → (cond b x y).steps ≤ n
stopped_or true x y n e h = omega arith
stopped_or false x y n e h = h

pub decrypt_steps : (k v c o : List ℕ) → (decrypt_of k v c o).steps ≤ length c / 16
unfolding decrypt_of
decrypt_steps k v c o = stopped_or (ltb (length o) (length c)) _ _ (length c / 16) refl (reveal-steps k v c)

-- ---- a wipe over an opened text

-- what was unpadded stands before the end of the text, and the text is no longer than what was deciphered
pub record Sized (n l : ℕ) (t : List ℕ) : Type 0 where
  pub less : l ≤ length t
  pub most : length t ≤ n

sized_or : (b : Bool) (o : Opening) (n l : ℕ) → (o.answer ≡ given l → Sized n l o.text) → (refused_or b o).answer ≡ given l → Sized n l (refused_or b o).text
sized_or true o n l f e = absurd (given-refused (sym e))
sized_or false o n l f e = f e

module _ (k v c : List ℕ) (hk : Block k) (hv : Block v) (hc : Bytes c) where
  text-length : length (flat (dec_run k v (blocks c)).out) ≤ length c
  text-length =
      omega (arith, length-flat (dec_run k v (blocks c)).out (dec_blocks k v (blocks c) hk hv (blocks-blocks c hc)), dec_length k v (blocks c), length-blocks c)

  reveal-sized : (l : ℕ) → (reveal k v c).answer ≡ given l → Sized (length c) l (reveal k v c).text
  unfolding reveal
  reveal-sized l =
      sized_or (eqb (length c) 0 || not (eqb (length c % 16) 0)) _ (length c) l
      (λ e. record { less = omega (arith, unpad-less (flat (dec_run k v (blocks c)).out) l e); most = text-length })

  wiped-laid : (o t : List ℕ) (l : ℕ) → Sized (length c) l t → wiped (length c) (laid l (length c) t o) ≡ wiped (length c) o
  unfolding wiped laid
  wiped-laid o t l s =
      write_over o (take l t ++ zeros (length c - l)) (zeros (length c))
      (length-append (take l t) (zeros (length c - l)) ∙ omega (arith, length-take-le l t s.less, length-replicate {A = ℕ} (length c - l) 0, length-replicate {A = ℕ} (length c) 0, s.less, s.most))

  opened-wiped : (o : List ℕ) (p : Opening) (a : Answer ℕ) (l : ℕ) → a ≡ given l → Sized (length c) l p.text → wiped (length c) (opened_into (length c) p a o) ≡ wiped (length c) o
  unfolding opened_into
  opened-wiped o p (given j) l e s = let h : j ≡ l = cc in wiped-laid o p.text j (rw h s)
  opened-wiped o p (refused m vs) l e s = absurd (given-refused (sym e))

  wiped-or : (b : Bool) (o : List ℕ) (p : Opening) (l : ℕ) → (p.answer ≡ given l → Sized (length c) l p.text)
      → (opened_unless b (length c) p o).answer ≡ given l → wiped (length c) (opened_unless b (length c) p o).out ≡ wiped (length c) o
  wiped-or true o p l f e = absurd (given-refused (sym e))
  wiped-or false o p l f e = opened-wiped o p p.answer l e (f e)

  wiped-again : (o : List ℕ) (l : ℕ) → (decrypt_of k v c o).answer ≡ given l → wiped (length c) (decrypt_of k v c o).out ≡ wiped (length c) o
  unfolding decrypt_of
  wiped-again o l e = wiped-or (ltb (length o) (length c)) o (reveal k v c) l (reveal-sized l) e

-- ---- as the code finds it: the n bytes of f from `at` on, deciphered into w

room_or : (b : Bool) (o c : List ℕ) (x y : Done) (l n : ℕ) (vs : List ℕ) → x.answer ≡ refused n vs → ltb (length o) (length c) ≡ b → (cond b x y).answer ≡ given l → length c ≤ length o
room_or true o c x y l n vs r h e = absurd (given-refused (sym e ∙ r))
room_or false o c x y l n vs r h e = ltb-false (length o) (length c) h

decrypt_room : (k v c o : List ℕ) (l : ℕ) → (decrypt_of k v c o).answer ≡ given l → length c ≤ length o
unfolding decrypt_of
decrypt_room k v c o l e = room_or (ltb (length o) (length c)) o c _ _ l 18 _ refl refl e

module _ (k v f : List ℕ) (at n : ℕ) (w : List ℕ) (fit : at + n ≤ length f) {a : Answer ℕ} {out : List ℕ} {s : ℕ}
    (e : record { answer = a; out = out; steps = s } ≡ decrypt_of k (compl v) (take n (drop at f)) w) where
  size : length (take n (drop at f)) ≡ n
  size = part_length f at n fit

  pub found-steps : s ≤ n / 16
  found-steps =
      let h : s ≡ (decrypt_of k (compl v) (take n (drop at f)) w).steps = ap (λ (d : Done). d.steps) e in
      omega (arith, decrypt_steps k (compl v) (take n (drop at f)) w, size)

  module _ (l : ℕ) (h : a ≡ given l) where
    found : (decrypt_of k (compl v) (take n (drop at f)) w).answer ≡ given l
    found = sym (ap (λ (d : Done). d.answer) e) ∙ h

    pub found-room : n ≤ length w
    found-room = omega (arith, decrypt_room k (compl v) (take n (drop at f)) w l found, size)

    -- what was opened is wiped as the buffer would have been before
    pub found-wiped : Block k → length v ≡ 16 → Bytes f → wiped n out ≡ wiped n w
    found-wiped hk hv hf =
        let c = take n (drop at f) in
        ap (λ (j : ℕ). wiped j out) (sym size) ∙ ap (λ (d : Done). wiped (length c) d.out) e
        ∙ wiped-again k (compl v) c hk (block-compl v hv) (bytes_take n (drop at f) (bytes_drop at f hf)) w l found
        ∙ ap (λ (j : ℕ). wiped j w) size

-- a check takes a step for every sixteen bytes before the MAC
pub check-steps : (k : SessionKeys) (v f : List ℕ) (at : ℕ) → at ≤ length f → (check k v f at).steps ≡ (at + 15) / 16
unfolding check
check-steps k v f at h = mac-steps k.s_mac1 k.s_mac2 v (take at f) ∙ ap (λ (n : ℕ). (n + 15) / 16) (length-take-le at f h)

pub check-counted : (k : SessionKeys) (v f : List ℕ) (at : ℕ) → at ≤ length f → mac_calls at ≡ (check k v f at).steps
unfolding mac_calls
check-counted k v f at h = sym (check-steps k v f at h)
