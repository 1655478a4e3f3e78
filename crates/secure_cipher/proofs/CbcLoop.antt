-- CBC as a loop makes it, a block a turn into the front of a buffer.
-- Assumes nothing.
use mathlib.Core.Path.{◌≡◌, refl, sym, ap, ◌∙◌}
use mathlib.Core.List.{List, [], ◌∷◌, ◌++◌, append_assoc, append-nil}
use Prim.Native.Nat.{ℕ, ◌+◌, ◌*◌, ◌/◌, ◌≤◌, ◌<◌}
use native.Mathlib.Omega.{arith}
use lib.ListN.{length, take, drop, length-append}
use Rattle.laws.specs.Bytes.{xorl}
use Rattle.laws.specs.Blocks.{blocks, flat}
use Rattle.laws.specs.Over.{write}
use Rattle.laws.proofs.Overwrite.{write_nil, write-write}
use Rattle.aes.specs.Cipher.{E, D}
use Rattle.secure_cipher.specs.Pad.{pad_data}
use Rattle.secure_cipher.specs.Cbc.{enc_run, dec_run, hide}
use Rattle.secure_cipher.proofs.PadLaws.{length-pad_data}
use Rattle.secure_cipher.proofs.Turns.{blocks_left, left_all, left_next, left_none}

-- ---- the buffer: `at` bytes are written over o₀, and with the rest they make the target

pub record Laid (o₀ : List ℕ) (at : ℕ) (rest target o : List ℕ) : Type 0 where
  pub done : List ℕ
  pub size : length done ≡ at
  pub fits : at ≤ length o₀
  pub here : o ≡ write o₀ 0 done
  pub all : done ++ rest ≡ target

pub laid_none : (o rest target : List ℕ) (at : ℕ) → at ≡ 0 → rest ≡ target → Laid o at rest target o
laid_none o rest target at e r = record { done = []; size = sym e; fits = omega arith; here = sym (write_nil o 0); all = r }

pub laid_more : {o₀ : List ℕ} {at : ℕ} {rest target o : List ℕ} (c rest₂ o₂ : List ℕ) (at₂ : ℕ) → length c ≡ 16 → at₂ ≡ at + 16 → at + 16 ≤ length o₀ → rest ≡ c ++ rest₂ → o₂ ≡ write o at c
    → Laid o₀ at rest target o → Laid o₀ at₂ rest₂ target o₂
laid_more {o₀} {at} {rest} {target} {o} c rest₂ o₂ at₂ n e h r w p = record {
  done = p.done ++ c;
  size = omega (arith, length-append p.done c, p.size);
  fits = omega arith;
  here = w ∙ ap (λ (x : List ℕ). write x at c) p.here ∙ write-write o₀ 0 p.done at c (omega (arith, p.size)) (omega (arith, p.size));
  all = append_assoc p.done c rest₂ ∙ ap (λ (x : List ℕ). p.done ++ x) (sym r) ∙ p.all;
}

module _ {o₀ : List ℕ} {at : ℕ} {rest target o : List ℕ} (p : Laid o₀ at rest target o) where
  pub laid-all : rest ≡ [] → o ≡ write o₀ 0 target
  laid-all e = p.here ∙ ap (write o₀ 0) (sym (append-nil p.done) ∙ ap (λ (x : List ℕ). p.done ++ x) (sym e) ∙ p.all)

  pub laid-size : rest ≡ [] → length target ≡ at
  laid-size e = ap length (sym (sym (append-nil p.done) ∙ ap (λ (x : List ℕ). p.done ++ x) (sym e) ∙ p.all)) ∙ p.size

-- ---- what is left to write, with i of n blocks of p done and v the last value of the chain

abbrev pub enc_rest : List ℕ → List ℕ → ℕ → ℕ → List ℕ → List ℕ
enc_rest k p n i v = flat (enc_run k v (blocks_left p n i)).out

abbrev pub dec_rest : List ℕ → List ℕ → ℕ → ℕ → List ℕ → List ℕ
dec_rest k p n i v = flat (dec_run k v (blocks_left p n i)).out

enc_cons : (k v b c : List ℕ) (bs : List (List ℕ)) → c ≡ E k (xorl b v) → flat (enc_run k v (b ∷ bs)).out ≡ c ++ flat (enc_run k c bs).out
unfolding enc_run flat
enc_cons k v b c bs e = rw e

dec_cons : (k v c x : List ℕ) (cs : List (List ℕ)) → x ≡ xorl (D k c) v → flat (dec_run k v (c ∷ cs)).out ≡ x ++ flat (dec_run k c cs).out
unfolding dec_run flat
dec_cons k v c x cs e = rw e

enc_nil : (k v : List ℕ) → flat (enc_run k v []).out ≡ []
unfolding enc_run flat
enc_nil k v = refl

dec_nil : (k v : List ℕ) → flat (dec_run k v []).out ≡ []
unfolding dec_run flat
dec_nil k v = refl

module _ (k p : List ℕ) (n i : ℕ) (v c : List ℕ) where
  pub enc-more : i < n → c ≡ E k (xorl (take 16 (drop (i * 16) p)) v) → enc_rest k p n i v ≡ c ++ enc_rest k p n (i + 1) c
  enc-more h e = rw (left_next p n i h) (enc_cons k v (take 16 (drop (i * 16) p)) c _ e)

  pub dec-more : (x : List ℕ) → i < n → c ≡ take 16 (drop (i * 16) p) → x ≡ xorl (D k c) v → dec_rest k p n i v ≡ x ++ dec_rest k p n (i + 1) c
  dec-more x h ec e = rw (left_next p n i h, ← ec) (dec_cons k v c x _ e)

pub enc_none : (k p : List ℕ) (n i : ℕ) (v : List ℕ) → n ≤ i → enc_rest k p n i v ≡ []
enc_none k p n i v h = rw (left_none p n i h) (enc_nil k v)

pub dec_none : (k p : List ℕ) (n i : ℕ) (v : List ℕ) → n ≤ i → dec_rest k p n i v ≡ []
dec_none k p n i v h = rw (left_none p n i h) (dec_nil k v)

pub enc_all : (k x : List ℕ) (n : ℕ) (v : List ℕ) → n ≡ length x / 16 + 1 → enc_rest k (pad_data x) n 0 v ≡ (hide k v x).bytes
unfolding hide blocks
enc_all k x n v e =
    let m : length (pad_data x) / 16 ≡ n = omega (arith, length-pad_data x) in
    rw (m, left_all)

pub dec_all : (k p : List ℕ) (n : ℕ) (v : List ℕ) → n ≡ length p / 16 → dec_rest k p n 0 v ≡ flat (dec_run k v (blocks p)).out
unfolding blocks
dec_all k p n v e = rw (e, left_all)
