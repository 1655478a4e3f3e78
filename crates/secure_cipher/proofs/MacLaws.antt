-- The chain MAC: a block, by as many steps as the padded input has blocks; and as the code makes it, the last block apart.
-- Assumes nothing.
use mathlib.Core.Path.{◌≡◌, refl, sym, ap, ap₂, ◌∙◌}
use mathlib.Core.List.{List, [], ◌∷◌, ◌++◌}
use Prim.Native.Nat.{ℕ, zero, suc, ◌+◌, ◌-◌, ◌*◌, ◌/◌, ◌≤◌, ◌<◌}
use native.Mathlib.Omega.{arith}
use lib.ListN.{length, take, drop, get_or, length-drop}
use lib.Seq.{drop-drop, take-append-le, drop-append-le}
use Rattle.std.specs.Simd.{first_chunks}
use Rattle.std.proofs.Math.Seq.{drop-cons}
use Rattle.laws.specs.Bytes.{Bytes, xorl}
use Rattle.laws.specs.Blocks.{Block, Blocks, cut, blocks}
use Rattle.laws.proofs.BlockLists.{block-xorl, length-blocks, blocks-blocks}
use Rattle.aes.specs.Cipher.{E}
use Rattle.aes.proofs.Laws.{E-block}
use Rattle.secure_cipher.specs.Pad.{pad_mac, pad_data, tail80}
use Rattle.secure_cipher.specs.Mac.{key_for, mac_run, mac_of, mac_calls}
use Rattle.secure_cipher.specs.Parts.{chained}
use Rattle.secure_cipher.proofs.PadLaws.{pad_mac_by, length-pad_mac, bytes-pad_mac}

-- ---- by the definitions alone

key-block : (k₁ k₂ : List ℕ) (bs : List (List ℕ)) → Block k₁ → Block k₂ → Block (key_for k₁ k₂ bs)
unfolding key_for
key-block k₁ k₂ [] h₁ h₂ = h₂
key-block k₁ k₂ (b ∷ bs) h₁ h₂ = h₁

run_block : (k₁ k₂ v : List ℕ) (bs : List (List ℕ)) → Block k₁ → Block k₂ → Block v → Blocks bs → Block (mac_run k₁ k₂ v bs).full
unfolding mac_run
run_block k₁ k₂ v [] h₁ h₂ hv h = hv
run_block k₁ k₂ v (b ∷ bs) h₁ h₂ hv h = run_block k₁ k₂ (E (key_for k₁ k₂ bs) (xorl v b)) bs h₁ h₂ (E-block _ _ (key-block k₁ k₂ bs h₁ h₂) (block-xorl v b hv h.0)) h.1

run_steps : (k₁ k₂ v : List ℕ) (bs : List (List ℕ)) → (mac_run k₁ k₂ v bs).steps ≡ length bs
unfolding mac_run
run_steps k₁ k₂ v [] = refl
run_steps k₁ k₂ v (b ∷ bs) = ap suc (run_steps k₁ k₂ (E (key_for k₁ k₂ bs) (xorl v b)) bs)

pub mac-block : (k₁ k₂ v l : List ℕ) → Block k₁ → Block k₂ → Block v → Bytes l → Block (mac_of k₁ k₂ v l).full
unfolding mac_of
mac-block k₁ k₂ v l h₁ h₂ hv h = run_block k₁ k₂ v _ h₁ h₂ hv (blocks-blocks (pad_mac l) (bytes-pad_mac l h))

pub mac-steps : (k₁ k₂ v l : List ℕ) → (mac_of k₁ k₂ v l).steps ≡ (length l + 15) / 16
unfolding mac_of
mac-steps k₁ k₂ v l = omega (arith, run_steps k₁ k₂ v (blocks (pad_mac l)), length-blocks (pad_mac l), length-pad_mac l)

-- whatever the keys, the start and the bytes, the length alone tells the steps
pub mac-counted : (k₁ k₂ v l : List ℕ) → mac_calls (length l) ≡ (mac_of k₁ k₂ v l).steps
unfolding mac_calls
mac-counted k₁ k₂ v l = sym (mac-steps k₁ k₂ v l)

-- ---- the blocks before the last, in a loop over them

pub chain_none : (k v : List ℕ) (bs : List (List ℕ)) → length bs ≡ 0 → v ≡ chained k v bs
unfolding chained
chain_none k v [] h = refl
chain_none k v (b ∷ bs) h = absurd (omega arith)

chained_cons : (k v b : List ℕ) (bs : List (List ℕ)) → chained k v (b ∷ bs) ≡ chained k (E k (xorl v b)) bs
unfolding chained
chained_cons k v b bs = refl

pub chain_next : (k v c : List ℕ) (bs : List (List ℕ)) (i : ℕ) → i < length bs → c ≡ E k (xorl v (get_or bs i [])) → chained k c (drop (i + 1) bs) ≡ chained k v (drop i bs)
chain_next k v c bs i h e =
    let n : i + 1 ≡ suc i = omega arith in
    rw (drop-cons bs i [] h, chained_cons, ← e, n)

pub chain_end : (k v : List ℕ) (bs : List (List ℕ)) (i : ℕ) → length bs ≤ i → v ≡ chained k v (drop i bs)
chain_end k v bs i h = chain_none k v (drop i bs) (length-drop i bs ∙ omega arith)

-- the blocks as a slice is cut into them
chunks_cut : (n : ℕ) (l : List ℕ) → first_chunks 16 n l ≡ cut n l
unfolding cut
chunks_cut zero l = refl
chunks_cut (suc n) l = ap (λ (bs : List (List ℕ)). take 16 l ∷ bs) (chunks_cut n (drop 16 l))

take-cut : (n m : ℕ) (l : List ℕ) → n ≤ m → take n (cut m l) ≡ cut n l
unfolding cut
take-cut zero m l h = refl
take-cut (suc n) zero l h = absurd (omega arith)
take-cut (suc n) (suc m) l h = ap (λ (bs : List (List ℕ)). take 16 l ∷ bs) (take-cut n m (drop 16 l) (omega arith))

pub chunks_front : (n m : ℕ) (l : List ℕ) (bs : List (List ℕ)) → n ≤ m → bs ≡ first_chunks 16 m l → take n bs ≡ cut n l
chunks_front n m l bs h e = ap (take n) (e ∙ chunks_cut m l) ∙ take-cut n m l h

-- ---- the last block apart

run_last : (k₁ k₂ v b : List ℕ) (bs : List (List ℕ)) → (mac_run k₁ k₂ v (bs ++ b ∷ [])).full ≡ E k₂ (xorl (chained k₁ v bs) b)
unfolding mac_run key_for chained
run_last k₁ k₂ v b [] = refl
run_last k₁ k₂ v b (a ∷ []) = refl
run_last k₁ k₂ v b (a ∷ (a₂ ∷ bs)) = run_last k₁ k₂ (E k₁ (xorl v a)) b (a₂ ∷ bs)

cut_snoc : (n : ℕ) (l : List ℕ) → cut (suc n) l ≡ cut n l ++ take 16 (drop (n * 16) l) ∷ []
unfolding cut
cut_snoc zero l = refl
cut_snoc (suc n) l =
    let e : 16 + n * 16 ≡ suc n * 16 = omega arith in
    ap (λ (r : List (List ℕ)). take 16 l ∷ r) (cut_snoc n (drop 16 l) ∙ ap (λ (x : List ℕ). cut n (drop 16 l) ++ take 16 x ∷ []) (drop-drop (n * 16) 16 l ∙ ap (λ (m : ℕ). drop m l) e))

cut_front : (n : ℕ) (l t : List ℕ) → n * 16 ≤ length l → cut n (l ++ t) ≡ cut n l
unfolding cut
cut_front zero l t h = refl
cut_front (suc n) l t h =
    ap₂ (λ (x : List ℕ) (y : List (List ℕ)). x ∷ y) (take-append-le 16 l t (omega arith))
    (ap (cut n) (drop-append-le 16 l t (omega arith)) ∙ cut_front n (drop 16 l) t (omega (arith, length-drop 16 l)))

cut-pad_mac : (n : ℕ) (l : List ℕ) → n * 16 ≤ length l → cut n (pad_mac l) ≡ cut n l
unfolding pad_data
cut-pad_mac n l h = pad_mac_by (λ (m : List ℕ). cut n m ≡ cut n l) l (λ e. refl) (λ e. cut_front n l (tail80 (length l)) h)

-- of no input
pub mac_none : (k₁ k₂ v l : List ℕ) → length l ≡ 0 → record { full = v; steps = 0 } ≡ mac_of k₁ k₂ v l
unfolding mac_of blocks mac_run cut
mac_none k₁ k₂ v l h =
    let e : length (pad_mac l) / 16 ≡ 0 = omega (arith, length-pad_mac l) in
    rw e

-- of some: f is the full MAC, p the value before the last block b, n the number of blocks before it
module _ (k₁ k₂ v l p b f : List ℕ) (n : ℕ) (h : 0 < length l) (en : n ≡ (length l - 1) / 16) (ep : p ≡ chained k₁ v (cut n l))
    (eb : b ≡ take 16 (drop ((length l - 1) / 16 * 16) (pad_mac l))) (ef : f ≡ E k₂ (xorl p b)) where
  last-cut : cut (suc n) (pad_mac l) ≡ cut n l ++ b ∷ []
  last-cut =
      cut_snoc n (pad_mac l)
      ∙ ap₂ (λ (x : List (List ℕ)) (y : List ℕ). x ++ y ∷ []) (cut-pad_mac n l (omega arith)) (sym (eb ∙ ap (λ (m : ℕ). take 16 (drop (m * 16) (pad_mac l))) (sym en)))

  last-full : (mac_of k₁ k₂ v l).full ≡ f
  unfolding mac_of blocks
  last-full =
      let e : length (pad_mac l) / 16 ≡ suc n = omega (arith, length-pad_mac l) in
      rw (e, last-cut) (run_last k₁ k₂ v b (cut n l) ∙ ap (λ (x : List ℕ). E k₂ (xorl x b)) (sym ep) ∙ sym ef)

  pub mac-last : (m : ℕ) → m ≡ n + 1 → record { full = f; steps = m } ≡ mac_of k₁ k₂ v l
  mac-last m em =
      let s : (mac_of k₁ k₂ v l).steps ≡ m = omega (arith, mac-steps k₁ k₂ v l) in
      λ i. record { full = sym last-full i; steps = sym s i }
