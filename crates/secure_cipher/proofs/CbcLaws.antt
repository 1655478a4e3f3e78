-- CBC: how long what is hidden becomes, and deciphering undoes enciphering.
-- Assumes nothing.
use mathlib.Core.Path.{◌≡◌, refl, ap, ap₂, ◌∙◌}
use mathlib.Core.Bool.{true, false}
use mathlib.Core.List.{List, [], ◌∷◌}
use Prim.Native.Nat.{ℕ, suc, ◌+◌, ◌*◌, ◌/◌, ◌%◌}
use native.Mathlib.Omega.{arith}
use borrow.Author.Tests.{eq-eqb, ne_eqb}
use lib.Dec.{eqb}
use lib.ListN.{length}
use Rattle.laws.specs.Answer.{Answer.given}
use Rattle.laws.specs.Bytes.{Bytes, xorl}
use Rattle.laws.specs.Blocks.{Block, Blocks, blocks}
use Rattle.laws.proofs.ByteLists.{xorl_cancel}
use Rattle.laws.proofs.BlockLists.{block-xorl, length-blocks, length-flat, bytes-flat, blocks-flat, flat-blocks, blocks-blocks}
use Rattle.aes.specs.Cipher.{E}
use Rattle.aes.proofs.Laws.{E-block, D-E}
use Rattle.secure_cipher.specs.Pad.{pad_data}
use Rattle.secure_cipher.specs.Cbc.{enc_run, dec_run, hide, reveal}
use Rattle.secure_cipher.proofs.PadLaws.{length-pad_data, bytes-pad_data, unpad-pad_data}

-- ---- runs of blocks

pub enc_blocks : (k v : List ℕ) (bs : List (List ℕ)) → Block k → Block v → Blocks bs → Blocks (enc_run k v bs).out
unfolding enc_run
enc_blocks k v [] hk hv h = tt
enc_blocks k v (b ∷ bs) hk hv h =
    let hc : Block (E k (xorl b v)) = E-block k (xorl b v) hk (block-xorl b v h.0 hv) in
    (hc, enc_blocks k (E k (xorl b v)) bs hk hc h.1)

pub enc_length : (k v : List ℕ) (bs : List (List ℕ)) → length (enc_run k v bs).out ≡ length bs
unfolding enc_run
enc_length k v [] = refl
enc_length k v (b ∷ bs) = ap suc (enc_length k (E k (xorl b v)) bs)

pub enc_steps : (k v : List ℕ) (bs : List (List ℕ)) → (enc_run k v bs).steps ≡ length bs
unfolding enc_run
enc_steps k v [] = refl
enc_steps k v (b ∷ bs) = ap suc (enc_steps k (E k (xorl b v)) bs)

pub dec_steps : (k v : List ℕ) (bs : List (List ℕ)) → (dec_run k v bs).steps ≡ length bs
unfolding dec_run
dec_steps k v [] = refl
dec_steps k v (c ∷ cs) = ap suc (dec_steps k c cs)

-- deciphering undoes enciphering
pub dec_enc : (k v : List ℕ) (bs : List (List ℕ)) → Block k → Block v → Blocks bs → (dec_run k v (enc_run k v bs).out).out ≡ bs
unfolding dec_run enc_run
dec_enc k v [] hk hv h = refl
dec_enc k v (b ∷ bs) hk hv h =
    let hx : Block (xorl b v) = block-xorl b v h.0 hv in
    let hc : Block (E k (xorl b v)) = E-block k (xorl b v) hk hx in
    ap₂ (λ (x : List ℕ) (y : List (List ℕ)). x ∷ y) (ap (λ (x : List ℕ). xorl x v) (D-E k (xorl b v) hk hx) ∙ xorl_cancel b v)
    (dec_enc k (E k (xorl b v)) bs hk hc h.1)

-- ---- a payload

pub steps-hide : (k v x : List ℕ) → (hide k v x).steps ≡ length x / 16 + 1
unfolding hide
steps-hide k v x = omega (arith, enc_steps k v (blocks (pad_data x)), length-blocks (pad_data x), length-pad_data x)

module _ (k v x : List ℕ) (hk : Block k) (hv : Block v) (hx : Bytes x) where
  pad-whole : length (pad_data x) % 16 ≡ 0
  pad-whole = omega (arith, length-pad_data x)

  hidden-blocks : Blocks (enc_run k v (blocks (pad_data x))).out
  hidden-blocks = enc_blocks k v (blocks (pad_data x)) hk hv (blocks-blocks (pad_data x) (bytes-pad_data x hx))

  pub length-hide : length (hide k v x).bytes ≡ (length x / 16 + 1) * 16
  unfolding hide
  length-hide =
      omega (arith, length-flat (enc_run k v (blocks (pad_data x))).out hidden-blocks, enc_length k v (blocks (pad_data x)), length-blocks (pad_data x), length-pad_data x)

  pub bytes-hide : Bytes (hide k v x).bytes
  unfolding hide
  bytes-hide = bytes-flat _ hidden-blocks

  blocks-hide : blocks (hide k v x).bytes ≡ (enc_run k v (blocks (pad_data x))).out
  unfolding hide
  blocks-hide = blocks-flat _ hidden-blocks

  -- what was hidden is revealed, by as many steps
  pub reveal-hide : reveal k v (hide k v x).bytes ≡ record { answer = given (length x); text = pad_data x; steps = length x / 16 + 1 }
  unfolding reveal
  reveal-hide =
      let n = length-hide in
      let a : eqb (length (hide k v x).bytes) 0 ≡ false = ne_eqb (length (hide k v x).bytes) 0 (λ h. omega arith) in
      let b : eqb (length (hide k v x).bytes % 16) 0 ≡ true = eq-eqb (length (hide k v x).bytes % 16) 0 (omega arith) in
      let d = dec_enc k v (blocks (pad_data x)) hk hv (blocks-blocks (pad_data x) (bytes-pad_data x hx)) in
      let m : (dec_run k v (enc_run k v (blocks (pad_data x))).out).steps ≡ length x / 16 + 1 =
      omega (arith, dec_steps k v (enc_run k v (blocks (pad_data x))).out, enc_length k v (blocks (pad_data x)), length-blocks (pad_data x), length-pad_data x) in
      rw (a, b, blocks-hide, d, m, flat-blocks (pad_data x) pad-whole, unpad-pad_data x)
