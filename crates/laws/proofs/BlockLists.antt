-- A list cut into blocks of sixteen, and joined again.
-- Assumes nothing.
use mathlib.Core.Path.{◌≡◌, refl, ap, ap₂, ◌∙◌}
use mathlib.Core.List.{List, [], ◌∷◌, ◌++◌}
use Prim.Native.Nat.{ℕ, zero, suc, ◌*◌, ◌/◌, ◌%◌, ◌≤◌}
use native.Mathlib.Omega.{arith}
use lib.ListN.{length, take, drop, length-append, length-take, length-drop, take-append-drop}
use lib.Seq.{take_at, drop_at}
use Rattle.laws.specs.Bytes.{Bytes, xorl, compl}
use Rattle.laws.specs.Blocks.{Block, Blocks, cut, blocks, flat}
use Rattle.laws.proofs.ByteLists.{bytes_nil, bytes-append, bytes_take, bytes_drop, length-xorl, bytes-xorl, length-compl, bytes-compl}

pub block-xorl : (a b : List ℕ) → Block a → Block b → Block (xorl a b)
block-xorl a b ha hb = record { size = length-xorl a b ∙ ha.size; bytes = bytes-xorl a b ha.bytes hb.bytes }

-- the complement's bytes are bytes whatever it is of
pub block-compl : (a : List ℕ) → length a ≡ 16 → Block (compl a)
block-compl a h = record { size = length-compl a ∙ h; bytes = bytes-compl a }

pub cut_suc : (n : ℕ) (l : List ℕ) → cut (suc n) l ≡ take 16 l ∷ cut n (drop 16 l)
unfolding cut
cut_suc n l = refl

pub length_cut : (n : ℕ) (l : List ℕ) → length (cut n l) ≡ n
unfolding cut
length_cut zero l = refl
length_cut (suc n) l = ap suc (length_cut n (drop 16 l))

pub length-blocks : (l : List ℕ) → length (blocks l) ≡ length l / 16
unfolding blocks
length-blocks l = length_cut (length l / 16) l

pub cut-blocks : (n : ℕ) (l : List ℕ) → n * 16 ≤ length l → Bytes l → Blocks (cut n l)
unfolding cut
cut-blocks zero l h b = tt
cut-blocks (suc n) l h b = (
  record { size = simp length-take (omega arith); bytes = bytes_take 16 l b },
  cut-blocks n (drop 16 l) (simp length-drop (omega arith)) (bytes_drop 16 l b),
)

pub flat-cut : (n : ℕ) (l : List ℕ) → length l ≡ n * 16 → flat (cut n l) ≡ l
unfolding cut flat
flat-cut zero [] h = refl
flat-cut zero (x ∷ l) h = absurd (omega arith)
flat-cut (suc n) l h = ap (λ (r : List ℕ). take 16 l ++ r) (flat-cut n (drop 16 l) (simp length-drop (omega arith))) ∙ take-append-drop 16 l

pub length-flat : (bs : List (List ℕ)) → Blocks bs → length (flat bs) ≡ length bs * 16
unfolding flat
length-flat [] h = refl
length-flat (b ∷ bs) h = omega (arith, length-append b (flat bs), length-flat bs h.1, h.0.size)

pub bytes-flat : (bs : List (List ℕ)) → Blocks bs → Bytes (flat bs)
unfolding flat
bytes-flat [] h = bytes_nil
bytes-flat (b ∷ bs) h = bytes-append b (flat bs) h.0.bytes (bytes-flat bs h.1)

pub cut-flat : (bs : List (List ℕ)) → Blocks bs → cut (length bs) (flat bs) ≡ bs
unfolding cut flat
cut-flat [] h = refl
cut-flat (b ∷ bs) h =
    ap₂ (λ (x : List ℕ) (y : List (List ℕ)). x ∷ y) (take_at b (flat bs) 16 h.0.size)
    (ap (λ (r : List ℕ). cut (length bs) r) (drop_at b (flat bs) 16 h.0.size) ∙ cut-flat bs h.1)

pub blocks-flat : (bs : List (List ℕ)) → Blocks bs → blocks (flat bs) ≡ bs
unfolding blocks
blocks-flat bs h =
    let e : length (flat bs) / 16 ≡ length bs = omega (arith, length-flat bs h) in
    rw e (cut-flat bs h)

pub flat-blocks : (l : List ℕ) → length l % 16 ≡ 0 → flat (blocks l) ≡ l
unfolding blocks
flat-blocks l h = flat-cut (length l / 16) l (omega arith)

pub blocks-blocks : (l : List ℕ) → Bytes l → Blocks (blocks l)
unfolding blocks
blocks-blocks l b = cut-blocks (length l / 16) l (omega arith) b
