-- The derived keys, the cryptograms and the first chain value are blocks.
-- Assumes nothing.
use mathlib.Core.List.{List, ◌∷◌, ◌++◌}
use Prim.Native.Nat.{ℕ, ◌<◌}
use native.Mathlib.Omega.{arith}
use lib.ListN.{take, length-append, length-take}
use Rattle.laws.specs.Blocks.{Block}
use Rattle.laws.specs.Bytes.{zeros}
use Rattle.laws.proofs.ByteLists.{bytes_cons, bytes-append, bytes_take, bytes-zeros}
use Rattle.aes.specs.Cipher.{E}
use Rattle.aes.proofs.Laws.{E-block}
use Rattle.secure_keys.specs.Keys.{Random, template, derive, client_of, server_of, first_of}
use Rattle.secure_keys.specs.declared.crypto.SessionKeys.{SessionKeys}

-- three keys that are blocks
pub record GoodKeys (k : SessionKeys) : Type 0 where
  pub enc : Block k.s_enc
  pub mac₁ : Block k.s_mac1
  pub mac₂ : Block k.s_mac2

template-block : (t : ℕ) (a : List ℕ) → t < 256 → Random a → Block (template t a)
template-block t a h n = record {
  size = simp (length-append, length-take) (omega (arith, n.size));
  bytes = bytes_cons 1 (t ∷ (take 6 a ++ zeros 8)) (omega arith)
      (bytes_cons t (take 6 a ++ zeros 8) h (bytes-append (take 6 a) (zeros 8) (bytes_take 6 a n.bytes) (bytes-zeros 8)));
}

pub derive_good : (k a : List ℕ) → Block k → Random a → GoodKeys (derive k a)
unfolding derive
derive_good k a hk ha = record {
  enc = E-block k (template 0x82 a) hk (template-block 0x82 a (omega arith) ha);
  mac₁ = E-block k (template 0x01 a) hk (template-block 0x01 a (omega arith) ha);
  mac₂ = E-block k (template 0x02 a) hk (template-block 0x02 a (omega arith) ha);
}

pair_block : (x y : List ℕ) → Random x → Random y → Block (x ++ y)
pair_block x y hx hy = record { size = omega (arith, length-append x y, hx.size, hy.size); bytes = bytes-append x y hx.bytes hy.bytes }

pub client-block : (k a b : List ℕ) → Block k → Random a → Random b → Block (client_of k a b)
unfolding client_of
client-block k a b hk ha hb = E-block k (a ++ b) hk (pair_block a b ha hb)

pub server-block : (k a b : List ℕ) → Block k → Random a → Random b → Block (server_of k a b)
unfolding server_of
server-block k a b hk ha hb = E-block k (b ++ a) hk (pair_block b a hb ha)

pub first_block : (k₁ k₂ c : List ℕ) → Block k₁ → Block k₂ → Block c → Block (first_of k₁ k₂ c)
unfolding first_of
first_block k₁ k₂ c h₁ h₂ hc = E-block k₂ (E k₁ c) h₂ (E-block k₁ c h₁ hc)
