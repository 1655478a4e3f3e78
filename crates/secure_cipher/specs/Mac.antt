-- The chain MAC (docs/RULES.md, 6), each call of the cipher counted where it is made.
-- Assumes nothing.
use Rattle.std.specs.Prelude.{ℕ, suc, ◌+◌, ◌/◌, List, [], ◌∷◌}
use Rattle.laws.specs.Bytes.{xorl}
use Rattle.laws.specs.Blocks.{blocks}
use Rattle.aes.specs.Cipher.{E}
use Rattle.secure_cipher.specs.Pad.{pad_mac}
use Rattle.secure_cipher.specs.declared.mac.ChainMac.{ChainMac}

-- sixteen bytes, of which four travel, and how often the cipher was called
pub record Mac : Type 0 where
  pub full : List ℕ
  pub steps : ℕ

-- a block is enciphered with S-MAC1, the last with S-MAC2
unfoldable pub key_for : List ℕ → List ℕ → List (List ℕ) → List ℕ
key_for k₁ k₂ [] = k₂
key_for k₁ k₂ (b ∷ bs) = k₁

-- from the chain value v on, each block is XORed in and enciphered; of no block, the chain value
unfoldable pub mac_run : List ℕ → List ℕ → List ℕ → List (List ℕ) → Mac
mac_run k₁ k₂ v [] = record { full = v; steps = 0 }
mac_run k₁ k₂ v (b ∷ bs) =
    let r = mac_run k₁ k₂ (E (key_for k₁ k₂ bs) (xorl v b)) bs in
    record { full = r.full; steps = suc r.steps }

unfoldable pub mac_of : List ℕ → List ℕ → List ℕ → List ℕ → Mac
mac_of k₁ k₂ v l = mac_run k₁ k₂ v (blocks (pad_mac l))

-- the cipher calls for n bytes (docs/RULES.md, 9.2): n/16, rounded up; `MacLaws.mac-counted` says that these are the steps above
unfoldable pub mac_calls : ℕ → ℕ
mac_calls n = (n + 15) / 16

-- ---- the code's answer, as the paper has it

abbrev pub mac_told : ChainMac → Mac
mac_told m = record { full = m.full; steps = m.calls }
