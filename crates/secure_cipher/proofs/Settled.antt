-- The answers have one reading, so a promise on it settles them: any two outcomes that a promise allows are equal.
-- Assumes nothing.
use mathlib.Core.Path.{◌≡◌, ap}
use mathlib.Core.List.{List}
use Prim.Native.Nat.{ℕ}
use Rattle.refusal.proofs.OneReading.{length_settled}
use Rattle.secure_cipher.specs.Mac.{mac_told}
use Rattle.secure_cipher.specs.Cbc.{Done, cipher_told}
use Rattle.secure_cipher.specs.declared.mac.ChainMac.{ChainMac}
use Rattle.secure_cipher.specs.declared.cipher.Ciphered.{Ciphered}

-- the chain MAC
pub mac_settled : (r s : ChainMac) → mac_told r ≡ mac_told s → r ≡ s
mac_settled r s e = λ i. record { full = (e i).full; calls = (e i).steps }

-- enciphering and deciphering: answer, number of calls, buffer
pub cipher_settled : (r s : Ciphered ℕ) (o p : List ℕ) → cipher_told r o ≡ cipher_told s p → (r ≡ s) × (o ≡ p)
cipher_settled r s o p e = (
  λ i. record { answer = length_settled r.answer s.answer (ap (λ (d : Done). d.answer) e) i; calls = (e i).steps },
  ap (λ (d : Done). d.out) e,
)
