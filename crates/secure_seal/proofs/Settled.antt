-- A sealing has one reading, so its promise settles it: any two outcomes that the promise allows are equal.
-- Assumes nothing.
use mathlib.Core.Path.{◌≡◌, ap}
use mathlib.Core.List.{List}
use Prim.Native.Nat.{ℕ}
use Rattle.refusal.proofs.OneReading.{length_settled}
use Rattle.secure_seal.specs.Seal.{SealDone, seal_told}
use Rattle.secure_session.specs.declared.session.Processed.{Processed}

-- answer, number of calls, session, buffer
pub seal_settled : (r s : Processed ℕ) (o p : List ℕ) → seal_told r o ≡ seal_told s p → (r ≡ s) × (o ≡ p)
seal_settled r s o p e = (
  λ i. record { answer = length_settled r.answer s.answer (ap (λ (d : SealDone). d.answer) e) i; calls = (e i).steps; session = (e i).session },
  ap (λ (d : SealDone). d.out) e,
)
