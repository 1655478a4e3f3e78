-- The answers have one reading, so a promise on it settles them: any two outcomes that a promise allows are equal.
-- Assumes nothing.
use mathlib.Core.Path.{◌≡◌, refl, ap}
use mathlib.Core.List.{List}
use Prim.Native.Nat.{ℕ}
use Rattle.std.specs.Prelude.{Result}
use Rattle.refusal.specs.declared.Refusal.{Refusal}
use Rattle.refusal.proofs.OneReading.{result_settled}
use Rattle.secure_unseal.specs.Unseal.{Place, UnsealDone, place, place_answer, unseal_told}
use Rattle.secure_session.specs.declared.session.Processed.{Processed}
use Rattle.secure_unseal.specs.declared.frame.PayloadPlace.{PayloadPlace}

abbrev place_from : Place → PayloadPlace
place_from p = record { in_work = p.in_work; start = p.start; len = p.len }

pub place_settled : (r s : Result PayloadPlace Refusal) → place_answer r ≡ place_answer s → r ≡ s
place_settled = result_settled place place_from (λ p. refl)

pub unseal_settled : (r s : Processed PayloadPlace) (w x : List ℕ) → unseal_told r w ≡ unseal_told s x → (r ≡ s) × (w ≡ x)
unseal_settled r s w x e = (
  λ i. record { answer = place_settled r.answer s.answer (ap (λ (d : UnsealDone). d.answer) e) i; calls = (e i).steps; session = (e i).session },
  ap (λ (d : UnsealDone). d.work) e,
)
