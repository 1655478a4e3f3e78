-- Each answer of this crate has one reading, so a promise on its reading settles it.
-- Assumes nothing.
use Rattle.std.specs.Prelude.{Option, Some, None, Result, ⊤}
use Rattle.std.proofs.Math.Bool.{Bool-set}
use mathlib.Core.Bool.{true}
use mathlib.Core.List.{List}
use mathlib.Core.Path.{◌≡◌, refl, ap, ap₂, subst}
use Prim.Native.Nat.{ℕ}
use Rattle.refusal.specs.declared.Refusal.{Refusal}
use Rattle.refusal.proofs.OneReading.{outcome_settled, result_settled}
use Rattle.secure_keys.specs.declared.crypto.SessionKeys.{SessionKeys}
use Rattle.secure_session.specs.Channel.{keys_answer}
use Rattle.secure_session.specs.Handshake.{Step, stepped, stepped_block, block_answer}
use Rattle.secure_session.specs.Secure.{secure_told}
use Rattle.secure_session.specs.Session.{is_secure}
use Rattle.secure_session.specs.declared.secure.SecureSession.{SecureSession}
use Rattle.secure_session.specs.declared.session.Session.{Session}
use Rattle.secure_session.specs.declared.session.Stepped.{Stepped}

pub answer_settled : (r s : Result (List ℕ) Refusal) → block_answer r ≡ block_answer s → r ≡ s
answer_settled = result_settled (λ b. b) (λ b. b) (λ b. refl)

pub keys_settled : (r s : Result SessionKeys Refusal) → keys_answer r ≡ keys_answer s → r ≡ s
keys_settled = result_settled (λ k. k) (λ k. k) (λ k. refl)

pub stepped_settled : (r s : Stepped ⊤) → stepped r ≡ stepped s → r ≡ s
stepped_settled r s e =
    ap₂ (λ (a : Result ⊤ Refusal) (t : Session). record { answer = a; session = t })
    (outcome_settled r.answer s.answer tt tt (ap (λ (x : Step (Unit {0})). x.answer) e)) (ap (λ (x : Step (Unit {0})). x.session) e)

pub block_settled : (r s : Stepped (List ℕ)) → stepped_block r ≡ stepped_block s → r ≡ s
block_settled r s e =
    ap₂ (λ (a : Result (List ℕ) Refusal) (t : Session). record { answer = a; session = t })
    (answer_settled r.answer s.answer (ap (λ (x : Step (List ℕ)). x.answer) e)) (ap (λ (x : Step (List ℕ)). x.session) e)

-- what a session that is Secure has beside the session is a fact, and any two proofs of it are equal
same_secure : (t u : SecureSession) → t.session ≡ u.session → t ≡ u
same_secure t u e =
    subst (λ (s : Session). (h : is_secure s.state ≡ true) → t ≡ record { session = s; secure = h }) e
    (λ h i. record { session = t.session; secure = Bool-set _ _ t.secure h i }) u.secure

pub secure_settled : (r s : Option SecureSession) → secure_told r ≡ secure_told s → r ≡ s
secure_settled (Some t) (Some u) e = ap Some (same_secure t u cc)
secure_settled (Some t) None e = absurd cc
secure_settled None (Some u) e = absurd cc
secure_settled None None e = refl
