-- What the promise of a call on a lent session allows is one outcome: any two have the same answer, leave the same session, and the same
-- buffer where one is written. Each call by value has the law that this rests on.
-- Assumes nothing.
use mathlib.Core.List.{List}
use mathlib.Core.Path.{◌≡◌, refl, sym, ap, ◌∙◌}
use Prim.Native.Nat.{ℕ}
use Rattle.std.specs.Prelude.{Result, ⊤}
use Rattle.refusal.specs.declared.Refusal.{Refusal}
use Rattle.secure_cipher.specs.declared.cipher.Ciphered.{Ciphered}
use Rattle.secure_session.specs.Session.{wiped_of}
use Rattle.secure_session.specs.Handshake.{Step, challenge_of, receive_ccrypt_of, confirm_of, receive_challenge_of, receive_scrypt_of, stepped, stepped_block}
use Rattle.secure_session.specs.Channel.{make_mac, verify_of}
use Rattle.secure_session.specs.declared.session.Processed.{Processed}
use Rattle.secure_session.specs.declared.session.Session.{Session}
use Rattle.secure_session.specs.declared.session.Stepped.{Stepped}
use Rattle.secure_session.proofs.Settled.{stepped_settled, block_settled}
use Rattle.secure_seal.specs.Seal.{SealDone, asked_of, seal_of, seal_told}
use Rattle.secure_seal.specs.declared.frame.ToSeal.{ToSeal}
use Rattle.secure_seal.proofs.Settled.{seal_settled}
use Rattle.secure_unseal.specs.Unseal.{UnsealDone, unseal_of, unseal_told}
use Rattle.secure_unseal.specs.declared.frame.PayloadPlace.{PayloadPlace}
use Rattle.secure_unseal.proofs.Settled.{unseal_settled}

-- of what is answered and what is left, P allows one
abbrev pub Settles : {A B : Type 0} → (A → B → Type 0) → Type 0
Settles {A} {B} P = (r r' : A) (t t' : B) → P r t → P r' t' → (r ≡ r') × (t ≡ t')

-- ---- what each contract says, of an answer and of what is left

abbrev Steps : Step (Unit {0}) → Result ⊤ Refusal → Session → Type 0
Steps x r t = stepped (record { answer = r; session = t }) ≡ x

abbrev StepsBlock : Step (List ℕ) → Result (List ℕ) Refusal → Session → Type 0
StepsBlock x r t = stepped_block (record { answer = r; session = t }) ≡ x

abbrev counted : {A : Type 0} → Ciphered A → Session → Processed A
counted r t = record { answer = r.answer; calls = r.calls; session = t }

abbrev Seals : SealDone → Ciphered ℕ → Session × List ℕ → Type 0
Seals x r t = seal_told (counted r t.0) t.1 ≡ x

abbrev Unseals : UnsealDone → Ciphered PayloadPlace → Session × List ℕ → Type 0
Unseals x r t = unseal_told (counted r t.0) t.1 ≡ x

-- ---- each settles it, whatever x is

-- one step is one answer and one session
parts : {A : Type 0} {r r' : Result A Refusal} {t t' : Session} → Path (Stepped A) (record { answer = r; session = t }) (record { answer = r'; session = t' }) → (r ≡ r') × (t ≡ t')
parts {A} e = (ap (λ (y : Stepped A). y.answer) e, ap (λ (y : Stepped A). y.session) e)

counted_parts : {A : Type 0} {r r' : Ciphered A} {t t' : Session × List ℕ} → (counted r t.0 ≡ counted r' t'.0) × (t.1 ≡ t'.1) → (r ≡ r') × (t ≡ t')
counted_parts {A} e = (ap (λ (y : Processed A). record { answer = y.answer; calls = y.calls }) e.0, λ i. ((e.0 i).session, e.1 i))

steps_settle : (x : Step (Unit {0})) → Settles (Steps x)
steps_settle x r r' t t' h h' = parts (stepped_settled (record { answer = r; session = t }) (record { answer = r'; session = t' }) (h ∙ sym h'))

blocks_settle : (x : Step (List ℕ)) → Settles (StepsBlock x)
blocks_settle x r r' t t' h h' = parts (block_settled (record { answer = r; session = t }) (record { answer = r'; session = t' }) (h ∙ sym h'))

seals_settle : (x : SealDone) → Settles (Seals x)
seals_settle x r r' t t' h h' = counted_parts (seal_settled (counted r t.0) (counted r' t'.0) t.1 t'.1 (h ∙ sym h'))

unseals_settle : (x : UnsealDone) → Settles (Unseals x)
unseals_settle x r r' t t' h h' = counted_parts (unseal_settled (counted r t.0) (counted r' t'.0) t.1 t'.1 (h ∙ sym h'))

-- ---- the ten calls, on a session s

module _ (s : Session) where
  pub lent-wipe-settled : Settles (λ (r : Unit {0}) (t : Session). t ≡ wiped_of s)
  lent-wipe-settled r r' t t' h h' = (refl, h ∙ sym h')

  pub lent-challenge-settled : (a : List ℕ) → Settles (Steps (challenge_of s a))
  lent-challenge-settled a = steps_settle _

  pub lent-receive-ccrypt-settled : (u b c : List ℕ) → Settles (Steps (receive_ccrypt_of s u b c))
  lent-receive-ccrypt-settled u b c = steps_settle _

  pub lent-confirm-settled : (m : List ℕ) → Settles (Steps (confirm_of s m))
  lent-confirm-settled m = steps_settle _

  pub lent-receive-challenge-settled : (a b : List ℕ) → Settles (StepsBlock (receive_challenge_of s a b))
  lent-receive-challenge-settled a b = blocks_settle _

  pub lent-receive-scrypt-settled : (c : List ℕ) → Settles (StepsBlock (receive_scrypt_of s c))
  lent-receive-scrypt-settled c = blocks_settle _

  pub lent-mac-settled : (l : List ℕ) → Settles (StepsBlock (make_mac s l))
  lent-mac-settled l = blocks_settle _

  pub lent-verify-settled : (l m : List ℕ) → Settles (Steps (verify_of s l m))
  lent-verify-settled l m = steps_settle _

  pub lent-seal-settled : (w : ToSeal) (x o : List ℕ) → Settles (Seals (seal_of s (asked_of w x) o))
  lent-seal-settled w x o = seals_settle _

  pub lent-unseal-settled : (f w : List ℕ) → Settles (Unseals (unseal_of s f w))
  lent-unseal-settled f w = unseals_settle _
