-- The data over a part of the buffer that is as long as it.
-- Assumes nothing.
use mathlib.Core.Path.{◌≡◌, refl, sym, ap, ◌∙◌}
use mathlib.Core.Bool.{Bool, true, false, false≢true}
use mathlib.Core.List.{List}
use Prim.Native.Nat.{ℕ, ◌≤◌}
use native.Mathlib.Omega.{arith}
use borrow.Author.Tests.{le-ltb}
use lib.ListN.{length}
use Rattle.laws.specs.Answer.{Answer.given}
use Rattle.laws.specs.Bytes.{Bytes, compl}
use Rattle.laws.specs.Blocks.{Block}
use Rattle.laws.specs.Over.{write}
use Rattle.secure_cipher.specs.Cbc.{Done, hide, hidden_len, encrypt_of, cipher_told}
use Rattle.secure_cipher.specs.declared.cipher.Ciphered.{Ciphered}
use Rattle.secure_session.specs.Chain.{send_from}
use Rattle.secure_session.specs.declared.session.Session.{Session}
use Rattle.secure_seal.specs.Seal.{data_len_for, data_of}
use Rattle.laws.proofs.Overwrite.{write_whole}
use Rattle.secure_seal.proofs.SealLaws.{plain-len, hidden_data, data-length}

encrypt-fits : (k v x o : List ℕ) → hidden_len x ≤ length o
    → encrypt_of k v x o ≡ record { answer = given (hidden_len x); out = write o 0 (hide k v x).bytes; steps = (hide k v x).steps }
unfolding encrypt_of
encrypt-fits k v x o h = rw (le-ltb (length o) (hidden_len x) h)

pub hidden_written : (e : Bool) (s : Session) (x o o₂ : List ℕ) (r : Ciphered ℕ) → e ≡ true → Block s.keys.s_enc → Block (send_from s) → Bytes x
    → length o ≡ data_len_for e x → cipher_told r o₂ ≡ encrypt_of s.keys.s_enc (compl (send_from s)) x o
    → (o₂ ≡ (data_of e s.keys.s_enc (send_from s) x).bytes) × (r.calls ≡ (data_of e s.keys.s_enc (send_from s) x).steps)
unfolding data_len_for
hidden_written true s x o o₂ r et hk hv hx n t =
    let k = s.keys.s_enc in
    let v = send_from s in
    let d : cipher_told r o₂ ≡ record { answer = given (hidden_len x); out = write o 0 (hide k (compl v) x).bytes; steps = (hide k (compl v) x).steps } =
    t ∙ encrypt-fits k (compl v) x o (omega arith) in
    let b : (hide k (compl v) x).bytes ≡ (data_of true k v x).bytes = sym (ap (λ h. h.bytes) (hidden_data k v x)) in (
      ap (λ (u : Done). u.out) d ∙ ap (write o 0) b ∙ write_whole o (data_of true k v x).bytes (n ∙ sym (data-length k v x hk hv hx true)),
      ap (λ (u : Done). u.steps) d ∙ sym (ap (λ h. h.steps) (hidden_data k v x)),
    )
hidden_written false s x o o₂ r et hk hv hx n t = absurd (false≢true et)

pub plain_fits : (e : Bool) (x o : List ℕ) → e ≡ false → length o ≡ data_len_for e x → length o ≡ length x
plain_fits false x o ef n = n ∙ plain-len x
plain_fits true x o ef n = absurd (false≢true (sym ef))

pub plain-written : (e : Bool) (k v x o₂ : List ℕ) → e ≡ false → o₂ ≡ x → (o₂ ≡ (data_of e k v x).bytes) × (0 ≡ (data_of e k v x).steps)
unfolding data_of
plain-written false k v x o₂ ef h = (h, refl)
plain-written true k v x o₂ ef h = absurd (false≢true (sym ef))
