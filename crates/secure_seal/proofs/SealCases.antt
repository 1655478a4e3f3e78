-- What sealing answers and leaves behind, case by case, in the order of its tests.
-- Assumes nothing.
use mathlib.Core.Path.{◌≡◌, refl, sym, ap, ◌∙◌}
use mathlib.Core.Bool.{Bool, true, false, not}
use mathlib.Core.List.{List, [], ◌∷◌}
use Prim.Native.Nat.{ℕ, ◌≤◌, ◌<◌}
use borrow.Author.Tests.{lt-ltb, le-ltb, ltb-false, not-true, not-false}
use lib.ListN.{length}
use Rattle.laws.specs.Answer.{Answer, Answer.given, Answer.refused, refuse_if}
use Rattle.laws.proofs.Answers.{Holds, holds_refuse, holds_given}
use Rattle.refusal.specs.Paper.{refusal_of}
use Rattle.refusal.specs.declared.Refusal.{Refusal}
use Rattle.refusal.specs.declared.Refusal.TheVariants.{WrongState}
use Rattle.secure_session.specs.Chain.{send_from}
use Rattle.secure_session.specs.Session.{is_secure}
use Rattle.secure_session.specs.declared.session.Session.{Session}
use Rattle.secure_seal.specs.Seal.{Asked, total_of, sealed_frame, frame_test, sealing, seal_run, SealDone, after_seal, sealed_on, seal_of, seal_told}
use Rattle.secure_seal.specs.Parts.{Put, refused_with}
use Rattle.secure_session.specs.declared.session.Processed.{Processed}

abbrev seal_done : Answer ℕ → Session → List ℕ → ℕ → SealDone
seal_done a s o n = record { answer = a; session = s; out = o; steps = n }

pub seal_not_secure : (s : Session) (q : Asked) (o : List ℕ) → is_secure s.state ≡ false → seal_done (refused 16 []) s o 0 ≡ seal_of s q o
unfolding seal_of seal_run sealing after_seal refuse_if
seal_not_secure s q o e = rw e

-- what the tests of the frame leave
abbrev pub picked : Session → Asked → List ℕ → Answer ℕ → SealDone
picked s q o a = sealed_on s (sealing (sealed_frame s.keys (send_from s) q) o a)

pub seal_tested : (s : Session) (q : Asked) (o : List ℕ) → is_secure s.state ≡ true → picked s q o (frame_test q.sqn (total_of q) (length o)) ≡ seal_of s q o
unfolding seal_of seal_run refuse_if
seal_tested s q o e = rw e

-- ---- the tests of the frame

module _ (n sqn t have : ℕ) (en : n ≡ sqn) where
  pub test-sqn : 3 < n → refused 10 (n ∷ []) ≡ frame_test sqn t have
  unfolding frame_test refuse_if
  test-sqn h = rw (← en, lt-ltb 3 n h)

  pub test-long : n ≤ 3 → 65535 < t → refused 12 (t ∷ 65535 ∷ []) ≡ frame_test sqn t have
  unfolding frame_test refuse_if
  test-long h m = rw (← en, le-ltb 3 n h, lt-ltb 65535 t m)

  pub test-room : n ≤ 3 → t ≤ 65535 → have < t → refused 18 (t ∷ have ∷ []) ≡ frame_test sqn t have
  unfolding frame_test refuse_if
  test-room h m r = rw (← en, le-ltb 3 n h, le-ltb 65535 t m, lt-ltb have t r)

  pub test_good : n ≤ 3 → t ≤ 65535 → t ≤ have → given t ≡ frame_test sqn t have
  unfolding frame_test refuse_if
  test_good h m r = rw (← en, le-ltb 3 n h, le-ltb 65535 t m, le-ltb have t r)

-- what passes the tests
pub record PassedTests (q : Asked) (have t : ℕ) : Type 0 where
  pub sqn : q.sqn ≤ 3
  pub total : total_of q ≡ t
  pub most : total_of q ≤ 65535
  pub room : total_of q ≤ have

tests_hold : (q : Asked) (have : ℕ) → Holds (PassedTests q have) (frame_test q.sqn (total_of q) have)
unfolding frame_test
tests_hold q have =
    holds_refuse _ _ _ _ _ (λ n. holds_refuse _ _ _ _ _ (λ m. holds_refuse _ _ _ _ _ (λ r.
    record { sqn = ltb-false _ _ n; total = refl; most = ltb-false _ _ m; room = ltb-false _ _ r })))

pub tests_passed : (q : Asked) (have t : ℕ) {a : Answer ℕ} → a ≡ given t → a ≡ frame_test q.sqn (total_of q) have → PassedTests q have t
tests_passed q have t g e = holds_given (PassedTests q have) (frame_test q.sqn (total_of q) have) t (tests_hold q have) (sym e ∙ g)

-- ---- as the code has them: b is its test of the state, a what the tests of the frame answered

module _ (s : Session) (q : Asked) (o : List ℕ) (b : Bool) (eb : b ≡ is_secure s.state) where
  pub told-not-secure : {r : Processed ℕ} → not b ≡ true → r ≡ refused_with s WrongState → seal_told r o ≡ seal_of s q o
  told-not-secure h er = ap (λ (x : Processed ℕ). seal_told x o) er ∙ seal_not_secure s q o (sym eb ∙ not-true b h)

  module _ (secure : not b ≡ false) {a : Answer ℕ} (ea : a ≡ frame_test q.sqn (total_of q) (length o)) where
    tested : picked s q o a ≡ seal_of s q o
    tested = ap (picked s q o) ea ∙ seal_tested s q o (sym eb ∙ not-false b secure)

    pub told-refused : {r : Processed ℕ} (e : Refusal) → a ≡ refusal_of e → r ≡ refused_with s e → seal_told r o ≡ seal_of s q o
    unfolding sealing after_seal
    told-refused e h er = ap (λ (x : Processed ℕ). seal_told x o) er ∙ ap (picked s q o) (sym h) ∙ tested

    pub told-done : (t : ℕ) {r : Processed ℕ} {o₂ : List ℕ} → a ≡ given t → Put s q o o₂ r → seal_told r o₂ ≡ seal_of s q o
    unfolding sealing after_seal
    told-done t h p =
        (λ i. seal_done ((p.told ∙ ap given (tests_passed q (length o) t h ea).total) i) (p.moved i) (p.here i) (p.counted i)) ∙ ap (picked s q o) (sym h) ∙ tested
