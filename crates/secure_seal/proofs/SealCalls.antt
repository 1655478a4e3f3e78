-- The cipher calls of sealing, by how it came out (docs/RULES.md, 9.2 and 9.3).
-- Assumes nothing.
use mathlib.Core.List.{List}
use mathlib.Core.Path.{◌≡◌, refl, sym, ◌∙◌}
use Prim.Native.Nat.{ℕ}
use lib.ListN.{length}
use Rattle.laws.specs.Answer.{Answer, Answer.given, Answer.refused}
use Rattle.laws.specs.Blocks.{Block}
use Rattle.laws.proofs.Answers.{given-refused}
use Rattle.secure_keys.proofs.KeysLaws.{GoodKeys}
use Rattle.secure_session.specs.Chain.{send_from}
use Rattle.secure_session.specs.declared.session.Session.{Session}
use Rattle.secure_seal.specs.Seal.{Asked, Sealable, SealedFrame, sealing, seal_run, seal_of}
use Rattle.secure_seal.proofs.SealLaws.{steps_for, frame-steps}

refused-steps : (f : SealedFrame) (o : List ℕ) (a : Answer ℕ) (n : ℕ) (vs : List ℕ) → (sealing f o a).answer ≡ refused n vs → (sealing f o a).steps ≡ 0
unfolding sealing
refused-steps f o (given t) n vs e = absurd (given-refused e)
refused-steps f o (refused m us) n vs e = refl

made_steps : (f : SealedFrame) (o : List ℕ) (a : Answer ℕ) (t : ℕ) → (sealing f o a).answer ≡ given t → (sealing f o a).steps ≡ f.steps
unfolding sealing
made_steps f o (given u) t e = refl
made_steps f o (refused m us) t e = absurd (given-refused (sym e))

module _ (s : Session) (q : Asked) (o : List ℕ) where
  -- any refusal: none
  pub seal-refused-calls : (n : ℕ) (vs : List ℕ) → (seal_of s q o).answer ≡ refused n vs → (seal_of s q o).steps ≡ 0
  unfolding seal_of seal_run
  seal-refused-calls = refused-steps _ _ _

  -- a frame that was sealed: 2q + 1 encrypted, (8 + n)/16 rounded up plain
  pub seal-made-calls : GoodKeys s.keys → Block (send_from s) → Sealable q
      → (t : ℕ) → (seal_of s q o).answer ≡ given t → (seal_of s q o).steps ≡ steps_for q.encrypt (length q.payload)
  unfolding seal_of seal_run
  seal-made-calls hk hv hq t e = made_steps _ _ _ t e ∙ frame-steps s.keys (send_from s) q hk hv hq
