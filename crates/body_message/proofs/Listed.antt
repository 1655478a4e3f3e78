-- Reading by a code that is listed, and by one that is not.
-- Assumes nothing.
use mathlib.Core.Path.{◌≡◌, refl, sym, ap, ◌∙◌}
use mathlib.Core.List.{List, [], ◌∷◌}
use Prim.Native.Nat.{ℕ}
use borrow.Author.Tests.{ne_eqb}
use lib.Dec.{eqb}
use Rattle.laws.specs.Answer.{Answer.given, Answer.refused}
use Rattle.laws.proofs.Answers.{choose_false, then_given, then_refused}
use Rattle.body_message.specs.Message.{Kind, kinds, code}
use Rattle.body_message.specs.Body.{kind_named, read_as, read_of}
use Rattle.body_message.proofs.KindLaws.{kind_found}

pub read-listed : (k : Kind) (c : ℕ) (s : List ℕ) → c ≡ code k → read_as k s ≡ read_of c s
unfolding read_of
read-listed k c s e = sym (then_given (kind_named kinds c) k (λ j. read_as j s) (ap (kind_named kinds) e ∙ kind_found k))

-- what holds already, and that the code is that of no kind of the list: as the last arm of a match on the code knows it
abbrev pub Besides : Type 0 → List Kind → ℕ → Type 0
Besides A [] c = A
Besides A (k ∷ ks) c = Besides (A × (c ≡ code k → ⊥)) ks c

none_named : (A : Type 0) (ks : List Kind) (c : ℕ) → Besides A ks c → A × (kind_named ks c ≡ refused 19 (c ∷ []))
unfolding kind_named
none_named A [] c h = (h, refl)
none_named A (k ∷ ks) c h =
    let r = none_named (A × (c ≡ code k → ⊥)) ks c h in
    (r.0.0, choose_false (eqb (code k) c) (given k) (kind_named ks c) (ne_eqb (code k) c (λ e. r.0.1 (sym e))) ∙ r.1)

pub read_unlisted : (c : ℕ) (s : List ℕ) → Besides (Unit {0}) kinds c → refused 19 (c ∷ []) ≡ read_of c s
unfolding read_of
read_unlisted c s h = sym (then_refused (kind_named kinds c) 19 (c ∷ []) (λ k. read_as k s) (none_named (Unit {0}) kinds c h).1)
