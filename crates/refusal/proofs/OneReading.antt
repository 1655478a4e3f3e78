-- A refusal has one reading: its number and its values give it back, so two that read alike are the same. The answers
-- that crates share have one too.
-- Assumes nothing.
use Rattle.std.specs.Prelude.{Result, Ok, Err, ⊤}
use mathlib.Core.Path.{◌≡◌, refl, sym, ap, ◌∙◌}
use mathlib.Core.List.{List, [], ◌∷◌}
use Prim.Native.Nat.{ℕ}
use lib.ListN.{get_or}
use Rattle.laws.specs.Answer.{Answer, Answer.given, Answer.refused}
use Rattle.laws.proofs.Answers.{one_reading}
use Rattle.refusal.specs.Paper.{refusal_of, value_a, value_b, numbered_of}
use Rattle.refusal.specs.Reading.{answer, outcome_answer, length_answer}
use Rattle.refusal.specs.declared.Numbered.{Numbered}
use Rattle.refusal.specs.declared.Refusal.{Refusal}

-- the refusals in the order of their numbers, from 1 on, with these values; what stands at 0 does not matter
abbrev table : ℕ → ℕ → List Refusal
table a b =
    Refusal.WrongState
    ∷ Refusal.Truncated a b
    ∷ Refusal.BadSom a
    ∷ Refusal.BadControlByte a
    ∷ Refusal.BadLength a b
    ∷ Refusal.BadSecurityBlockLength a
    ∷ Refusal.BadSecurityBlock a
    ∷ Refusal.BadCrc a b
    ∷ Refusal.BadChecksum a b
    ∷ Refusal.BadAddress a
    ∷ Refusal.BadSqn a
    ∷ Refusal.BadMac
    ∷ Refusal.BufferOverflow a b
    ∷ Refusal.NotSecure
    ∷ Refusal.BadPadding
    ∷ Refusal.BadCryptogram
    ∷ Refusal.WrongState
    ∷ Refusal.BlockTooLong a
    ∷ Refusal.NoRoom a b
    ∷ Refusal.BadBody a
    ∷ []

-- the refusal of a number and its values; what no refusal reads as does not matter
abbrev pub named : ℕ → List ℕ → Refusal
named n vs = get_or (table (value_a vs) (value_b vs)) n Refusal.WrongState

abbrev pub refusal_back : Answer ℕ → Refusal
refusal_back (given n) = Refusal.WrongState
refusal_back (refused n vs) = named n vs

pub told_back : (r : Refusal) → refusal_back (refusal_of r) ≡ r
told_back (Refusal.Truncated x y) = refl
told_back (Refusal.BadSom x) = refl
told_back (Refusal.BadControlByte x) = refl
told_back (Refusal.BadLength x y) = refl
told_back (Refusal.BadSecurityBlockLength x) = refl
told_back (Refusal.BadSecurityBlock x) = refl
told_back (Refusal.BadCrc x y) = refl
told_back (Refusal.BadChecksum x y) = refl
told_back (Refusal.BadAddress x) = refl
told_back (Refusal.BadSqn x) = refl
told_back Refusal.BadMac = refl
told_back (Refusal.BufferOverflow x y) = refl
told_back Refusal.NotSecure = refl
told_back Refusal.BadPadding = refl
told_back Refusal.BadCryptogram = refl
told_back Refusal.WrongState = refl
told_back (Refusal.BlockTooLong x) = refl
told_back (Refusal.NoRoom x y) = refl
told_back (Refusal.BadBody x) = refl

pub same_refusal : (r s : Refusal) → ◌≡◌ {A = Answer ℕ} (refusal_of r) (refusal_of s) → r ≡ s
same_refusal = one_reading refusal_of refusal_back told_back

-- the three numbers, which C is told, settle it as well
pub same_numbered : (r s : Refusal) → numbered_of r ≡ numbered_of s → r ≡ s
same_numbered r s e =
    sym (told_back r) ∙ ap (λ (n : Numbered). get_or (table n.a n.b) n.number Refusal.WrongState) e ∙ told_back s

-- ---- an answer whose words have one reading

-- `back` finds what was given again in the paper's words
abbrev pub answer_from : {A B : Type 0} → (B → A) → Answer B → Result A Refusal
answer_from back (given b) = Ok (back b)
answer_from back (refused n vs) = Err (named n vs)

pub answer_back : {A B : Type 0} (words : A → B) (back : B → A) → ((a : A) → back (words a) ≡ a)
    → (r : Result A Refusal) → answer_from back (answer words r) ≡ r
answer_back words back h (Ok a) = ap Ok (h a)
answer_back words back h (Err e) = ap Err (told_back e)

pub result_settled : {A B : Type 0} (words : A → B) (back : B → A) → ((a : A) → back (words a) ≡ a)
    → (r s : Result A Refusal) → answer words r ≡ answer words s → r ≡ s
result_settled words back h = one_reading (answer words) (answer_from back) (answer_back words back h)

-- ---- an outcome, whatever stands beside it

abbrev pub outcome_from : {A : Type 0} → Answer A → Result ⊤ Refusal
outcome_from a = answer_from (λ x. tt) a

pub outcome_back : {A : Type 0} (o : Result ⊤ Refusal) (a : A) → outcome_from (outcome_answer o a) ≡ o
outcome_back o a = answer_back (λ done. a) (λ x. tt) (λ done. refl) o

pub outcome_settled : {A : Type 0} (o p : Result ⊤ Refusal) (a b : A) → outcome_answer o a ≡ outcome_answer p b → o ≡ p
outcome_settled o p a b e = sym (outcome_back o a) ∙ ap outcome_from e ∙ outcome_back p b

-- ---- a length

pub length_settled : (r s : Result ℕ Refusal) → length_answer r ≡ length_answer s → r ≡ s
length_settled = result_settled (λ n. n) (λ n. n) (λ n. refl)
