-- What holds of an answer that is no refusal, along a definition's tests; and answers told apart.
-- Assumes nothing.
use mathlib.Core.Path.{◌≡◌, refl, sym, ap, ◌∙◌, subst}
use mathlib.Core.Bool.{Bool, true, false}
use mathlib.Core.List.{List}
use Prim.Native.Nat.{ℕ}
use native.Mathlib.Omega.{arith}
use Rattle.laws.specs.Answer.{Answer, Answer.given, Answer.refused, refuse_if, choose, and_then}

-- P of what was given, nothing of a refusal
abbrev pub Holds : {A : Type 0} → (A → Type 0) → Answer A → Type 0
Holds P (given a) = P a
Holds P (refused n vs) = Unit {0}

pub holds_refuse : {A : Type 0} (P : A → Type 0) (t : Bool) (n : ℕ) (vs : List ℕ) (a : Answer A) → (t ≡ false → Holds P a) → Holds P (refuse_if t n vs a)
unfolding refuse_if
holds_refuse P true n vs a f = tt
holds_refuse P false n vs a f = f refl

pub holds_choose : {A : Type 0} (P : A → Type 0) (t : Bool) (a b : Answer A) → (t ≡ true → Holds P a) → (t ≡ false → Holds P b) → Holds P (choose t a b)
unfolding choose
holds_choose P true a b f g = f refl
holds_choose P false a b f g = g refl

pub holds_then : {A B : Type 0} (P : B → Type 0) (x : Answer A) (f : A → Answer B) → ((a : A) → x ≡ given a → Holds P (f a)) → Holds P (and_then x f)
unfolding and_then
holds_then P (given a) f h = h a refl
holds_then P (refused n vs) f h = tt

-- from an answer that is given
pub holds_given : {A : Type 0} (P : A → Type 0) (x : Answer A) (a : A) → Holds P x → x ≡ given a → P a
holds_given P x a h e = subst (Holds P) e h

pub holds_mono : {A : Type 0} (P Q : A → Type 0) (x : Answer A) → ((a : A) → P a → Q a) → Holds P x → Holds Q x
holds_mono P Q (given a) f h = f a h
holds_mono P Q (refused n vs) f h = tt

pub given_inj : {A : Type 0} (a b : A) → given a ≡ given b → a ≡ b
given_inj a b e = cc

-- no answer is both
pub given-refused : {A : Type 0} {a : A} {n : ℕ} {vs : List ℕ} → given a ≡ refused n vs → ⊥
given-refused e = let z : ◌≡◌ {A = ℕ} 0 1 = cc in omega arith

-- a choice whose test is known, where the test stands elsewhere too and is not to be rewritten there
pub choose_true : {A : Type 0} (t : Bool) (a b : Answer A) → t ≡ true → choose t a b ≡ a
unfolding choose
choose_true t a b h = rw h

pub choose_false : {A : Type 0} (t : Bool) (a b : Answer A) → t ≡ false → choose t a b ≡ b
unfolding choose
choose_false t a b h = rw h

pub refuse_true : {A : Type 0} (t : Bool) (n : ℕ) (vs : List ℕ) (a : Answer A) → t ≡ true → refuse_if t n vs a ≡ refused n vs
unfolding refuse_if
refuse_true t n vs a h = rw h

pub refuse_false : {A : Type 0} (t : Bool) (n : ℕ) (vs : List ℕ) (a : Answer A) → t ≡ false → refuse_if t n vs a ≡ a
unfolding refuse_if
refuse_false t n vs a h = rw h

pub then_given : {A B : Type 0} (x : Answer A) (a : A) (f : A → Answer B) → x ≡ given a → and_then x f ≡ f a
unfolding and_then
then_given x a f h = rw h

pub then_refused : {A B : Type 0} (x : Answer A) (n : ℕ) (vs : List ℕ) (f : A → Answer B) → x ≡ refused n vs → and_then x f ≡ refused n vs
unfolding and_then
then_refused x n vs f h = rw h

-- What can be read back has one reading. With it a promise `read r ≡ d` settles r: any two answers that it allows are equal.
pub one_reading : {A B : Type 0} (read : A → B) (back : B → A) → ((a : A) → back (read a) ≡ a) → (a b : A) → read a ≡ read b → a ≡ b
one_reading read back h a b e = sym (h a) ∙ ap back e ∙ h b
