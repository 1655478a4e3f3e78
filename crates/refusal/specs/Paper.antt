-- The customer's table of refusals (docs/RULES.md, 1): each case's number, and the values that it carries.
-- Assumes nothing.
use Rattle.std.specs.Prelude.{ℕ, List, [], ◌∷◌}
use Rattle.laws.specs.Answer.{Answer, Answer.refused}
use Rattle.refusal.specs.declared.Refusal.{Refusal}
use Rattle.refusal.specs.declared.Numbered.{Numbered}

abbrev pub number_of : Refusal → ℕ
number_of (Refusal.Truncated have need) = 1
number_of (Refusal.BadSom b) = 2
number_of (Refusal.BadControlByte b) = 3
number_of (Refusal.BadLength declared actual) = 4
number_of (Refusal.BadSecurityBlockLength ty) = 5
number_of (Refusal.BadSecurityBlock ty) = 6
number_of (Refusal.BadCrc got want) = 7
number_of (Refusal.BadChecksum got want) = 8
number_of (Refusal.BadAddress b) = 9
number_of (Refusal.BadSqn b) = 10
number_of Refusal.BadMac = 11
number_of (Refusal.BufferOverflow need have) = 12
number_of Refusal.NotSecure = 13
number_of Refusal.BadPadding = 14
number_of Refusal.BadCryptogram = 15
number_of Refusal.WrongState = 16
number_of (Refusal.BlockTooLong n) = 17
number_of (Refusal.NoRoom need have) = 18
number_of (Refusal.BadBody code) = 19

abbrev pub values_of : Refusal → List ℕ
values_of (Refusal.Truncated have need) = have ∷ need ∷ []
values_of (Refusal.BadSom b) = b ∷ []
values_of (Refusal.BadControlByte b) = b ∷ []
values_of (Refusal.BadLength declared actual) = declared ∷ actual ∷ []
values_of (Refusal.BadSecurityBlockLength ty) = ty ∷ []
values_of (Refusal.BadSecurityBlock ty) = ty ∷ []
values_of (Refusal.BadCrc got want) = got ∷ want ∷ []
values_of (Refusal.BadChecksum got want) = got ∷ want ∷ []
values_of (Refusal.BadAddress b) = b ∷ []
values_of (Refusal.BadSqn b) = b ∷ []
values_of Refusal.BadMac = []
values_of (Refusal.BufferOverflow need have) = need ∷ have ∷ []
values_of Refusal.NotSecure = []
values_of Refusal.BadPadding = []
values_of Refusal.BadCryptogram = []
values_of Refusal.WrongState = []
values_of (Refusal.BlockTooLong n) = n ∷ []
values_of (Refusal.NoRoom need have) = need ∷ have ∷ []
values_of (Refusal.BadBody code) = code ∷ []

-- a refusal, as a call's answer
abbrev pub refusal_of : {A : Type 0} → Refusal → Answer A
refusal_of e = refused (number_of e) (values_of e)

-- ---- in three numbers

-- a refusal carries at most two values; 0 stands for one that it does not carry
abbrev pub value_a : List ℕ → ℕ
value_a [] = 0
value_a (a ∷ l) = a

abbrev pub value_b : List ℕ → ℕ
value_b [] = 0
value_b (a ∷ l) = value_a l

abbrev pub numbered_of : Refusal → Numbered
numbered_of e = record { number = number_of e; a = value_a (values_of e); b = value_b (values_of e) }
