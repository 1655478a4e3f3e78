-- The eight types and their kinds: of one of them a single bound tells whether it has a MAC, encrypted data, or is the handshake's.
-- Assumes nothing.
use mathlib.Core.Path.{◌≡◌, refl}
use mathlib.Core.Bool.{Bool, true, false, ◌&&◌, not}
use Prim.Native.Nat.{ℕ, ◌≤◌}
use borrow.Author.Tests.{leb-true, le-leb}
use lib.Dec.{leb}
use Rattle.laws.specs.Answer.{Answer.given, refuse_if}
use Rattle.laws.proofs.Answers.{Holds, holds_refuse, holds_given}
use Rattle.packet_head.specs.Block.{between, scs_of, type_of}
use Rattle.packet_head.specs.declared.scb.ScsType.{ScsType}
use Rattle.packet_head.specs.declared.scb.ScsType.TheVariants.{Scs11, Scs12, Scs13, Scs14, Scs15, Scs16, Scs17, Scs18}

and_true : (x : Bool) → x && true ≡ x
and_true true = refl
and_true false = refl

-- what is at most `high` is one of low to high if it is low or more
pub between_above : (low high ty : ℕ) → ty ≤ high → between low high ty ≡ leb low ty
between_above low high ty h = rw (le-leb ty high h) (and_true (leb low ty))

-- what is low or more is one of low to high if it is at most `high`
pub between-below : (low high ty : ℕ) → low ≤ ty → between low high ty ≡ leb ty high
between-below low high ty h = rw (le-leb low ty h)

and_both : (x y : Bool) → not (x && y) ≡ false → (x ≡ true) × (y ≡ true)
and_both true true e = (refl, refl)
and_both true false e = (refl, cc)
and_both false y e = (cc, cc)

types_known : (b : ℕ) → Holds (λ (ty : ℕ). (0x11 ≤ ty) × (ty ≤ 0x18)) (scs_of b)
unfolding scs_of
types_known b = holds_refuse _ _ _ _ _ (λ k. let h = and_both (leb 0x11 b) (leb b 0x18) k in (leb-true 0x11 b h.0, leb-true b 0x18 h.1))

-- a type that is taken is one of the eight
pub type_bounds : (b ty : ℕ) → scs_of b ≡ given ty → (0x11 ≤ ty) × (ty ≤ 0x18)
type_bounds b ty e = holds_given _ (scs_of b) ty (types_known b) e

-- each of the code's kinds is taken
pub type-taken : (t : ScsType) → scs_of (type_of t) ≡ given (type_of t)
unfolding scs_of refuse_if
type-taken Scs11 = refl
type-taken Scs12 = refl
type-taken Scs13 = refl
type-taken Scs14 = refl
type-taken Scs15 = refl
type-taken Scs16 = refl
type-taken Scs17 = refl
type-taken Scs18 = refl

pub type_range : (t : ScsType) → (0x11 ≤ type_of t) × (type_of t ≤ 0x18)
type_range t = type_bounds (type_of t) (type_of t) (type-taken t)
