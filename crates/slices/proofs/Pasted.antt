-- A loop that writes a list over a part of another, a byte a turn.
-- Assumes nothing.
use mathlib.Core.Path.{◌≡◌, refl, ap, ◌∙◌}
use mathlib.Core.List.{List}
use Prim.Native.Nat.{ℕ, suc, ◌+◌, ◌<◌}
use lib.ListN.{length, get_or, set, length-set}
use lib.Seq.{paste, paste-zero, paste-suc}
use Rattle.laws.specs.Over.{write}
use Rattle.laws.proofs.Overwrite.{paste-write}

-- the first i bytes of s stand in out
pub record Pasted (o : List ℕ) (at : ℕ) (s : List ℕ) (i : ℕ) (out : List ℕ) : Type 0 where
  pub size : length out ≡ length o
  pub here : out ≡ paste o at s i

pub pasted_none : (o : List ℕ) (at : ℕ) (s : List ℕ) (i : ℕ) → i ≡ 0 → Pasted o at s i o
pasted_none o at s i e = rw e (record { size = refl; here = paste-zero o at s })

pub pasted_more : {o : List ℕ} {at : ℕ} {s : List ℕ} {i : ℕ} {out : List ℕ} (j v m : ℕ) → j ≡ at + i → v ≡ get_or s i 0 → m ≡ suc i → at + i < length o → i < length s
    → Pasted o at s i out → Pasted o at s m (set out j v)
pasted_more {o} {at} {s} {i} {out} j v m ej ev em h k p = record {
  size = length-set out j v ∙ p.size;
  here = rw (ej, ev, em, p.here) (paste-suc o at s i 0 h k);
}

pub pasted_all : {o : List ℕ} {at : ℕ} {s : List ℕ} {i : ℕ} {out : List ℕ} → i ≡ length s → Pasted o at s i out → out ≡ write o at s
pasted_all {o} {at} {s} {i} {out} e p = p.here ∙ ap (paste o at s) e ∙ paste-write o at s
