-- Head, block, code and data stand one after the other.
use mathlib.Core.Path.{refl, ap, ap₂, ◌∙◌}
use mathlib.Core.List.{List, [], ◌∷◌, ◌++◌}
use Prim.Native.Nat.{ℕ, ◌+◌}
use native.Mathlib.Omega.{arith}
use lib.ListN.{length, get_or, length-set}
use Rattle.laws.specs.Over.{write}
use Rattle.laws.proofs.Overwrite.{set-write, write_four}
use Rattle.slices.specs.Number.{low_first}
use Rattle.slices.proofs.CopyLaws.{copied_all, copied_part}
use Rattle.packet_head.specs.Numbers.{SOM}
use Rattle.packet_build.specs.Build.{block_bytes, scb_given, body_bytes}
use Rattle.packet_build.proofs.put.put_body.Goals as goal

pub returns : goal.returns
unfolding body_bytes
returns c = let a = c.args in
    let o = a.out.now in
    let b = block_bytes (scb_given a.w.block a.bytes.now) in
    let k = c.put_block-at in
    let m = ap (λ (x : List ℕ). write o 0 (SOM ∷ c.as_byte.result ∷ get_or x 0 0 ∷ get_or x 1 0 ∷ a.tested.ctrl ∷ [])) c.bytes_of_u16-len.ensures in
    let h = copied_all o 0 _ c.copy.ensures.out_after (omega arith) ∙ m ∙ ap₂ (λ (x y : ℕ). write o 0 (SOM ∷ x ∷ low_first 2 a.tested.total ++ (y ∷ []))) c.as_byte.ensures c.requires.0 in
    let b₁ = k.ensures.out_after ∙ ap (λ (x : List ℕ). write x 5 b) h in
    let c₁ = set-write _ k.result a.w.code (omega arith) ∙ ap (λ (x : List ℕ). write x k.result (a.w.code ∷ [])) b₁ in
    let d₁ =
    copied_part _ (k.result + 1) (k.result + 1 + length a.«data».now) a.«data».now c.copy-2.ensures.out_after refl
    (omega (arith, length-set k.new.out k.result a.w.code))
    ∙ ap (λ (x : List ℕ). write x (k.result + 1) a.«data».now) c₁ in
    record { value = omega arith; out_after = d₁ ∙ write_four o _ b _ a.«data».now k.result _ refl k.ensures.value refl (omega arith) }
