-- Both halves are written.
use Rattle.std.proofs.Common.{List, ◌∷◌, [], ℕ, ◌++◌, ap, ap₂, ◌∙◌, append-nil, drop_of_length-le, drop, arith, length-append, length-drop}
use lib.Seq.{take_at}
use Rattle.secure_keys.proofs.crypto.joined.Goals as goal

pub returns : goal.returns
returns c =
    let x = c.copy_from_slice.new.self in
    let z : List ℕ = 0 ∷ 0 ∷ 0 ∷ 0 ∷ 0 ∷ 0 ∷ 0 ∷ 0 ∷ [] in
    let y = c.copy_from_slice-2.new.self in
    ap₂ (λ (p q : List ℕ). p ++ q) (take_at x z 8 (omega arith) ∙ c.copy_from_slice.ensures.after)
    (ap (λ (r : List ℕ). y ++ r) (drop_of_length-le (drop 8 (x ++ z)) {i = 8} (omega (arith, length-drop 8 (x ++ z), length-append x z))) ∙ append-nil y ∙ c.copy_from_slice-2.ensures.after)
