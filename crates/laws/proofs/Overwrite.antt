-- One list written over a part of another, and two in a row.
-- Assumes nothing.
use mathlib.Core.Path.{◌≡◌, sym, ap, ap₂, ◌∙◌}
use mathlib.Core.List.{List, [], ◌∷◌, ◌++◌, append_assoc, append-nil}
use Prim.Native.Nat.{ℕ, ◌+◌, ◌≤◌, ◌<◌}
use native.Mathlib.Nat.{add-zero, add_assoc}
use native.Mathlib.Omega.{arith}
use lib.ListN.{length, set, take, drop, length-append, length-drop, take-append-drop, drop_of_length-le}
use lib.Seq.{length-take-le, take-length, take_at, drop_at, drop-append-add, drop-drop, paste, paste-zero, paste-suc}
use Rattle.laws.specs.Over.{write}

pub paste-write : (l : List ℕ) (at : ℕ) (s : List ℕ) → paste l at s (length s) ≡ write l at s
unfolding write
paste-write l at s = ap (λ (x : List ℕ). take at l ++ x ++ drop (at + length s) l) (take-length s)

-- one byte
pub set-write : (l : List ℕ) (at v : ℕ) → at < length l → set l at v ≡ write l at (v ∷ [])
set-write l at v h =
    let s : List ℕ = v ∷ [] in
    ap₂ (λ (x : List ℕ) (n : ℕ). set x n v) (paste-zero l at s) (sym (add-zero at)) ∙ paste-suc l at s 0 0 (omega arith) (omega arith) ∙ paste-write l at s

pub write_nil : (l : List ℕ) (at : ℕ) → write l at [] ≡ l
unfolding write
write_nil l at = rw (append-nil, add-zero) (take-append-drop at l)

front : (l : List ℕ) (at : ℕ) (s : List ℕ) → at ≤ length l → length (take at l ++ s) ≡ at + length s
front l at s h = length-append (take at l) s ∙ ap (λ (n : ℕ). n + length s) (length-take-le at l h)

pub length-write : (l : List ℕ) (at : ℕ) (s : List ℕ) → at + length s ≤ length l → length (write l at s) ≡ length l
unfolding write
length-write l at s h =
    let f = front l at s (omega arith) in
    simp (length-append (take at l ++ s), length-drop, f) (omega arith)

-- what follows at once
pub write-write : (l : List ℕ) (at : ℕ) (s : List ℕ) (k : ℕ) (t : List ℕ) → k ≡ at + length s → at + length s + length t ≤ length l
    → write (write l at s) k t ≡ write l at (s ++ t)
unfolding write
write-write l at s k t e h =
    let p : List ℕ = take at l ++ s in
    let r : List ℕ = drop (at + length s) l in
    let f : length p ≡ k = front l at s (omega arith) ∙ sym e in
    let d : drop (k + length t) (p ++ r) ≡ drop (at + (length s + length t)) l =
    ap (λ (n : ℕ). drop (n + length t) (p ++ r)) (sym f) ∙ drop-append-add p r (length t) ∙ drop-drop (length t) (at + length s) l
    ∙ ap (λ (n : ℕ). drop n l) (add_assoc at (length s) (length t)) in
    ap₂ (λ (x y : List ℕ). x ++ t ++ y) (take_at p r k f) d
    ∙ ap₂ (λ (x : List ℕ) (n : ℕ). x ++ drop (at + n) l) (append_assoc (take at l) s t) (sym (length-append s t))

-- all of it
pub write_whole : (l s : List ℕ) → length l ≡ length s → write l 0 s ≡ s
unfolding write
write_whole l s e = ap (λ (r : List ℕ). s ++ r) (drop_of_length-le l {i = 0 + length s} (omega arith)) ∙ append-nil s

-- the part of n bytes from `at` on was lent and came back as s
pub part_write : (l : List ℕ) (at n : ℕ) (s : List ℕ) → length s ≡ n → take at l ++ (s ++ drop n (drop at l)) ≡ write l at s
unfolding write
part_write l at n s e =
    sym (append_assoc (take at l) s (drop n (drop at l)))
    ∙ ap (λ (r : List ℕ). take at l ++ s ++ r) (drop-drop n at l ∙ ap (λ (m : ℕ). drop (at + m) l) (sym e))

-- two bytes, one after the other
pub set_two : (l : List ℕ) (at v w : ℕ) → at + 1 < length l → set (set l at v) (at + 1) w ≡ write l at (v ∷ w ∷ [])
set_two l at v w h =
    ap (λ (x : List ℕ). set x (at + 1) w) (set-write l at v (omega arith))
    ∙ set-write (write l at (v ∷ [])) (at + 1) w (omega (arith, length-write l at (v ∷ []) (omega arith)))
    ∙ write-write l at (v ∷ []) (at + 1) (w ∷ []) (omega arith) (omega arith)

-- as much again, over it
pub write_over : (o s t : List ℕ) → length s ≡ length t → write (write o 0 s) 0 t ≡ write o 0 t
unfolding write
write_over o s t e =
    ap (λ (r : List ℕ). t ++ r)
    (ap (λ (n : ℕ). drop (0 + n) (s ++ drop (0 + length s) o)) (sym e) ∙ drop_at s (drop (0 + length s) o) (0 + length s) (omega arith) ∙ ap (λ (n : ℕ). drop (0 + n) o) e)

pub take-write : (l : List ℕ) (n : ℕ) (s : List ℕ) → n ≡ length s → take n (write l 0 s) ≡ s
unfolding write
take-write l n s e = take_at s (drop (0 + length s) l) n (sym e)

-- four parts, one after the other
pub write_four : (o h b s d : List ℕ) (j k : ℕ) → 5 ≡ length h → j ≡ 5 + length b → k ≡ j + length s → 5 + length b + length s + length d ≤ length o
    → write (write (write (write o 0 h) 5 b) j s) k d ≡ write o 0 (h ++ b ++ s ++ d)
write_four o h b s d j k e f g r =
    let lb : length (h ++ b) ≡ 5 + length b = length-append h b ∙ ap (λ (n : ℕ). n + length b) (sym e) in
    let ls : length (h ++ b ++ s) ≡ 5 + length b + length s = length-append (h ++ b) s ∙ ap (λ (n : ℕ). n + length s) lb in
    ap (λ (x : List ℕ). write (write x j s) k d) (write-write o 0 h 5 b (omega arith) (omega arith))
    ∙ ap (λ (x : List ℕ). write x k d) (write-write o 0 (h ++ b) j s (omega arith) (omega arith))
    ∙ write-write o 0 (h ++ b ++ s) k d (omega arith) (omega arith)
