-- What has come of a reader, read after read, in one buffer.
-- Assumes nothing.
use Rattle.std.proofs.Common.{◌≡◌, ℕ, ◌+◌, ◌≤◌, List, ◌++◌, length, take, sym, ap, ap₂, ◌∙◌, subst, le_refl, drop_at, length-take-le}
use Rattle.std.proofs.lemmas.Slice.{take-put_mid_below}
use Rattle.std.proofs.KnownBytes.{Consumes-trans}
use Rattle.std.specs.Io.KnownBytes.{Consumes}
use Rattle.std.specs.declared.option.Option.{Option}
use borrow.Rule.Slice.PartMut.{put_mid, post_of}
use lib.Seq.{take-add, take-append-le}

front_and_part : (at room n : ℕ) (buf part : List ℕ) → at ≤ length buf → n ≤ length part → take at buf ++ take n part ≡ take (at + n) (put_mid at room buf part)
front_and_part at room n buf part within fits =
    let rest = post_of at room buf in
    ap₂ (λ (f b : List ℕ). f ++ b)
    (sym (take-put_mid_below at room buf part at (le_refl at) within))
    (sym (ap (take n) (drop_at (take at buf) (part ++ rest) at (length-take-le at buf within)) ∙ take-append-le n part rest fits))
    ∙ sym (take-add at n (put_mid at room buf part))

-- what stood in front stays, and the part that a read brought stands behind it: the two together are what the reader gave up
pub came_more : (had mid left : Option (List ℕ)) (at room n : ℕ) (buf part : List ℕ) → at ≤ length buf → n ≤ length part
    → Consumes had mid (take at buf) → Consumes mid left (take n part) → Consumes had left (take (at + n) (put_mid at room buf part))
came_more had mid left at room n buf part within fits before now =
    subst (Consumes _ _) (front_and_part at room n buf part within fits) (Consumes-trans _ _ _ _ _ before now)
