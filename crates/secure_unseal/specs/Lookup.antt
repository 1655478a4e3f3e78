-- The payload, looked up where an opening said it stands, and the test beside it (docs/RULES.md, 8.5 and 8.6).
-- Assumes nothing.
use Rattle.std.specs.Prelude.{ℕ, ◌+◌, Bool, cond, List, [], ◌∷◌, length}
use Rattle.std.specs.Borrow.{Bor}
use Rattle.laws.specs.Answer.{Answer, Answer.given, refuse_if}
use Rattle.slices.specs.Stretch.{Stretch, stretch_in}
use Rattle.slices.specs.Place.{runs_past, part_of, part_start, saturated}

-- the slice that a place is in
abbrev pub slice_for : {A : Type 0} → Bool → A → A → A
slice_for in_work f w = cond in_work w f

-- whether the place runs past that slice's end
abbrev pub runs_outside : Bool → ℕ → ℕ → List ℕ → List ℕ → Bool
runs_outside in_work start len f w = runs_past (length (slice_for in_work f w)) start len

-- the bytes of the part, or none
unfoldable pub payload_shown : Bool → ℕ → ℕ → List ℕ → List ℕ → List ℕ
payload_shown in_work start len f w = part_of (slice_for in_work f w) start len

-- the slice that it is a part of, and where it begins there: a place that runs outside has the frame's empty first part
unfoldable pub lookup_slice : Bool → ℕ → ℕ → Bor (List ℕ) → Bor (List ℕ) → Bor (List ℕ)
lookup_slice in_work start len f w = cond (runs_outside in_work start len f.now w.now) f (slice_for in_work f w)

unfoldable pub lookup_start : Bool → ℕ → ℕ → List ℕ → List ℕ → ℕ
lookup_start in_work start len f w = part_start (slice_for in_work f w) start len

-- the part, as a slice: these bytes, at that place of one of the caller's slices
abbrev pub lookup_seen : Bool → ℕ → ℕ → Bor (List ℕ) → Bor (List ℕ) → Stretch
lookup_seen in_work start len f w = stretch_in (lookup_slice in_work start len f w) (lookup_start in_work start len f.now w.now) (payload_shown in_work start len f.now w.now)

-- a place outside a slice of `size` bytes: 1 (slice length, end needed)
unfoldable pub place_test : ℕ → ℕ → ℕ → Answer (Unit {0})
place_test size start len = refuse_if (runs_past size start len) 1 (size ∷ saturated (start + len) ∷ []) (given tt)

unfoldable pub shown_test : Bool → ℕ → ℕ → List ℕ → List ℕ → Answer (Unit {0})
shown_test in_work start len f w = place_test (length (slice_for in_work f w)) start len
