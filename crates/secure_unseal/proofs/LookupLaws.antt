-- What the lookup shows and its test answers, by whether the place runs outside its slice.
-- Assumes nothing.
use mathlib.Core.Bool.{Bool, true, false, cond}
use mathlib.Core.List.{List, [], ◌∷◌}
use mathlib.Core.Path.{◌≡◌, refl, ap, ◌∙◌}
use Prim.Native.Nat.{ℕ, ◌+◌, ◌≤◌, ◌<◌}
use native.Mathlib.Nat.{zero-add}
use borrow.Author.Tests.{lt-ltb, le-ltb}
use lib.ListN.{length, take, drop}
use denote.Ref.{Bor}
use Rattle.laws.specs.Answer.{Answer.given, Answer.refused, refuse_if}
use Rattle.slices.specs.Stretch.{stretch_in}
use Rattle.slices.specs.Place.{runs_past, saturated, part_of, part_start, part_seen}
use Rattle.slices.proofs.PlaceLaws.{part_in, part_out}
use Rattle.secure_unseal.specs.Lookup.{slice_for, runs_outside, payload_shown, lookup_slice, lookup_start, lookup_seen, place_test, shown_test}

-- ---- by the definitions alone

module _ (i : Bool) (start len : ℕ) (f w : List ℕ) where
  pub shown-inside : start + len ≤ length (slice_for i f w) → payload_shown i start len f w ≡ take len (drop start (slice_for i f w))
  unfolding payload_shown
  shown-inside h = part_in (slice_for i f w) start len h

  pub shown-outside : length (slice_for i f w) < start + len → payload_shown i start len f w ≡ []
  unfolding payload_shown
  shown-outside h = part_out (slice_for i f w) start len h

  pub test-inside : start + len ≤ length (slice_for i f w) → shown_test i start len f w ≡ given tt
  unfolding shown_test place_test refuse_if
  test-inside h = rw (le-ltb (length (slice_for i f w)) (start + len) h)

  pub test-outside : length (slice_for i f w) < start + len → shown_test i start len f w ≡ refused 1 (length (slice_for i f w) ∷ saturated (start + len) ∷ [])
  unfolding shown_test place_test refuse_if
  test-outside h = rw (lt-ltb (length (slice_for i f w)) (start + len) h)

module _ (i : Bool) (start len : ℕ) (f w : Bor (List ℕ)) where
  pub seen-inside : start + len ≤ length (slice_for i f.now w.now) → lookup_seen i start len f w ≡ stretch_in (slice_for i f w) start (take len (drop start (slice_for i f.now w.now)))
  unfolding part_of part_start payload_shown lookup_slice lookup_start
  seen-inside h = rw (le-ltb (length (slice_for i f.now w.now)) (start + len) h)

  pub seen-outside : length (slice_for i f.now w.now) < start + len → lookup_seen i start len f w ≡ stretch_in f 0 []
  unfolding part_of part_start payload_shown lookup_slice lookup_start
  seen-outside h = rw (lt-ltb (length (slice_for i f.now w.now)) (start + len) h)

-- ---- as the code finds it

pub in_work_lem : {A : Type 0} (f w : A) {i : Bool} → i ≡ true → w ≡ slice_for i f w
in_work_lem f w h = rw h

pub in_frame : {A : Type 0} (f w : A) {i : Bool} → i ≡ false → f ≡ slice_for i f w
in_frame f w h = rw h

pub test_in : (i : Bool) (start len : ℕ) (f w : List ℕ) {s : List ℕ} → s ≡ slice_for i f w → place_test (length s) start len ≡ shown_test i start len f w
unfolding shown_test
test_in i start len f w hs = rw (← hs)

now_for : (i : Bool) (f w : Bor (List ℕ)) → (slice_for i f w).now ≡ slice_for i f.now w.now
now_for true f w = refl
now_for false f w = refl

module _ (i : Bool) (start len : ℕ) (f w : Bor (List ℕ)) {s : Bor (List ℕ)} (hs : s ≡ slice_for i f w) where
  bytes-for : s.now ≡ slice_for i f.now w.now
  bytes-for = ap (λ x. x.now) hs ∙ now_for i f w

  out-for : runs_past (length s.now) start len ≡ runs_outside i start len f.now w.now
  out-for = ap (λ (l : List ℕ). runs_past (length l) start len) bytes-for

  pub shows_nothing : {o : Bool} → o ≡ runs_past (length s.now) start len → o ≡ true → (f.ref_ptr, []) ≡ lookup_seen i start len f w
  unfolding part_of part_start payload_shown lookup_slice lookup_start
  shows_nothing ho h = rw (← out-for, ← ho, h, zero-add)

  pub shows-part : {o : Bool} → o ≡ runs_past (length s.now) start len → o ≡ false → part_seen s start len ≡ lookup_seen i start len f w
  unfolding part_of part_start payload_shown lookup_slice lookup_start
  shows-part ho h = rw (← out-for, ← bytes-for, ← hs, ← ho, h)

  -- of the frame, whose empty first part is its own
  pub shows-frame : f ≡ s → part_seen s start len ≡ lookup_seen i start len f w
  unfolding part_of part_start payload_shown lookup_slice lookup_start
  shows-frame e = rw (← out-for, ← bytes-for, ← hs, e) (by (runs_past (length s.now) start len))
    where
      by : (b : Bool) → stretch_in s (cond b 0 start) (cond b [] (take len (drop start s.now))) ≡ stretch_in (cond b s s) (cond b 0 start) (cond b [] (take len (drop start s.now)))
      by true = refl
      by false = refl
