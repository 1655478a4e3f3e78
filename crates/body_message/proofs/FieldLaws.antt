-- Numbers read from bytes and laid in them again; and each number by the bytes at its place.
-- Assumes nothing.
use mathlib.Core.Path.{◌≡◌, refl, sym, ap, ap₂, ◌∙◌}
use mathlib.Core.List.{List, [], ◌∷◌, ◌++◌}
use mathlib.Core.Option.{none, some}
use Prim.Native.Nat.{ℕ, zero, suc, ◌+◌, ◌*◌, ◌≤◌, ◌<◌}
use native.Mathlib.Omega.{arith}
use native.Mathlib.Nat.{add_comm, zero-mul, suc-mul}
use lib.ListN.{length, take, drop, get_or, get_elem?, length-append, length-drop, take-append-drop}
use lib.Seq.{take-add, drop-drop, length-take-le}
use Rattle.laws.specs.Bytes.{Bytes}
use Rattle.laws.proofs.ByteLists.{bytes_take, bytes_drop}
use Rattle.laws.proofs.Lists.{drop_next, nothing}
use Rattle.slices.specs.Number.{low_first, low_number}
use Rattle.slices.proofs.NumberLaws.{low-length, written_read}
use Rattle.body_message.specs.Fields.{span_of, numbers_in, numbers_laid, records_of, records_laid}

-- ---- read and laid again

pub length_numbers : (ws s : List ℕ) → length (numbers_in ws s) ≡ length ws
length_numbers [] s = refl
length_numbers (w ∷ ws) s = ap suc (length_numbers ws (drop w s))

pub length-laid : (ws vs : List ℕ) → length (numbers_laid ws vs) ≡ span_of ws
length-laid [] vs = refl
length-laid (w ∷ ws) vs =
    length-append (low_first w (get_or vs 0 0)) (numbers_laid ws (drop 1 vs)) ∙ ap₂ ◌+◌ (low-length w (get_or vs 0 0)) (length-laid ws (drop 1 vs))

one_laid : (w : ℕ) (s : List ℕ) → Bytes s → w ≤ length s → low_first w (low_number (take w s)) ≡ take w s
one_laid w s b h =
    ap (λ (n : ℕ). low_first n (low_number (take w s))) (sym (length-take-le w s h)) ∙ written_read (take w s) (bytes_take w s b)

pub laid_numbers : (ws s : List ℕ) → Bytes s → span_of ws ≤ length s → numbers_laid ws (numbers_in ws s) ≡ take (span_of ws) s
laid_numbers [] s b h = refl
laid_numbers (w ∷ ws) s b h =
    ap₂ (λ (x y : List ℕ). x ++ y) (one_laid w s b (omega arith)) (laid_numbers ws (drop w s) (bytes_drop w s b) (omega (arith, length-drop w s)))
    ∙ sym (take-add w (span_of ws) s)

-- ---- by the bytes at their places

-- the number in the w bytes from i on
abbrev pub value_at : ℕ → List ℕ → ℕ → ℕ
value_at zero s i = 0
value_at (suc w) s i = get_or s i 0 + 256 * value_at w s (i + 1)

abbrev pub values_at : List ℕ → List ℕ → ℕ → List ℕ
values_at [] s i = []
values_at (w ∷ ws) s i = value_at w s i ∷ values_at ws s (i + w)

pub value_in : (w : ℕ) (s : List ℕ) (i : ℕ) → i + w ≤ length s → low_number (take w (drop i s)) ≡ value_at w s i
value_in zero s i h = refl
value_in (suc w) s i h =
    ap (λ (l : List ℕ). low_number (take (suc w) l)) (drop_next s i (omega arith))
    ∙ ap (λ (n : ℕ). get_or s i 0 + 256 * n) (value_in w s (i + 1) (omega arith))

pub values_in : (ws s : List ℕ) (i : ℕ) → i + span_of ws ≤ length s → numbers_in ws (drop i s) ≡ values_at ws s i
values_in [] s i h = refl
values_in (w ∷ ws) s i h =
    ap₂ (λ (x : ℕ) (l : List ℕ). x ∷ l) (value_in w s i (omega arith))
    (ap (numbers_in ws) (drop-drop w i s) ∙ values_in ws s (i + w) (omega arith))

-- ---- records

one_more : (n k : ℕ) → suc n * k ≡ k + n * k
one_more n k = suc-mul n k ∙ add_comm (n * k) k

module _ {R : Type 0} (ws : List ℕ) (made : List ℕ → R) (numbers : R → List ℕ) where
  pub laid-records : ((v : List ℕ) → length v ≡ length ws → numbers (made v) ≡ v)
      → (n : ℕ) (t : List ℕ) → Bytes t → length t ≡ n * span_of ws → records_laid ws numbers (records_of ws made n t) ≡ t
  unfolding records_of records_laid
  laid-records e zero t b h = nothing t (h ∙ zero-mul (span_of ws))
  laid-records e (suc n) t b h =
      let k : length t ≡ span_of ws + n * span_of ws = h ∙ one_more n (span_of ws) in
      ap₂ (λ (x y : List ℕ). x ++ y)
      (ap (numbers_laid ws) (e (numbers_in ws t) (length_numbers ws t)) ∙ laid_numbers ws t b (omega arith))
      (laid-records e n (drop (span_of ws) t) (bytes_drop (span_of ws) t b) (length-drop (span_of ws) t ∙ omega arith))
      ∙ take-append-drop (span_of ws) t

  -- record i of n, and none after the last
  pub record-in : (n i : ℕ) (s : List ℕ) → i < n → get_elem? (records_of ws made n s) i ≡ some (made (numbers_in ws (drop (i * span_of ws) s)))
  unfolding records_of
  record-in zero i s h = absurd (omega arith)
  record-in (suc n) zero s h = ap (λ (j : ℕ). some (made (numbers_in ws (drop j s)))) (sym (zero-mul (span_of ws)))
  record-in (suc n) (suc i) s h =
      record-in n i (drop (span_of ws) s) (omega arith)
      ∙ ap (λ (l : List ℕ). some (made (numbers_in ws l))) (drop-drop (i * span_of ws) (span_of ws) s ∙ ap (λ (j : ℕ). drop j s) (sym (one_more i (span_of ws))))

  pub record-out : (n i : ℕ) (s : List ℕ) → n ≤ i → get_elem? (records_of ws made n s) i ≡ none
  unfolding records_of
  record-out zero i s h = refl
  record-out (suc n) zero s h = absurd (omega arith)
  record-out (suc n) (suc i) s h = record-out n i (drop (span_of ws) s) (omega arith)
