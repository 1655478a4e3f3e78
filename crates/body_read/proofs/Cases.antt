-- What reading a body of each kind gives, by its tests: with numbers by the bytes at their places, as the code has them.
-- Assumes nothing.
use mathlib.Core.Path.{◌≡◌, refl, sym, ap, ◌∙◌}
use mathlib.Core.Bool.{Bool, true, false}
use mathlib.Core.List.{List, [], ◌∷◌}
use Prim.Native.Nat.{ℕ, ◌+◌, ◌-◌, ◌/◌, ◌%◌, ◌≤◌, ◌<◌}
use native.Mathlib.Omega.{arith}
use native.Mathlib.Nat.{sub-zero, add-zero, add_assoc}
use borrow.Author.Tests.{eq-eqb, ne_eqb, le-leb, lt-leb}
use lib.Dec.{eqb}
use lib.ListN.{length, get_or, get_elem?, drop, length-drop, drop_of_length-le}
use lib.Seq.{take_all}
use Rattle.laws.specs.Answer.{Answer.given, Answer.refused}
use Rattle.slices.specs.Number.{low_number}
use Rattle.slices.specs.Place.{part_of}
use Rattle.slices.proofs.PlaceLaws.{part_in}
use Rattle.body_message.specs.Fields.{span_of, numbers_in, records_of}
use Rattle.body_message.specs.Message.{Message, Message.nak, Message.raw, Message.keypad, Kind, Kind.NAK, Kind.PDID, Kind.RAW, Kind.KEYPAD, Triple, bytes_for, triple_of, triple_widths, code, widths, whole_records, follows, message_of}
use Rattle.body_message.specs.Body.{body_numbers, body_rest, read_as}
use Rattle.body_message.specs.Lookup.{badge_in, message_badge, message_triple}
use Rattle.body_read.specs.Reading.{rest_start_of, rest_length, message_in}
use Rattle.body_read.specs.declared.body.Body.{Body}
use Rattle.body_read.specs.declared.body.DeviceId.{DeviceId}
use Rattle.body_read.specs.declared.body.Body.TheVariants.{Nak, PdId, PdCap, Raw, Keypad}
use Rattle.body_message.proofs.FieldLaws.{value_at, values_at, values_in}
use Rattle.body_message.proofs.BadgeLaws.{no_bits, many-bits, other-bytes, a-number}
use Rattle.body_message.proofs.Listed.{read-listed, read_unlisted}
use Rattle.body_message.proofs.OneMessage.{read_good, read_bad}

module _ (k : Kind) (s : List ℕ) where
  values : span_of (widths k) ≤ length s → body_numbers k s ≡ values_at (widths k) s 0
  values h = values_in (widths k) s 0 (omega arith)

  pub accepted : (m : Message) → span_of (widths k) ≤ length s → follows k (values_at (widths k) s 0) (length s - span_of (widths k)) ≡ true
      → m ≡ message_of k (values_at (widths k) s 0) (body_rest k s) → given m ≡ read_as k s
  accepted m l f e =
      ap given (e ∙ ap (λ (vs : List ℕ). message_of k vs (body_rest k s)) (sym (values l)))
      ∙ sym (read_good k s (record { long = l; fits = ap (λ (vs : List ℕ). follows k vs (length s - span_of (widths k))) (values l) ∙ f }))

  pub short-bad : length s < span_of (widths k) → refused 19 (code k ∷ []) ≡ read_as k s
  short-bad h = sym (read_bad k s (λ l. absurd (omega arith)))

  pub unfit-bad : follows k (values_at (widths k) s 0) (length s - span_of (widths k)) ≡ false → refused 19 (code k ∷ []) ≡ read_as k s
  unfit-bad h = sym (read_bad k s (λ l. ap (λ (vs : List ℕ). follows k vs (length s - span_of (widths k))) (values l) ∙ h))

-- ---- a fixed length

module _ (k : Kind) (fixed : (vs : List ℕ) (n : ℕ) → follows k vs n ≡ eqb n 0) (s : List ℕ) where
  pub fixed-bad : (length s ≡ span_of (widths k) → ⊥) → refused 19 (code k ∷ []) ≡ read_as k s
  fixed-bad h =
      sym (read_bad k s (λ l. fixed (body_numbers k s) (length s - span_of (widths k)) ∙ ne_eqb (length s - span_of (widths k)) 0 (λ e. h (omega arith))))

  pub fixed-good : (m : Message) → length s ≡ span_of (widths k) → m ≡ message_of k (values_at (widths k) s 0) [] → given m ≡ read_as k s
  fixed-good m h e =
      accepted k s m (omega arith) (fixed (values_at (widths k) s 0) (length s - span_of (widths k)) ∙ eq-eqb (length s - span_of (widths k)) 0 (omega arith))
      (e ∙ ap (message_of k (values_at (widths k) s 0)) (sym (drop_of_length-le s {i = span_of (widths k)} (omega arith))))

-- ---- records alone

module _ (k : Kind) (w : ℕ) (bare : widths k ≡ []) (counted : (vs : List ℕ) (n : ℕ) → follows k vs n ≡ whole_records w n) (s : List ℕ) where
  all_rest : length s - span_of (widths k) ≡ length s
  all_rest = ap (λ (ws : List ℕ). length s - span_of ws) bare ∙ sub-zero (length s)

  counted-by : (b : Bool) → whole_records w (length s) ≡ b → follows k (values_at (widths k) s 0) (length s - span_of (widths k)) ≡ b
  counted-by b h = counted (values_at (widths k) s 0) (length s - span_of (widths k)) ∙ ap (whole_records w) all_rest ∙ h

  pub records-none : length s < 1 → refused 19 (code k ∷ []) ≡ read_as k s
  records-none h = unfit-bad k s (counted-by false (rw (lt-leb 1 (length s) h)))

  pub records-part : 1 ≤ length s → (length s % w ≡ 0 → ⊥) → refused 19 (code k ∷ []) ≡ read_as k s
  records-part h e = unfit-bad k s (counted-by false (rw (le-leb 1 (length s) h, ne_eqb (length s % w) 0 e)))

  pub records-good : (m : Message) → 1 ≤ length s → length s % w ≡ 0 → m ≡ message_of k [] s → given m ≡ read_as k s
  records-good m h z e =
      accepted k s m (omega (arith, ap span_of bare)) (counted-by true (rw (le-leb 1 (length s) h, eq-eqb (length s % w) 0 z)))
      (e ∙ ap (λ (ws : List ℕ). message_of k (values_at ws s 0) (drop (span_of ws) s)) (sym bare))

-- ---- what follows the numbers, where it is all that is left

pub part_rest : (s : List ℕ) (start n : ℕ) → start ≤ length s → length s - start ≡ n → part_of s start n ≡ drop start s
part_rest s start n h e = part_in s start n (omega arith) ∙ take_all n (drop start s) (omega (arith, length-drop start s))

-- the device that the bytes of s name, but for its serial number
abbrev pub device : List ℕ → ℕ → DeviceId
device s serial =
    record {
      vendor1 = get_or s 0 0;
      vendor2 = get_or s 1 0;
      vendor3 = get_or s 2 0;
      model = get_or s 3 0;
      version = get_or s 4 0;
      serial = serial;
      major = get_or s 9 0;
      minor = get_or s 10 0;
      build = get_or s 11 0;
    }

-- ---- the bodies whose numbers do not tell all by themselves

module _ (s : List ℕ) where
  pub nak-good : 1 ≤ length s → given (message_in (Nak (get_or s 0 0)) s) ≡ read_as NAK s
  nak-good h = accepted NAK s _ h refl (ap (nak (get_or s 0 0)) (part_rest s 1 (length s - 1) h refl) ∙ simp add-zero)

  pub pdid-good : (serial : ℕ) → length s ≡ 12 → serial ≡ low_number (get_or s 5 0 ∷ get_or s 6 0 ∷ get_or s 7 0 ∷ get_or s 8 0 ∷ [])
      → given (message_in (PdId (device s serial)) s) ≡ read_as PDID s
  pdid-good serial h e = fixed-good PDID (λ vs n. refl) s _ h (simp (add-zero, e))

  module _ (bits : ℕ) (long : 4 ≤ length s) (e : bits ≡ low_number (get_or s 2 0 ∷ get_or s 3 0 ∷ [])) where
    two : value_at 2 s 2 ≡ bits
    two = sym e

    pub raw-bad : (length s - 4 ≡ bytes_for bits → ⊥) → refused 19 (code RAW ∷ []) ≡ read_as RAW s
    raw-bad h = unfit-bad RAW s (ne_eqb (length s - 4) (bytes_for (value_at 2 s 2)) (λ f. h (f ∙ ap bytes_for two)))

    pub raw-good : length s - 4 ≡ bytes_for bits → given (message_in (Raw (get_or s 0 0) (get_or s 1 0) bits) s) ≡ read_as RAW s
    raw-good h =
        accepted RAW s _ long (eq-eqb (length s - 4) (bytes_for (value_at 2 s 2)) (h ∙ ap bytes_for (sym two)))
        (ap (raw (get_or s 0 0) (get_or s 1 0) bits) (part_rest s 4 (bytes_for bits) long h) ∙ simp (add-zero, sym two))

  module _ (count : ℕ) (long : 2 ≤ length s) (e : count ≡ get_or s 1 0) where
    one : value_at 1 s 1 ≡ count
    one = omega arith

    pub keypad-bad : (length s - 2 ≡ count → ⊥) → refused 19 (code KEYPAD ∷ []) ≡ read_as KEYPAD s
    keypad-bad h = unfit-bad KEYPAD s (ne_eqb (length s - 2) (value_at 1 s 1) (λ f. h (f ∙ one)))

    pub keypad-good : length s - 2 ≡ count → given (message_in (Keypad (get_or s 0 0) count) s) ≡ read_as KEYPAD s
    keypad-good h =
        accepted KEYPAD s _ long (eq-eqb (length s - 2) (value_at 1 s 1) (h ∙ sym one))
        (ap (keypad (get_or s 0 0) count) (part_rest s 2 count long h) ∙ simp (add-zero, sym one))

-- ---- by its code

-- each code that is listed has its reader; any other is unlisted
pub ruleset by_code = (read-listed, read_unlisted)

-- ---- the badge is given by the number of bits, then by the bytes that are there

pub ruleset by_bits = (no_bits, many-bits, other-bytes, a-number)

-- ---- the badge is that of the bytes which a RAW shows

pub raw-number : (b : Body) (reader format bits : ℕ) (s t : List ℕ) → b ≡ Raw reader format bits
    → t ≡ part_of s (rest_start_of b) (rest_length b (length s)) → badge_in bits t ≡ message_badge (message_in b s)
raw-number b reader format bits s t e f = ap (badge_in bits) f ∙ rw e

-- ---- the triples of a payload, and the one at j, byte by byte

pub triples_all : (s : List ℕ) (i : ℕ) → message_triple (message_in PdCap s) i ≡ get_elem? (records_of triple_widths triple_of (length s / 3) s) i
triples_all s i = ap (λ (t : List ℕ). get_elem? (records_of triple_widths triple_of (length t / 3) t) i) (part_rest s 0 (length s) (omega arith) (omega arith))

abbrev pub triple_from : List ℕ → ℕ → Triple
triple_from s j = record { function = get_or s j 0; compliance = get_or s (j + 1) 0; number = get_or s (j + 2) 0 }

by_bytes : (s : List ℕ) (j : ℕ) → triple_from s j ≡ triple_of (values_at triple_widths s j)
by_bytes s j = simp (add-zero, add_assoc)

pub triple_record : (s : List ℕ) (j : ℕ) → j + 3 ≤ length s → triple_from s j ≡ triple_of (numbers_in triple_widths (drop j s))
triple_record s j h = by_bytes s j ∙ ap triple_of (sym (values_in triple_widths s j h))
