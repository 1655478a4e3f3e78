-- The claim over all bodies: each that is accepted has one reading, which holds its every byte.
-- Assumes nothing.
use mathlib.Core.Path.{◌≡◌, refl, sym, ap, ap₂, ◌∙◌}
use mathlib.Core.Bool.{Bool, true, false, not, ◌&&◌}
use mathlib.Core.List.{List, [], ◌∷◌, ◌++◌}
use Prim.Native.Nat.{ℕ, ◌-◌, ◌≤◌}
use borrow.Author.Tests.{leb-true, le-leb, not-false}
use lib.Dec.{leb}
use lib.ListN.{length, drop, length-drop, take-append-drop}
use lib.Seq.{drop_at}
use Rattle.laws.specs.Answer.{Answer.given, Answer.refused}
use Rattle.laws.specs.Bytes.{Bytes}
use Rattle.laws.proofs.Answers.{Holds, holds_then, holds_refuse, holds_given, given_inj, refuse_true, refuse_false}
use Rattle.laws.proofs.ByteLists.{bytes_drop}
use Rattle.body_message.specs.Fields.{span_of, numbers_laid}
use Rattle.body_message.specs.Message.{Message, Kind, kinds, code, widths, follows, message_of, message_kind, message_numbers, message_rest}
use Rattle.body_message.specs.Body.{kind_named, body_numbers, body_rest, shaped, read_as, read_of, message_code, message_bytes}
use Rattle.body_message.proofs.FieldLaws.{length_numbers, length-laid, laid_numbers}
use Rattle.body_message.proofs.KindLaws.{kind_code, kind_back, numbers_back, rest_back, and_true}

-- ---- by the tests

-- what the tests of a kind leave
pub record Shaped (k : Kind) (s : List ℕ) : Type 0 where
  pub long : span_of (widths k) ≤ length s
  pub fits : follows k (body_numbers k s) (length s - span_of (widths k)) ≡ true

pub read_good : (k : Kind) (s : List ℕ) → Shaped k s → read_as k s ≡ given (message_of k (body_numbers k s) (body_rest k s))
unfolding read_as
read_good k s a = refuse_false _ _ _ _ (ap₂ (λ (x y : Bool). not (x && y)) (le-leb (span_of (widths k)) (length s) a.long) a.fits)

pub read_bad : (k : Kind) (s : List ℕ)
    → (span_of (widths k) ≤ length s → follows k (body_numbers k s) (length s - span_of (widths k)) ≡ false) → read_as k s ≡ refused 19 (code k ∷ [])
unfolding read_as
read_bad k s h = refuse_true _ _ _ _ (ap not (by (leb (span_of (widths k)) (length s)) refl))
  where
    by : (b : Bool) → leb (span_of (widths k)) (length s) ≡ b → b && follows k (body_numbers k s) (length s - span_of (widths k)) ≡ false
    by true e = h (leb-true _ _ e)
    by false e = refl

-- ---- the claim

-- the bytes of a message put together of a body's parts are the body's
same_bytes : (k : Kind) (s : List ℕ) → Bytes s → Shaped k s → message_bytes (message_of k (body_numbers k s) (body_rest k s)) ≡ s
unfolding message_bytes
same_bytes k s b a =
    let vs : List ℕ = body_numbers k s in
    let t : List ℕ = body_rest k s in
    let m : Message = message_of k vs t in
    let f : follows k vs (length t) ≡ true = ap (follows k vs) (length-drop (span_of (widths k)) s) ∙ a.fits in
    ap (λ (j : Kind). numbers_laid (widths j) (message_numbers m) ++ message_rest m) (kind_back k vs t)
    ∙ ap₂ (λ (x y : List ℕ). numbers_laid (widths k) x ++ y) (numbers_back k vs t (length_numbers (widths k) s)) (rest_back k vs t (bytes_drop (span_of (widths k)) s b) f)
    ∙ ap (λ (l : List ℕ). l ++ t) (laid_numbers (widths k) s b a.long)
    ∙ take-append-drop (span_of (widths k)) s

-- m is what the body s of code c says
abbrev Says : ℕ → List ℕ → Message → Type 0
Says c s m = (message_bytes m ≡ s) × (message_code m ≡ c)

says : (c : ℕ) (s : List ℕ) → Bytes s → Holds (Says c s) (read_of c s)
unfolding read_of read_as
says c s b =
    holds_then (Says c s) (kind_named kinds c) (λ k. read_as k s)
    (λ k e. holds_refuse (Says c s) (not (shaped k s)) 19 (code k ∷ []) _
    (λ h. let t = and_true _ _ (not-false (shaped k s) h) in (
      same_bytes k s b (record { long = leb-true _ _ t.0; fits = t.1 }),
      ap code (kind_back k (body_numbers k s) (body_rest k s)) ∙ kind_code kinds c k e,
    )))

-- The reading of an accepted body holds its every byte, and its code.
pub read_whole : (c : ℕ) (s : List ℕ) (m : Message) → Bytes s → read_of c s ≡ given m → (message_bytes m ≡ s) × (message_code m ≡ c)
read_whole c s m b e = holds_given (Says c s) (read_of c s) m (says c s b) e

-- What comes after the numbers, of a message's bytes, is its rest.
pub after_numbers : (m : Message) → drop (span_of (widths (message_kind m))) (message_bytes m) ≡ message_rest m
unfolding message_bytes
after_numbers m =
    let ws : List ℕ = widths (message_kind m) in
    drop_at (numbers_laid ws (message_numbers m)) (message_rest m) (span_of ws) (length-laid ws (message_numbers m))

-- Two messages that are read and have the same code and bytes are equal.
pub one_message : (c d : ℕ) (s t : List ℕ) (m n : Message) → Bytes s → Bytes t → read_of c s ≡ given m → read_of d t ≡ given n
    → message_code m ≡ message_code n → message_bytes m ≡ message_bytes n → m ≡ n
one_message c d s t m n bs bt e f g h =
    let p = read_whole c s m bs e in
    let q = read_whole d t n bt f in
    given_inj m n (sym e ∙ ap₂ read_of (sym p.1 ∙ g ∙ q.1) (sym p.0 ∙ h ∙ q.0) ∙ f)
