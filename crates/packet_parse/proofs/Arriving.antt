-- What `head` says of a frame while its bytes arrive, how long it stands, and that a driver may rely on it (docs/RULES.md, 3.7): s is what
-- is there, u and v are what follows.
-- Assumes nothing.
use Rattle.std.proofs.Common.{◌≡◌, ℕ, ◌+◌, ◌<◌, ◌≤◌, Bool, true, false, List, [], ◌∷◌, ◌++◌, length, get_or, take, drop, sym, refl, ap, ◌∙◌, subst, arith, length-append, take-append-drop, length-take-le, take_all, take-take, ltb-false, ltb-true, le-ltb, lt-ltb, eqb-true, leb-true}
use native.Mathlib.Decide.{dec_le}
use borrow.Author.Tests.{eqb-false, not-true, not-false}
use lib.ListN.{get_or-append}
use Rattle.laws.specs.Answer.{Answer, Answer.given, Answer.refused, refuse_if, and_then}
use Rattle.laws.proofs.Answers.{given-refused, refuse_true, refuse_false, then_given, then_refused}
use Rattle.packet_head.specs.Header.{control_of}
use Rattle.packet_head.specs.Trailer.{trailer_len}
use Rattle.packet_parse.specs.Frame.{Head, Fields, len_of, head_of, frame_of, parse_of}
use Rattle.packet_parse.specs.Driver.{HeadRefused, HeadRefused.too_few, HeadRefused.bad_start, HeadRefused.bad_ctrl, to_read, wanted_of, driver_of}
use Rattle.packet_parse.proofs.HeadTold.{head_answers, accepted-told}
use Rattle.packet_parse.proofs.Within.{accepted_inside}
use Rattle.packet_parse.proofs.AfterLen.{head_by_bytes, head_by_bytes_lem, parse_whatever_follows}

-- ---- `head` looks at five bytes and no more

pub head_stays : (s u : List ℕ) → 5 ≤ length s → head_of (s ++ u) ≡ head_of s
head_stays s u h =
    let l = length-append s u in
    let at : (i : ℕ) → i < 5 → get_or (s ++ u) i 0 ≡ get_or s i 0 = λ i k. get_or-append s u 0 i (omega arith) in
    head_by_bytes_lem (s ++ u) (omega arith)
    ∙ (λ i. head_by_bytes (at 0 (omega arith) i) (at 1 (omega arith) i) (at 2 (omega arith) i) (at 3 (omega arith) i) (at 4 (omega arith) i))
    ∙ sym (head_by_bytes_lem s h)

pub head_of_five : (s : List ℕ) → head_of s ≡ head_of (take 5 s)
head_of_five s = elim (dec_le 5 (length s)) [
  | yes p ↦ ap head_of (sym (take-append-drop 5 s)) ∙ head_stays (take 5 s) (drop 5 s) (omega (arith, length-take-le 5 s p))
  | no q ↦ ap head_of (sym (take_all 5 s (omega arith)))
]

-- ---- why it refuses

-- P of a refusal's number and values, nothing of what is given
abbrev Refusing : {A : Type 0} → (ℕ → List ℕ → Type 0) → Answer A → Type 0
Refusing P (given a) = Unit {0}
Refusing P (refused n vs) = P n vs

refusing_if : {A : Type 0} (P : ℕ → List ℕ → Type 0) (t : Bool) (n : ℕ) (vs : List ℕ) (a : Answer A) → (t ≡ true → P n vs) → (t ≡ false → Refusing P a) → Refusing P (refuse_if t n vs a)
unfolding refuse_if
refusing_if P true n vs a f g = f refl
refusing_if P false n vs a f g = g refl

refusing_then : {A B : Type 0} (P : ℕ → List ℕ → Type 0) (x : Answer A) (f : A → Answer B) → Refusing P x → ((a : A) → Refusing P (f a)) → Refusing P (and_then x f)
unfolding and_then
refusing_then P (given a) f h g = g a
refusing_then P (refused n vs) f h g = h

head_refusing : (s : List ℕ) → Refusing (HeadRefused s) (head_of s)
unfolding head_of control_of
head_refusing s =
    refusing_if _ _ _ _ _ (λ k. too_few (ltb-true _ _ k)) (λ k.
    refusing_if _ _ _ _ _ (λ m. bad_start (ltb-false _ _ k) (eqb-false _ _ (not-true _ m))) (λ m.
    refusing_then _ _ _
    (refusing_if _ _ _ _ _ (λ c. bad_ctrl (ltb-false _ _ k) (eqb-true _ _ (not-false _ m)) (leb-true _ _ c)) (λ _. tt))
    (λ _. tt)))

-- by 1, 2 or 3, each for its own reason
pub head_refuses : (s : List ℕ) (n : ℕ) (vs : List ℕ) → head_of s ≡ refused n vs → HeadRefused s n vs
head_refuses s n vs e = subst (Refusing (HeadRefused s)) e (head_refusing s)

-- ---- from `head` to the parse

-- what `head` refuses, the parse refuses
pub parse_of_refused : (s : List ℕ) (n : ℕ) (vs : List ℕ) → head_of s ≡ refused n vs → parse_of s ≡ refused n vs
unfolding parse_of
parse_of_refused s n vs e = then_refused _ _ _ _ e

parse_of_given : (s : List ℕ) (h : Head) → head_of s ≡ given h → length s < h.len → parse_of s ≡ refused 1 (length s ∷ h.len ∷ [])
unfolding parse_of
parse_of_given s h e l = then_given _ _ _ e ∙ refuse_true _ _ _ _ (lt-ltb (length s) h.len l)

pub head_of_few : (s : List ℕ) → length s < 5 → head_of s ≡ refused 1 (length s ∷ 5 ∷ [])
unfolding head_of
head_of_few s h = refuse_true _ _ _ _ (lt-ltb (length s) 5 h)

pub wanted_as : (s : List ℕ) (x : Answer Head) → head_of s ≡ x → wanted_of s ≡ 5 + to_read x
unfolding wanted_of
wanted_as s x e = ap (λ (y : Answer Head). 5 + to_read y) e

pub five_wanted : (s : List ℕ) → 5 ≤ wanted_of s
unfolding wanted_of
five_wanted s = omega arith

pub wanted_of_few : (s : List ℕ) → length s < 5 → wanted_of s ≡ 5
wanted_of_few s h = wanted_as s (refused 1 (length s ∷ 5 ∷ [])) (head_of_few s h)

-- While fewer bytes are there than are wanted, the parse refuses by 1, with both numbers, and by nothing else.
pub parse_waits : (s : List ℕ) → length s < wanted_of s → parse_of s ≡ refused 1 (length s ∷ wanted_of s ∷ [])
parse_waits s h = go (head_of s) refl
  where
    go : (x : Answer Head) → head_of s ≡ x → parse_of s ≡ refused 1 (length s ∷ wanted_of s ∷ [])
    go (given a) e =
        let w = wanted_as s (given a) e in
        let five = (head_answers s a e).five in
        let n : a.len ≡ wanted_of s = omega arith in
        parse_of_given s a e (omega arith) ∙ ap (λ (k : ℕ). refused 1 (length s ∷ k ∷ [])) n
    go (refused n vs) e =
        let w = wanted_as s (refused n vs) e in
        let five : 5 ≡ wanted_of s = omega arith in
        parse_of_refused s 1 (length s ∷ 5 ∷ []) (head_of_few s (omega arith)) ∙ ap (λ (k : ℕ). refused 1 (length s ∷ k ∷ [])) five

-- Once as many are there the parse no longer changes, whatever follows.
pub parse_decided : (s u : List ℕ) → wanted_of s ≤ length s → parse_of (s ++ u) ≡ parse_of s
parse_decided s u h = go (head_of s) refl
  where
    go : (x : Answer Head) → head_of s ≡ x → parse_of (s ++ u) ≡ parse_of s
    go (given a) e =
        let w = wanted_as s (given a) e in
        let n : len_of s ≡ a.len = omega (arith, (head_answers s a e).len) in
        parse_whatever_follows s u (omega arith) (omega arith)
    go (refused n vs) e =
        let w = wanted_as s (refused n vs) e in
        parse_of_refused (s ++ u) n vs (head_stays s u (omega arith) ∙ e) ∙ sym (parse_of_refused s n vs e)

-- The same in the words of the order: of a refusal and of an answer of `head`.

-- ---- a refusal of `head`

-- By 1: fewer than five bytes are there, and the parse says the same. Only this may change as bytes arrive.
pub refused_so_far : (s vs : List ℕ) → head_of s ≡ refused 1 vs → (length s < 5) × (vs ≡ length s ∷ 5 ∷ []) × (parse_of s ≡ refused 1 vs)
refused_so_far s vs e = let why = one 1 vs refl (head_refuses s 1 vs e) in (why.0, why.1, parse_of_refused s 1 vs e)
  where
    one : (k : ℕ) (ws : List ℕ) → k ≡ 1 → HeadRefused s k ws → (length s < 5) × (ws ≡ length s ∷ 5 ∷ [])
    one k ws o (too_few h) = (h, refl)
    one k ws o (bad_start h b) = absurd (omega (arith, o))
    one k ws o (bad_ctrl h b c) = absurd (omega (arith, o))

-- By 2 or 3: five bytes are there, so `head` says the same, whatever follows,
pub refusal_stays : (s u : List ℕ) (n : ℕ) (vs : List ℕ) → head_of s ≡ refused n vs → (n ≡ 1 → ⊥) → head_of (s ++ u) ≡ refused n vs
refusal_stays s u n vs e other = head_stays s u (five n vs (head_refuses s n vs e) other) ∙ e
  where
    five : (k : ℕ) (ws : List ℕ) → HeadRefused s k ws → (k ≡ 1 → ⊥) → 5 ≤ length s
    five k ws (too_few h) o = absurd (o refl)
    five k ws (bad_start h b) o = h
    five k ws (bad_ctrl h b c) o = h

-- and the parse refuses by the same number and values.
pub refused_for_good : (s u : List ℕ) (n : ℕ) (vs : List ℕ) → head_of s ≡ refused n vs → (n ≡ 1 → ⊥) → parse_of (s ++ u) ≡ refused n vs
refused_for_good s u n vs e other = parse_of_refused (s ++ u) n vs (refusal_stays s u n vs e other)

-- ---- an answer of `head`

module _ (s : List ℕ) (h : Head) (e : head_of s ≡ given h) where
  pub answer-stays : (u : List ℕ) → head_of (s ++ u) ≡ given h
  answer-stays u = head_stays s u (head_answers s h e).five ∙ e

  -- An accepted frame shows the same address, LEN and control byte.
  pub accepted-shows : (u : List ℕ) (F : Fields) → parse_of (s ++ u) ≡ given F → (F.addr ≡ h.addr) × (F.len ≡ h.len) × (F.ctrl ≡ h.ctrl)
  accepted-shows u F g =
      let t = accepted-told (s ++ u) F g in
      let a = head_answers (s ++ u) h (answer-stays u) in
      (t.addr ∙ sym a.addr, omega (arith, t.len, a.len), t.ctrl ∙ sym a.ctrl)

  -- While fewer than LEN bytes are there the parse refuses by 1, with both numbers, and by nothing else.
  pub waits-for-len : (u : List ℕ) → length (s ++ u) < h.len → parse_of (s ++ u) ≡ refused 1 (length (s ++ u) ∷ h.len ∷ [])
  waits-for-len u l = parse_of_given (s ++ u) h (answer-stays u) l

  -- From LEN bytes on it no longer changes, whatever follows.
  pub decided-at-len : (u v : List ℕ) → h.len ≤ length (s ++ u) → parse_of ((s ++ u) ++ v) ≡ parse_of (s ++ u)
  decided-at-len u v l =
      let w = wanted_as (s ++ u) (given h) (answer-stays u) in
      let five = (head_answers (s ++ u) h (answer-stays u)).five in
      parse_decided (s ++ u) v (omega arith)

  -- A LEN that no frame can have is answered too: the parse refuses it by 4.
  pub len-too-short : (u : List ℕ) → h.len ≤ length (s ++ u) → h.len < 6 + trailer_len h.ctrl.crc → parse_of (s ++ u) ≡ refused 4 (h.len ∷ h.len ∷ [])
  unfolding parse_of frame_of
  len-too-short u l k =
      let n : length (take h.len (s ++ u)) ≡ h.len = length-take-le h.len (s ++ u) l in
      let few : length (take h.len (s ++ u)) < 6 + trailer_len h.ctrl.crc = omega (arith, n) in
      then_given _ _ _ (answer-stays u) ∙ refuse_false _ _ _ _ (le-ltb _ _ l) ∙ refuse_true _ _ _ _ (lt-ltb _ _ few) ∙ ap (λ (x : ℕ). refused 4 (x ∷ x ∷ [])) n

-- An accepted frame is as long as was wanted: behind what was read the next one begins.
pub accepted_wanted : (s : List ℕ) (F : Fields) → parse_of s ≡ given F → wanted_of s ≡ F.len
accepted_wanted s F e = go (head_of s) refl
  where
    go : (x : Answer Head) → head_of s ≡ x → wanted_of s ≡ F.len
    go (given h) g =
        let t = accepted-told s F e in
        omega (arith, wanted_as s (given h) g, t.len, (head_answers s h g).len, (accepted_inside s F e).least)
    go (refused n vs) g = absurd (given-refused (sym e ∙ parse_of_refused s n vs g))

-- ---- the driver

-- What a driver wants it can tell from five bytes, or from any more.
pub wanted_of_five : (s : List ℕ) → wanted_of (take 5 s) ≡ wanted_of s
unfolding wanted_of
wanted_of_five s = ap (λ (x : Answer Head). 5 + to_read x) (sym (head_of_five s))

-- It answers as a parse of the whole line does, whatever the line.
pub driver_right : (line : List ℕ) → driver_of line ≡ parse_of line
unfolding driver_of
driver_right line =
    let n = wanted_of line in
    let p = take n line in
    ap (λ (k : ℕ). parse_of (take k line)) (wanted_of_five line) ∙ elim (dec_le (length line) n) [
      | yes all ↦ ap parse_of (take_all n line all)
      | no more ↦
          let size : length p ≡ n = length-take-le n line (omega arith) in
          let same : wanted_of p ≡ n = sym (wanted_of_five p) ∙ ap wanted_of (take-take 5 n line (five_wanted line)) ∙ wanted_of_five line in
          sym (parse_decided p (drop n line) (omega arith)) ∙ ap parse_of (take-append-drop n line)
    ]
