-- Bytes after LEN are not looked at (docs/RULES.md, 3.4).
-- Assumes nothing.
use Rattle.std.proofs.Common.{◌≡◌, ℕ, ◌+◌, ◌<◌, ◌≤◌, not, eqb, ltb, List, [], ◌∷◌, ◌++◌, length, get_or, take, sym, refl, ap, ◌∙◌, ap₂, arith, length-append, length-take-le, get_or-take, take-take, le-ltb}
use lib.Seq.{take-append-le}
use Rattle.laws.specs.Answer.{Answer, Answer.given, Answer.refused, refuse_if, and_then}
use Rattle.laws.proofs.Answers.{refuse_false}
use Rattle.packet_head.specs.Header.{control_of}
use Rattle.slices.specs.Number.{low_number}
use Rattle.packet_parse.specs.Frame.{Head, Fields, len_of, head_of, frame_of, parse_of}
use Rattle.packet_parse.proofs.HeadTold.{head_answers, accepted-told}
use Rattle.packet_parse.proofs.Within.{accepted_inside}

-- ---- the head of five bytes or more looks at five

abbrev pub head_by_bytes : ℕ → ℕ → ℕ → ℕ → ℕ → Answer Head
head_by_bytes a b c d e = refuse_if (not (eqb a 0x53)) 2 (a ∷ []) (and_then (control_of e) (λ ctrl. given (record { addr = b; len = low_number (c ∷ d ∷ []); ctrl = ctrl })))

pub head_by_bytes_lem : (s : List ℕ) → 5 ≤ length s → head_of s ≡ head_by_bytes (get_or s 0 0) (get_or s 1 0) (get_or s 2 0) (get_or s 3 0) (get_or s 4 0)
unfolding head_of
head_by_bytes_lem s h = refuse_false _ _ _ _ (le-ltb (length s) 5 h)

-- ---- with enough bytes for LEN the rest of the tests are of the first LEN

parse_of_len : (s : List ℕ) → len_of s ≤ length s → parse_of s ≡ and_then (head_of s) (λ h. frame_of (take (len_of s) s) h.addr h.ctrl)
unfolding parse_of and_then
parse_of_len s l = go (head_of s) refl
  where
    go : (x : Answer Head) → head_of s ≡ x
        → and_then x (λ h. refuse_if (ltb (length s) h.len) 1 (length s ∷ h.len ∷ []) (frame_of (take h.len s) h.addr h.ctrl))
        ≡ and_then x (λ h. frame_of (take (len_of s) s) h.addr h.ctrl)
    go (given h) e =
        let n : h.len ≡ len_of s = omega (arith, (head_answers s h e).len) in
        refuse_false _ _ _ _ (le-ltb (length s) h.len (omega arith)) ∙ ap (λ (k : ℕ). frame_of (take k s) h.addr h.ctrl) n
    go (refused n vs) e = refl

-- Two slices, each of at least 5 and at least LEN bytes, with the same first five and the same first LEN bytes, get the same answer.
pub same_first_bytes : (s t : List ℕ) → 5 ≤ length s → 5 ≤ length t → len_of s ≤ length s → len_of s ≤ length t → take 5 s ≡ take 5 t → take (len_of s) s ≡ take (len_of s) t
    → parse_of s ≡ parse_of t
same_first_bytes s t s5 t5 sl tl five front =
    let g : (i : ℕ) → i < 5 → get_or s i 0 ≡ get_or t i 0 = λ i h. sym (get_or-take 5 s i 0 h) ∙ ap (λ (l : List ℕ). get_or l i 0) five ∙ get_or-take 5 t i 0 h in
    let e₂ = g 2 (omega arith) in
    let e₃ = g 3 (omega arith) in
    let n : len_of s ≡ len_of t = ap₂ (λ (x y : ℕ). low_number (x ∷ y ∷ [])) e₂ e₃ in
    let h : head_of s ≡ head_of t =
    head_by_bytes_lem s s5 ∙ (λ i. head_by_bytes (g 0 (omega arith) i) (g 1 (omega arith) i) (e₂ i) (e₃ i) (g 4 (omega arith) i)) ∙ sym (head_by_bytes_lem t t5) in
    let f : take (len_of s) s ≡ take (len_of t) t = front ∙ ap (λ (k : ℕ). take k t) n in
    parse_of_len s sl ∙ ap₂ (λ (x : Answer Head) (l : List ℕ). and_then x (λ h. frame_of l h.addr h.ctrl)) h f ∙ sym (parse_of_len t (omega arith))

-- A parse is that of the first n bytes, where these are at least 5 and at least LEN.
pub parse_of_front : (s : List ℕ) (n : ℕ) → 5 ≤ n → len_of s ≤ n → n ≤ length s → parse_of s ≡ parse_of (take n s)
parse_of_front s n h l k =
    let e : length (take n s) ≡ n = length-take-le n s k in
    same_first_bytes s (take n s) (omega arith) (omega arith) (omega arith) (omega arith) (sym (take-take 5 n s h)) (sym (take-take (len_of s) n s l))

-- What follows them is not looked at.
pub parse_whatever_follows : (s rest : List ℕ) → 5 ≤ length s → len_of s ≤ length s → parse_of (s ++ rest) ≡ parse_of s
parse_whatever_follows s rest h l =
    let e : length (s ++ rest) ≡ length s + length rest = length-append s rest in
    sym (same_first_bytes s (s ++ rest) h (omega arith) l (omega arith) (sym (take-append-le 5 s rest h)) (sym (take-append-le (len_of s) s rest l)))

-- An accepted frame is its first LEN bytes: alone they are accepted as the same frame, and so they are with any bytes after them.
module _ (s : List ℕ) (F : Fields) (e : parse_of s ≡ given F) where
  abbrev len-said : F.len ≡ len_of s
  len-said = (accepted-told s F e).len

  pub accepted-alone : parse_of (take F.len s) ≡ given F
  accepted-alone =
      let i = accepted_inside s F e in
      sym (parse_of_front s F.len (omega (arith, i.least)) (omega (arith, len-said)) i.most) ∙ e

  pub accepted-before : (rest : List ℕ) → parse_of (take F.len s ++ rest) ≡ given F
  accepted-before rest =
      let i = accepted_inside s F e in
      let n : length (take F.len s) ≡ F.len = length-take-le F.len s i.most in
      let k : F.len ≡ len_of (take F.len s) = (accepted-told (take F.len s) F accepted-alone).len in
      parse_whatever_follows (take F.len s) rest (omega (arith, i.least)) (omega arith) ∙ accepted-alone
