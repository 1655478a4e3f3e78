-- The cipher calls of unsealing, of any frame on any session, by how it came out (docs/RULES.md, 9.2 and 9.3).
--     unseal_calls     they are what `unseal_calls_of` says
-- Assumes nothing.
use mathlib.Core.Bool.{Bool, true, false, false≢true, cond, not, ◌||◌}
use mathlib.Core.List.{List, []}
use mathlib.Core.Path.{◌≡◌, refl, sym, ap, ◌∙◌}
use Prim.Native.Nat.{ℕ, zero, suc, ◌+◌, ◌-◌, ◌/◌, ◌%◌}
use native.Mathlib.Omega.{arith}
use borrow.Author.Tests.{eqb-true}
use lib.Dec.{ltb, eqb}
use lib.ListN.{length, get_or, take, drop}
use Rattle.laws.specs.Answer.{Answer, Answer.given, Answer.refused}
use Rattle.laws.specs.Blocks.{blocks}
use Rattle.laws.specs.Bytes.{compl}
use Rattle.laws.proofs.Answers.{Holds, holds_refuse, holds_choose, holds_then, holds_given}
use Rattle.laws.proofs.BlockLists.{length-blocks}
use Rattle.laws.proofs.Lists.{part_length}
use Rattle.packet_head.specs.Header.{Control}
use Rattle.packet_head.specs.Block.{has_mac, is_encrypted}
use Rattle.packet_head.specs.Trailer.{mac_len_of, trailer_len}
use Rattle.packet_parse.specs.Frame.{Fields, BlockAt, BlockAt.no_block, BlockAt.block_at, type_in, mac_start_of, mac_at_of, rest_of, frame_of, parse_of}
use Rattle.secure_cipher.specs.Pad.{unpad, unpad_from}
use Rattle.secure_cipher.specs.Cbc.{Opening, reveal}
use Rattle.secure_cipher.proofs.CbcLaws.{dec_steps}
use Rattle.secure_cipher.specs.Mac.{mac_calls}
use Rattle.secure_keys.specs.declared.crypto.SessionKeys.{SessionKeys}
use Rattle.secure_session.specs.Chain.{recv_from}
use Rattle.secure_session.specs.Session.{is_secure}
use Rattle.secure_session.specs.declared.session.Session.{Session}
use Rattle.secure_unseal.specs.Unseal.{Checked, UnsealRun, check, open_data, unseal_plain, unseal_opened, unseal_hidden, unseal_parsed, unseal_run, unseal_of}
use Rattle.secure_unseal.specs.Calls.{unseal_number, body_len, data_calls, unseal_calls_of}
use Rattle.secure_unseal.proofs.Inside.{mac-inside, data-inside}
use Rattle.secure_unseal.proofs.Wiping.{check-counted}

-- ---- where the MAC stands: after the body

abbrev Placed : Fields → Type 0
Placed p = p.mac ≡ mac_at_of (has_mac (type_in p.block)) (p.len - (mac_len_of (has_mac (type_in p.block)) + trailer_len p.ctrl.crc))

rest_placed : (f : List ℕ) (a : ℕ) (c : Control) (b : BlockAt) (at : ℕ) → Holds Placed (rest_of f a c b at (has_mac (type_in b)))
unfolding rest_of
rest_placed f a c b at = holds_refuse _ _ _ _ _ (λ _. holds_refuse _ _ _ _ _ (λ _. holds_then _ _ _ (λ t _. refl)))

frame_placed : (f : List ℕ) (a : ℕ) (c : Control) → Holds Placed (frame_of f a c)
unfolding frame_of
frame_placed f a c =
    holds_refuse _ _ _ _ _ (λ _. holds_choose _ _ _ _
    (λ _. holds_then _ _ _ (λ b e. rest_placed f a c (block_at b.type 7 b.data_len) (7 + b.data_len)))
    (λ _. rest_placed f a c no_block 5))

parse_placed : (s : List ℕ) → Holds Placed (parse_of s)
unfolding parse_of
parse_placed s = holds_then _ _ _ (λ h _. holds_refuse _ _ _ _ _ (λ _. frame_placed (take h.len s) h.addr h.ctrl))

start-due : (b : Bool) (n t : ℕ) → b ≡ true → mac_start_of (mac_at_of b (n - (mac_len_of b + t))) ≡ n - 4 - t
start-due true n t h = omega arith
start-due false n t h = absurd (false≢true h)

-- ---- the data's calls

-- an empty or ragged length opens nothing
steps_by : (b c : Bool) (o : Opening) (n : ℕ) → (b ≡ true → n ≡ 0) → (b ≡ false → c ≡ true → o.steps ≡ n / 16)
    → (cond (b || not c) (record { answer = refused 14 []; text = []; steps = 0 }) o).steps ≡ cond c (n / 16) 0
steps_by true true o n h k = let e = h refl in omega arith
steps_by true false o n h k = refl
steps_by false true o n h k = k refl refl
steps_by false false o n h k = refl

reveal-steps : (k v c : List ℕ) → (reveal k v c).steps ≡ cond (eqb (length c % 16) 0) (length c / 16) 0
unfolding reveal
reveal-steps k v c = steps_by (eqb (length c) 0) (eqb (length c % 16) 0) _ (length c) (λ h. eqb-true (length c) 0 h) (λ _ _. dec_steps k v (blocks c) ∙ length-blocks c)

-- and is refused by 14 alone
abbrev By14 : Answer ℕ → Type 0
By14 a = (m : ℕ) (vs : List ℕ) → a ≡ refused m vs → m ≡ 14

by14_refused : By14 (refused 14 [])
by14_refused m vs e = cc

by14_given : (n : ℕ) → By14 (given n)
by14_given n m vs e = let z : ◌≡◌ {A = ℕ} 0 1 = cc in omega arith

by14_cond : (b : Bool) (x y : Answer ℕ) → By14 x → By14 y → By14 (cond b x y)
by14_cond true x y hx hy = hx
by14_cond false x y hx hy = hy

unpad-14 : (i : ℕ) (l : List ℕ) → By14 (unpad_from i l)
unfolding unpad_from
unpad-14 zero l = by14_refused
unpad-14 (suc i) l = by14_cond (eqb (get_or l i 0) 0) _ _ (unpad-14 i l) (by14_cond (eqb (get_or l i 0) 0x80) _ _ (by14_given i) by14_refused)

opening_14 : (b : Bool) (x y : Opening) → By14 x.answer → By14 y.answer → By14 (cond b x y).answer
opening_14 true x y hx hy = hx
opening_14 false x y hx hy = hy

reveal-14 : (k v c : List ℕ) → By14 (reveal k v c).answer
unfolding reveal unpad
reveal-14 k v c = opening_14 (eqb (length c) 0 || not (eqb (length c % 16) 0)) _ _ by14_refused (unpad-14 _ _)

-- ---- the run

-- what it reports is what its outcome calls for
abbrev Counted : Answer Fields → UnsealRun → Type 0
Counted a r = r.steps ≡ unseal_calls_of (unseal_number r.answer) a

counted-cond : (a : Answer Fields) (b : Bool) (x y : UnsealRun) → (b ≡ true → Counted a x) → (b ≡ false → Counted a y) → Counted a (cond b x y)
counted-cond a true x y hx hy = hx refl
counted-cond a false x y hx hy = hy refl

-- 16 comes before the frame is read
not_secure : (a : Answer Fields) → unseal_calls_of 16 a ≡ 0
unfolding unseal_calls_of
not_secure (given p) = refl
not_secure (refused n vs) = refl

module _ (k : SessionKeys) (v f : List ℕ) (p : Fields) (e : parse_of f ≡ given p) (w : List ℕ) where
  abbrev macCheck : Checked
  macCheck = check k v f (mac_start_of p.mac)

  abbrev opening : Opening
  opening = open_data k v f p

  opening-14-alone : By14 opening.answer
  unfolding open_data
  opening-14-alone = reveal-14 _ _ _

  opening-steps : is_encrypted (type_in p.block) ≡ true → opening.steps ≡ data_calls p
  unfolding open_data data_calls
  opening-steps h =
      let n : length (take p.data_len (drop p.data_start f)) ≡ p.data_len = part_length f p.data_start p.data_len (data-inside f p e) in
      reveal-steps k.s_enc (compl v) (take p.data_len (drop p.data_start f)) ∙ ap (λ (m : ℕ). cond (eqb (m % 16) 0) (m / 16) 0) n
      ∙ ap (λ (b : Bool). cond b (cond (eqb (p.data_len % 16) 0) (p.data_len / 16) 0) 0) (sym h)

  no-data-steps : is_encrypted (type_in p.block) ≡ false → 0 ≡ data_calls p
  unfolding data_calls
  no-data-steps h = ap (λ (b : Bool). cond b (cond (eqb (p.data_len % 16) 0) (p.data_len / 16) 0) 0) (sym h)

  module _ (due : has_mac (type_in p.block) ≡ true) where
    body-start : mac_start_of p.mac ≡ body_len p
    body-start = ap mac_start_of (holds_given Placed (parse_of f) p (parse_placed f) e) ∙ start-due (has_mac (type_in p.block)) p.len (trailer_len p.ctrl.crc) due

    check-steps : macCheck.steps ≡ mac_calls (body_len p)
    check-steps = sym (check-counted k v f (mac_start_of p.mac) (omega (arith, mac-inside f p e due))) ∙ ap mac_calls body-start

    plain-counted : is_encrypted (type_in p.block) ≡ false → Counted (given p) (unseal_plain macCheck p w)
    unfolding unseal_plain unseal_calls_of
    plain-counted h =
        let s : macCheck.steps ≡ data_calls p + mac_calls (body_len p) = omega (arith, check-steps, no-data-steps h) in
        counted-cond (given p) macCheck.right _ _ (λ _. s) (λ _. s)

    opened-counted : (o : Opening) (a : Answer ℕ) → By14 a → o.steps ≡ data_calls p → Counted (given p) (unseal_opened macCheck p.data_len o a w)
    unfolding unseal_opened unseal_calls_of
    opened-counted o (given l) h s =
        let t : o.steps + macCheck.steps ≡ data_calls p + mac_calls (body_len p) = omega (arith, s, check-steps) in
        counted-cond (given p) macCheck.right _ _ (λ _. t) (λ _. t)
    opened-counted o (refused m vs) h s = let n : m ≡ 14 = h m vs refl in rw n s

    hidden-counted : is_encrypted (type_in p.block) ≡ true → Counted (given p) (unseal_hidden macCheck opening p w)
    unfolding unseal_hidden unseal_calls_of
    hidden-counted h =
        counted-cond (given p) (ltb (length w) p.data_len) _ _ (λ _. refl) (λ _. opened-counted opening opening.answer opening-14-alone (opening-steps h))

  given_counted : Counted (given p) (unseal_parsed k v f (given p) w)
  unfolding unseal_parsed unseal_calls_of
  given_counted =
      counted-cond (given p) (has_mac (type_in p.block)) _ _
      (λ due. counted-cond (given p) (is_encrypted (type_in p.block)) _ _ (hidden-counted due) (plain-counted due))
      (λ _. refl)

parsed-counted : (k : SessionKeys) (v f w : List ℕ) (a : Answer Fields) → parse_of f ≡ a → Counted a (unseal_parsed k v f a w)
unfolding unseal_parsed unseal_calls_of
parsed-counted k v f w (given p) e = given_counted k v f p e w
parsed-counted k v f w (refused n vs) e = refl

-- unsealing any frame on any session
pub unseal_calls : (s : Session) (f w : List ℕ) → (unseal_of s f w).steps ≡ unseal_calls_of (unseal_number (unseal_of s f w).answer) (parse_of f)
unfolding unseal_of unseal_run
unseal_calls s f w =
    counted-cond (parse_of f) (is_secure s.state) _ _ (λ _. parsed-counted s.keys (recv_from s) f w (parse_of f) refl) (λ _. sym (not_secure (parse_of f)))
