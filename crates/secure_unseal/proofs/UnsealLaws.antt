-- What unsealing comes to, case by case, over its definition; that a refusal moves no chain, and what it leaves in the work buffer.
-- Assumes nothing.
use mathlib.Core.Bool.{Bool, true, false, cond}
use mathlib.Core.List.{List, ◌++◌}
use mathlib.Core.Option.{none, some}
use mathlib.Core.Path.{◌≡◌, refl, sym, ap, ◌∙◌}
use Prim.Native.Nat.{ℕ, ◌+◌, ◌-◌, ◌≤◌}
use native.Mathlib.Omega.{arith}
use borrow.Author.Tests.{le-ltb}
use lib.Dec.{ltb}
use lib.ListN.{length, take, drop, length-append, length-replicate}
use lib.Seq.{length-take-le, take-append-le, take_at}
use Rattle.laws.specs.Answer.{Answer, Answer.given, Answer.refused}
use Rattle.laws.specs.Bytes.{compl, eql, zeros}
use Rattle.laws.specs.Over.{write}
use Rattle.laws.proofs.Answers.{given-refused}
use Rattle.laws.proofs.ByteLists.{eql_refl}
use Rattle.laws.proofs.Overwrite.{length-write}
use Rattle.packet_head.specs.Block.{has_mac, is_encrypted}
use Rattle.packet_parse.specs.Frame.{Fields, type_in, mac_start_of, parse_of}
use Rattle.secure_cipher.specs.Cbc.{Opening, reveal, opened_into, laid, wiped}
use Rattle.secure_cipher.specs.Mac.{Mac, mac_of}
use Rattle.secure_keys.specs.declared.crypto.SessionKeys.{SessionKeys}
use Rattle.secure_session.specs.Chain.{recv_from}
use Rattle.secure_session.specs.Session.{is_secure}
use Rattle.secure_session.specs.declared.session.State.{State}
use Rattle.secure_session.specs.declared.session.Session.{Session}
use Rattle.secure_unseal.specs.Unseal.{Checked, UnsealRun, check, open_data, unseal_plain, unseal_opened, unseal_hidden, unseal_parsed, unseal_run, unseal_of, after_unseal}
use Rattle.secure_unseal.specs.Lookup.{payload_shown}
use Rattle.secure_unseal.proofs.Cases.{yes, no, parsed-hidden, parsed-plain}
use Rattle.secure_unseal.proofs.LookupLaws.{shown-inside}
use Rattle.secure_unseal.proofs.Inside.{data-inside}

-- ---- a frame with a right MAC opens

-- f reads as p, with a MAC in it, on a session that is Secure
module _ (t : State) (k : SessionKeys) (v f : List ℕ) (p : Fields) (w : List ℕ) (secure : is_secure t ≡ true) (reads : parse_of f ≡ given p)
    (due : has_mac (type_in p.block) ≡ true) where
  -- the MAC over what stands before it
  abbrev pub macMade : Mac
  macMade = mac_of k.s_mac1 k.s_mac2 v (take (mac_start_of p.mac) f)

  run-parsed : unseal_run t k v f w ≡ unseal_parsed k v f (given p) w
  unfolding unseal_run
  run-parsed = sym (yes _ _ secure) ∙ ap (λ (a : Answer Fields). unseal_parsed k v f a w) reads

  run-plain : is_encrypted (type_in p.block) ≡ false → unseal_run t k v f w ≡ unseal_plain (check k v f (mac_start_of p.mac)) p w
  run-plain e = run-parsed ∙ sym (parsed-plain k v f p w due e)

  run-hidden : is_encrypted (type_in p.block) ≡ true → unseal_run t k v f w ≡ unseal_hidden (check k v f (mac_start_of p.mac)) (open_data k v f p) p w
  run-hidden e = run-parsed ∙ sym (parsed-hidden k v f p w due e)

  module _ (right : take 4 macMade.full ≡ take 4 (drop (mac_start_of p.mac) f)) where
    check-right : (check k v f (mac_start_of p.mac)).right ≡ true
    unfolding check
    check-right = ap (λ (x : List ℕ). eql (take 4 macMade.full) x) (sym right) ∙ eql_refl (take 4 macMade.full)

    -- types 15 and 16: the payload stands in the frame, the work buffer stays, the chain moves by the full MAC
    pub plain-opens : is_encrypted (type_in p.block) ≡ false
        → unseal_run t k v f w
        ≡ record {
          answer = given (record { in_work = false; start = p.data_start; len = p.data_len });
          moved = some macMade.full;
          work = w;
          steps = macMade.steps;
        }
    unfolding unseal_plain check
    plain-opens e = run-plain e ∙ sym (yes _ _ check-right)

    opened-right : (l n : ℕ) (x : List ℕ) → unseal_opened (check k v f (mac_start_of p.mac)) p.data_len (record { answer = given l; text = x; steps = n }) (given l) w
        ≡ record { answer = given (record { in_work = true; start = 0; len = l }); moved = some macMade.full; work = laid l p.data_len x w; steps = n + macMade.steps }
    unfolding unseal_opened opened_into check
    opened-right l n x = sym (yes _ _ check-right)

    -- types 17 and 18: the opening's text is laid into the work buffer
    pub hidden-opens : (l n : ℕ) (x : List ℕ) → is_encrypted (type_in p.block) ≡ true → p.data_len ≤ length w
        → reveal k.s_enc (compl v) (take p.data_len (drop p.data_start f)) ≡ record { answer = given l; text = x; steps = n }
        → unseal_run t k v f w
        ≡ record {
          answer = given (record { in_work = true; start = 0; len = l });
          moved = some macMade.full;
          work = laid l p.data_len x w;
          steps = n + macMade.steps;
        }
    unfolding unseal_hidden open_data
    hidden-opens l n x e room o =
        run-hidden e ∙ sym (no _ _ (le-ltb (length w) p.data_len room))
        ∙ ap (λ (q : Opening). unseal_opened (check k v f (mac_start_of p.mac)) p.data_len q q.answer w) o ∙ opened-right l n x

-- ---- what the lookup shows of it

-- types 15 and 16: the frame's data
pub plain_shown : (f w : List ℕ) (p : Fields) → parse_of f ≡ given p → payload_shown false p.data_start p.data_len f w ≡ take p.data_len (drop p.data_start f)
plain_shown f w p e = shown-inside false p.data_start p.data_len f w (data-inside f p e)

-- types 17 and 18: the text up to its padding
pub hidden_shown : (f w x : List ℕ) (l n : ℕ) → l ≤ length x → l ≤ n → n ≤ length w → payload_shown true 0 l f (laid l n x w) ≡ take l x
unfolding laid write
hidden_shown f w x l n hl hn hw =
    let s : List ℕ = take l x ++ zeros (n - l) in
    let e : length s ≡ n = length-append (take l x) (zeros (n - l)) ∙ omega (arith, length-take-le l x hl, length-replicate {A = ℕ} (n - l) 0) in
    shown-inside true 0 l f (write w 0 s) (omega (arith, length-write w 0 s (omega (arith, e))))
    ∙ take-append-le l s (drop (0 + length s) w) (omega (arith, e)) ∙ take_at (take l x) (zeros (n - l)) l (length-take-le l x hl)

-- ---- a refused frame moves no chain

-- where the answer is a refusal, nothing moved
abbrev Still : UnsealRun → Type 0
Still r = (n : ℕ) (vs : List ℕ) → r.answer ≡ refused n vs → r.moved ≡ none

still_cond : (b : Bool) (x y : UnsealRun) → Still x → Still y → Still (cond b x y)
still_cond true x y hx hy = hx
still_cond false x y hx hy = hy

plain_still : (c : Checked) (p : Fields) (w : List ℕ) → Still (unseal_plain c p w)
unfolding unseal_plain
plain_still c p w = still_cond c.right _ _ (λ n vs e. absurd (given-refused e)) (λ n vs e. refl)

opened_still : (c : Checked) (n : ℕ) (o : Opening) (a : Answer ℕ) (w : List ℕ) → Still (unseal_opened c n o a w)
unfolding unseal_opened
opened_still c n o (given l) w = still_cond c.right _ _ (λ m vs e. absurd (given-refused e)) (λ m vs e. refl)
opened_still c n o (refused j us) w = λ m vs e. refl

hidden_still : (c : Checked) (o : Opening) (p : Fields) (w : List ℕ) → Still (unseal_hidden c o p w)
unfolding unseal_hidden
hidden_still c o p w = still_cond (ltb (length w) p.data_len) _ _ (λ n vs e. refl) (opened_still c p.data_len o o.answer w)

parsed_still : (k : SessionKeys) (v f : List ℕ) (a : Answer Fields) (w : List ℕ) → Still (unseal_parsed k v f a w)
unfolding unseal_parsed
parsed_still k v f (given p) w =
    still_cond (has_mac (type_in p.block)) _ _
    (still_cond (is_encrypted (type_in p.block)) _ _ (hidden_still (check k v f (mac_start_of p.mac)) (open_data k v f p) p w) (plain_still (check k v f (mac_start_of p.mac)) p w))
    (λ n vs e. refl)
parsed_still k v f (refused m us) w = λ n vs e. refl

pub refused_still : (t : State) (k : SessionKeys) (v f w : List ℕ) (n : ℕ) (vs : List ℕ) → (unseal_run t k v f w).answer ≡ refused n vs → (unseal_run t k v f w).moved ≡ none
unfolding unseal_run
refused_still t k v f w = still_cond (is_secure t) _ _ (parsed_still k v f (parse_of f) w) (λ n vs e. refl)

-- the session is handed back as it was
pub refused_kept : (s : Session) (f w : List ℕ) (n : ℕ) (vs : List ℕ) → (unseal_of s f w).answer ≡ refused n vs → (unseal_of s f w).session ≡ s
unfolding unseal_of after_unseal
refused_kept s f w n vs e = ap (after_unseal s) (refused_still s.state s.keys (recv_from s) f w n vs e)

-- ---- what a refusal leaves in the work buffer

-- where the answer is a refusal, the work buffer is z
abbrev Leaves : List ℕ → UnsealRun → Type 0
Leaves z r = (n : ℕ) (vs : List ℕ) → r.answer ≡ refused n vs → r.work ≡ z

leaves_cond : (z : List ℕ) (b : Bool) (x y : UnsealRun) → Leaves z x → Leaves z y → Leaves z (cond b x y)
leaves_cond z true x y hx hy = hx
leaves_cond z false x y hx hy = hy

opened_leaves : (c : Checked) (n : ℕ) (o : Opening) (a : Answer ℕ) (w : List ℕ) → Leaves (wiped n w) (unseal_opened c n o a w)
unfolding unseal_opened
opened_leaves c n o (given l) w = leaves_cond (wiped n w) c.right _ _ (λ m vs e. absurd (given-refused e)) (λ m vs e. refl)
opened_leaves c n o (refused j us) w = λ m vs e. refl

after_18 : (z : List ℕ) (b : Bool) (x y : UnsealRun) (us : List ℕ) → x.answer ≡ refused 18 us → Leaves z y
    → (n : ℕ) (vs : List ℕ) → (n ≡ 18 → ⊥) → (cond b x y).answer ≡ refused n vs → (cond b x y).work ≡ z
after_18 z true x y us h hy n vs f e = absurd (f cc)
after_18 z false x y us h hy n vs f e = hy n vs e

module _ (t : State) (k : SessionKeys) (v f : List ℕ) (p : Fields) (w : List ℕ) (secure : is_secure t ≡ true) (reads : parse_of f ≡ given p)
    (due : has_mac (type_in p.block) ≡ true) where
  hidden-leaves : (c : Checked) (o : Opening) (n : ℕ) (vs : List ℕ) → (n ≡ 18 → ⊥) → (unseal_hidden c o p w).answer ≡ refused n vs → (unseal_hidden c o p w).work ≡ wiped p.data_len w
  unfolding unseal_hidden
  hidden-leaves c o = after_18 (wiped p.data_len w) (ltb (length w) p.data_len) _ _ _ refl (opened_leaves c p.data_len o o.answer w)

  -- types 17 and 18: any refusal but 18, that is 14 or 15, leaves zeros over the length of the encrypted data
  pub hidden-wipes : is_encrypted (type_in p.block) ≡ true → (n : ℕ) (vs : List ℕ) → (n ≡ 18 → ⊥)
      → (unseal_run t k v f w).answer ≡ refused n vs → (unseal_run t k v f w).work ≡ wiped p.data_len w
  hidden-wipes y n vs f₁ e =
      let h = run-hidden t k v f p w secure reads due y in
      ap (λ (r : UnsealRun). r.work) h ∙ hidden-leaves _ _ n vs f₁ (ap (λ (r : UnsealRun). r.answer) (sym h) ∙ e)

  plain-keeps-it : (b : Bool) (x y : UnsealRun) → x.work ≡ w → y.work ≡ w → (cond b x y).work ≡ w
  plain-keeps-it true x y hx hy = hx
  plain-keeps-it false x y hx hy = hy

  -- types 15 and 16: the work buffer is not touched
  pub plain-keeps : is_encrypted (type_in p.block) ≡ false → (unseal_run t k v f w).work ≡ w
  unfolding unseal_plain
  plain-keeps y = ap (λ (r : UnsealRun). r.work) (run-plain t k v f p w secure reads due y) ∙ plain-keeps-it (check k v f (mac_start_of p.mac)).right _ _ refl refl
