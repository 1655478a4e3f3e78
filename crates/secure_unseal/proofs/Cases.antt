-- The definitions' cases: from what a call tested and made, the case that it is in.
-- Assumes nothing.
use mathlib.Core.Bool.{Bool, true, false, cond}
use mathlib.Core.List.{List, [], ◌∷◌}
use mathlib.Core.Option.{none, some}
use mathlib.Core.Path.{◌≡◌, refl, sym, ap, ◌∙◌}
use Prim.Native.Nat.{ℕ, ◌+◌, ◌≤◌}
use lib.Dec.{ltb}
use lib.ListN.{length, take, drop}
use Rattle.laws.specs.Answer.{Answer, Answer.given, Answer.refused}
use Rattle.laws.specs.Bytes.{compl}
use Rattle.laws.proofs.Lists.{part_length}
use Rattle.packet_head.specs.Block.{has_mac, is_encrypted}
use Rattle.packet_parse.specs.Frame.{Fields, type_in, mac_start_of, parse_of}
use Rattle.refusal.specs.Paper.{refusal_of, number_of, values_of}
use Rattle.refusal.specs.declared.Refusal.{Refusal}
use Rattle.std.specs.Prelude.{Some, None, Ok, Err, ⊤}
use Rattle.secure_cipher.specs.Cbc.{Done, Opening, cipher_stop, decrypt_of, opened_into, wiped}
use Rattle.secure_keys.specs.declared.crypto.SessionKeys.{SessionKeys}
use Rattle.secure_session.specs.Chain.{recv_from, received}
use Rattle.secure_session.specs.Session.{is_secure}
use Rattle.secure_session.specs.Handshake.{stepped}
use Rattle.secure_session.specs.Channel.{verify_of}
use Rattle.secure_session.specs.Secure.{secure_of, checked_of}
use Rattle.secure_session.specs.declared.session.Session.{Session}
use Rattle.secure_session.specs.declared.session.Stepped.{Stepped}
use Rattle.secure_session.proofs.SecureLaws.{secure_taken, not_secure, mac_right, mac_wrong, verify-right, verify-wrong-mac}
use Rattle.secure_unseal.specs.Unseal.{Checked, Place, UnsealRun, unseal_stop, check, open_data, unseal_plain, unseal_opened, unseal_hidden, unseal_parsed, unseal_run, unseal_of, after_unseal, unsealed_on, unseal_told}
use Rattle.secure_unseal.specs.Parts.{stopped}
use Rattle.secure_session.specs.declared.session.Processed.{Processed}
use Rattle.secure_unseal.specs.declared.frame.PayloadPlace.{PayloadPlace}

-- ---- a choice whose test is known

module _ {A : Type 0} (x y : A) {b : Bool} where
  pub yes : b ≡ true → x ≡ cond b x y
  yes h = rw h

  pub no : b ≡ false → y ≡ cond b x y
  no h = rw h

-- ---- a refusal and a success, put on a session

pub stops : {s : Session} {r : Processed PayloadPlace} {e : Refusal} {n : ℕ} {w : List ℕ} {x : UnsealRun} → r ≡ stopped s e n
    → record { answer = refusal_of e; moved = none; work = w; steps = n } ≡ x → unseal_told r w ≡ unsealed_on s x
unfolding after_unseal
stops {s} {w = w} h k = ap (λ (y : Processed PayloadPlace). unseal_told y w) h ∙ ap (unsealed_on s) k

-- with what a check handed back: its refusal e, which is 15, and the session t, which is the one that it was given
pub stops-refused : {s t : Session} {r : Processed PayloadPlace} {e : Refusal} {n : ℕ} {w : List ℕ} {x : UnsealRun} → number_of e ≡ 15 → values_of e ≡ [] → t ≡ s → r ≡ stopped t e n
    → record { answer = refused 15 []; moved = none; work = w; steps = n } ≡ x → unseal_told r w ≡ unsealed_on s x
stops-refused {e = e} {n = n} {w = w} m v q h k =
    stops (h ∙ ap (λ (y : Session). stopped y e n) q) ((λ i. record { answer = refused (m i) (v i); moved = none; work = w; steps = n }) ∙ k)

pub moves : (s : Session) (m : List ℕ) {t : Session} {p : Place} {w : List ℕ} {n : ℕ} {x : UnsealRun} → t ≡ received s m
    → record { answer = given p; moved = some m; work = w; steps = n } ≡ x → record { answer = given p; session = t; work = w; steps = n } ≡ unsealed_on s x
unfolding after_unseal
moves s m {p = p} {w = w} {n = n} h k = ap (λ (y : Session). record { answer = given p; session = y; work = w; steps = n }) h ∙ ap (unsealed_on s) k

-- ---- the MAC's check

-- what `verify` came to, on any session that is Secure
module _ (s : Session) (secure : is_secure s.state ≡ true) (f : List ℕ) (at : ℕ) (r : Stepped ⊤) (e : stepped r ≡ verify_of s (take at f) (take 4 (drop at f))) where
  pub check-passed : r.answer ≡ Ok tt → ((check s.keys (recv_from s) f at).right ≡ true) × (r.session ≡ received s (check s.keys (recv_from s) f at).full)
  unfolding check
  check-passed h = verify-right s secure (take at f) (take 4 (drop at f)) r e h

  pub check-failed : (x : Refusal) → r.answer ≡ Err x → ((check s.keys (recv_from s) f at).right ≡ false) × (number_of x ≡ 15) × (values_of x ≡ []) × (r.session ≡ s)
  unfolding check
  check-failed x h = verify-wrong-mac s secure (take at f) (take 4 (drop at f)) r x e h

-- what the check of a session that is one by its type answered
module _ (s : Session) (f : List ℕ) (at : ℕ) where
  pub check-right : {t : Session} → Some t ≡ checked_of s (take at f) (take 4 (drop at f))
      → ((check s.keys (recv_from s) f at).right ≡ true) × (t ≡ received s (check s.keys (recv_from s) f at).full)
  unfolding check
  check-right = mac_right s (take at f) (take 4 (drop at f))

  pub check-wrong : None ≡ checked_of s (take at f) (take 4 (drop at f)) → (check s.keys (recv_from s) f at).right ≡ false
  unfolding check
  check-wrong = mac_wrong s (take at f) (take 4 (drop at f))

-- types 15 and 16: n is what the check c took
module _ (c : Checked) (p : Fields) (w : List ℕ) {n : ℕ} (en : n ≡ c.steps) where
  pub plain-right : c.right ≡ true
      → record { answer = given (record { in_work = false; start = p.data_start; len = p.data_len }); moved = some c.full; work = w; steps = n } ≡ unseal_plain c p w
  unfolding unseal_plain
  plain-right r =
      ap (λ (m : ℕ). record { answer = given (record { in_work = false; start = p.data_start; len = p.data_len }); moved = some c.full; work = w; steps = m }) en ∙ yes _ _ r

  pub plain-wrong : c.right ≡ false → record { answer = refused 15 []; moved = none; work = w; steps = n } ≡ unseal_plain c p w
  unfolding unseal_plain
  plain-wrong r = ap (λ (m : ℕ). record { answer = refused 15 []; moved = none; work = w; steps = m }) en ∙ no _ _ r

-- ---- types 17 and 18

-- what becomes of a deciphering of n bytes into w, once the MAC was checked
abbrev pub finish : Checked → ℕ → List ℕ → Answer ℕ → List ℕ → ℕ → UnsealRun
finish c n w (given l) out s =
    cond c.right
    (record { answer = given (record { in_work = true; start = 0; len = l }); moved = some c.full; work = out; steps = s + c.steps })
    (record { answer = refused 15 []; moved = none; work = wiped n w; steps = s + c.steps })
finish c n w (refused m vs) out s = record { answer = refused m vs; moved = none; work = out; steps = s }

opened_finish : (c : Checked) (n : ℕ) (o : Opening) (a : Answer ℕ) (w : List ℕ) → finish c n w a (opened_into n o a w) o.steps ≡ unseal_opened c n o a w
unfolding unseal_opened opened_into
opened_finish c n o (given l) w = refl
opened_finish c n o (refused m vs) w = refl

-- what deciphering n bytes into w comes to, where the opening is o and `short` says that w has no room
abbrev pub opened_unless : Bool → ℕ → Opening → List ℕ → Done
opened_unless short n o w =
    cond short (cipher_stop 18 (n ∷ length w ∷ []) w) (record { answer = o.answer; out = opened_into n o o.answer w; steps = o.steps })

module _ (c : Checked) (n : ℕ) (w : List ℕ) where
  finished : Done → UnsealRun
  finished d = finish c n w d.answer d.out d.steps

  hidden-finish : (b : Bool) (o : Opening) → finished (opened_unless b n o w) ≡ cond b (unseal_stop 18 (n ∷ length w ∷ []) w) (unseal_opened c n o o.answer w)
  unfolding finished
  hidden-finish true o = refl
  hidden-finish false o = opened_finish c n o o.answer w

pub hidden_from : (k : SessionKeys) (v f : List ℕ) (p : Fields) (c : Checked) (w : List ℕ) {a : Answer ℕ} {out : List ℕ} {s : ℕ} → p.data_start + p.data_len ≤ length f
    → record { answer = a; out = out; steps = s } ≡ decrypt_of k.s_enc (compl v) (take p.data_len (drop p.data_start f)) w
    → finish c p.data_len w a out s ≡ unseal_hidden c (open_data k v f p) p w
unfolding finished decrypt_of unseal_hidden open_data
hidden_from k v f p c w h e =
    let n = p.data_len in
    let o = open_data k v f p in
    let m : length (take n (drop p.data_start f)) ≡ n = part_length f p.data_start n h in
    ap (finished c n w) (e ∙ ap (λ (j : ℕ). opened_unless (ltb (length w) j) j o w) m) ∙ hidden-finish c n w (ltb (length w) n) o

-- from what was deciphered, and from what the MAC's check c came to, by n steps
module _ (k : SessionKeys) (v f : List ℕ) (p : Fields) (w : List ℕ) {a : Answer ℕ} {out : List ℕ} {s : ℕ} (fit : p.data_start + p.data_len ≤ length f)
    (e : record { answer = a; out = out; steps = s } ≡ decrypt_of k.s_enc (compl v) (take p.data_len (drop p.data_start f)) w) (c : Checked) where
  pub hidden-no : (m : ℕ) (vs : List ℕ) → a ≡ refused m vs
      → record { answer = refused m vs; moved = none; work = out; steps = s } ≡ unseal_hidden c (open_data k v f p) p w
  hidden-no m vs h = ap (λ (b : Answer ℕ). finish c p.data_len w b out s) (sym h) ∙ hidden_from k v f p c w fit e

  module _ (l : ℕ) (h : a ≡ given l) {n : ℕ} (en : n ≡ c.steps) where
    hidden-checked : finish c p.data_len w (given l) out s ≡ unseal_hidden c (open_data k v f p) p w
    hidden-checked = ap (λ (b : Answer ℕ). finish c p.data_len w b out s) (sym h) ∙ hidden_from k v f p c w fit e

    pub hidden-right : c.right ≡ true
        → record { answer = given (record { in_work = true; start = 0; len = l }); moved = some c.full; work = out; steps = s + n } ≡ unseal_hidden c (open_data k v f p) p w
    hidden-right r =
        ap (λ (j : ℕ). record { answer = given (record { in_work = true; start = 0; len = l }); moved = some c.full; work = out; steps = s + j }) en ∙ yes _ _ r ∙ hidden-checked

    pub hidden-wrong : (z : List ℕ) → z ≡ wiped p.data_len w → c.right ≡ false
        → record { answer = refused 15 []; moved = none; work = z; steps = s + n } ≡ unseal_hidden c (open_data k v f p) p w
    hidden-wrong z ez r = (λ i. record { answer = refused 15 []; moved = none; work = ez i; steps = s + en i }) ∙ no _ _ r ∙ hidden-checked

-- ---- a frame that was read

module _ (k : SessionKeys) (v f : List ℕ) (p : Fields) (w : List ℕ) where
  abbrev c₀ : Checked
  c₀ = check k v f (mac_start_of p.mac)

  abbrev sealed : UnsealRun
  sealed = cond (is_encrypted (type_in p.block)) (unseal_hidden c₀ (open_data k v f p) p w) (unseal_plain c₀ p w)

  pub parsed-no : has_mac (type_in p.block) ≡ false → unseal_stop 13 [] w ≡ unseal_parsed k v f (given p) w
  unfolding unseal_parsed
  parsed-no h = no sealed (unseal_stop 13 [] w) h

  module _ (h : has_mac (type_in p.block) ≡ true) where
    pub parsed-hidden : is_encrypted (type_in p.block) ≡ true → unseal_hidden c₀ (open_data k v f p) p w ≡ unseal_parsed k v f (given p) w
    unfolding unseal_parsed
    parsed-hidden e = yes (unseal_hidden c₀ (open_data k v f p) p w) (unseal_plain c₀ p w) e ∙ yes sealed (unseal_stop 13 [] w) h

    pub parsed-plain : is_encrypted (type_in p.block) ≡ false → unseal_plain c₀ p w ≡ unseal_parsed k v f (given p) w
    unfolding unseal_parsed
    parsed-plain e = no (unseal_hidden c₀ (open_data k v f p) p w) (unseal_plain c₀ p w) e ∙ yes sealed (unseal_stop 13 [] w) h

pub parsed-refused : (k : SessionKeys) (v f w : List ℕ) (n : ℕ) (vs : List ℕ)
    → unseal_stop n vs w ≡ unseal_parsed k v f (refused n vs) w
unfolding unseal_parsed
parsed-refused k v f w n vs = refl

-- ---- the session

module _ (s : Session) (f w : List ℕ) where
  pub on-secure : {t : Session} {x : UnsealRun} → Some t ≡ secure_of s → x ≡ unseal_parsed s.keys (recv_from s) f (parse_of f) w → unsealed_on s x ≡ unseal_of s f w
  unfolding unseal_of unseal_run
  on-secure h e = ap (unsealed_on s) (e ∙ yes (unseal_parsed s.keys (recv_from s) f (parse_of f) w) (unseal_stop 16 [] w) (secure_taken s h).0)

  pub on-other : None ≡ secure_of s → record { answer = refused 16 []; session = s; work = w; steps = 0 } ≡ unseal_of s f w
  unfolding unseal_of unseal_run after_unseal
  on-other h = ap (unsealed_on s) (no (unseal_parsed s.keys (recv_from s) f (parse_of f) w) (unseal_stop 16 [] w) (not_secure s h))
