-- What the calls of the channel come to on a session that is Secure.
-- Assumes nothing.
use Rattle.std.specs.Prelude.{Option, Some, None, Result, Ok, Err, ⊤}
use mathlib.Core.Bool.{Bool, true, false, cond}
use mathlib.Core.List.{List, []}
use mathlib.Core.Path.{◌≡◌, refl, sym, ap, ◌∙◌}
use Prim.Native.Nat.{ℕ}
use lib.ListN.{take}
use Rattle.laws.specs.Answer.{Answer.given, Answer.refused}
use Rattle.laws.specs.Bytes.{compl, eql}
use Rattle.laws.proofs.Answers.{given_inj, given-refused}
use Rattle.refusal.specs.Paper.{number_of, values_of}
use Rattle.refusal.specs.Reading.{outcome_answer}
use Rattle.refusal.specs.declared.Refusal.{Refusal}
use Rattle.secure_cipher.specs.Cbc.{encrypt_of, decrypt_of}
use Rattle.secure_session.specs.Channel.{session_mac, make_mac, verify_of, seal_data_of, open_data_of}
use Rattle.secure_session.specs.Handshake.{Step, stepped, stepped_block, block_answer}
use Rattle.secure_session.specs.Secure.{secure_of, checked_of}
use Rattle.secure_session.specs.Chain.{send_from, recv_from, sent, received}
use Rattle.secure_session.specs.Session.{is_secure}
use Rattle.secure_session.specs.declared.session.Session.{Session}
use Rattle.secure_session.specs.declared.session.Stepped.{Stepped}

-- which session there is, and that there is none, by a test
some_by : (b : Bool) (s : Session) {t : Session} → Some t ≡ cond b (Some s) None → (b ≡ true) × (t ≡ s)
some_by true s e = (refl, cc)
some_by false s e = absurd cc

none_by : (b : Bool) (s : Session) → ◌≡◌ {A = Option Session} None (cond b (Some s) None) → b ≡ false
none_by true s e = absurd cc
none_by false s e = refl

-- what it says that a session was taken as a Secure one, or was not
module _ (s : Session) where
  pub secure_taken : {t : Session} → Some t ≡ secure_of s → (is_secure s.state ≡ true) × (t ≡ s)
  unfolding secure_of
  secure_taken = some_by (is_secure s.state) s

  pub not_secure : None ≡ secure_of s → is_secure s.state ≡ false
  unfolding secure_of
  not_secure = none_by (is_secure s.state) s

  -- and what a check of its MAC says
  module _ (l w : List ℕ) where
    abbrev right : Bool
    right = eql (take 4 (session_mac s (recv_from s) l).full) w

    pub mac_right : {t : Session} → Some t ≡ checked_of s l w → (right ≡ true) × (t ≡ received s (session_mac s (recv_from s) l).full)
    unfolding checked_of
    mac_right = some_by right _

    pub mac_wrong : None ≡ checked_of s l w → right ≡ false
    unfolding checked_of
    mac_wrong = none_by right _

-- what a check answers, and the session after it, by whether the MAC is right
abbrev verified : Bool → Session → Session → Step (Unit {0})
verified b s t = cond b (record { answer = given tt; session = t }) (record { answer = refused 15 []; session = s })

right_or : (b : Bool) (s t : Session) (r : Stepped ⊤) → stepped r ≡ verified b s t → r.answer ≡ Ok tt → (b ≡ true) × (r.session ≡ t)
right_or true s t r e h = (refl, ap (λ (x : Step (Unit {0})). x.session) e)
right_or false s t r e h =
    absurd (given-refused (ap (λ (o : Result ⊤ Refusal). outcome_answer {A = Unit {0}} o tt) (sym h) ∙ ap (λ (x : Step (Unit {0})). x.answer) e))

wrong_or : (b : Bool) (s t : Session) (r : Stepped ⊤) (x : Refusal) → stepped r ≡ verified b s t → r.answer ≡ Err x
    → (b ≡ false) × (number_of x ≡ 15) × (values_of x ≡ []) × (r.session ≡ s)
wrong_or true s t r x e h =
    absurd (given-refused (sym (ap (λ (y : Step (Unit {0})). y.answer) e) ∙ ap (λ (o : Result ⊤ Refusal). outcome_answer {A = Unit {0}} o tt) h))
wrong_or false s t r x e h =
    let q : refused (number_of x) (values_of x) ≡ refused 15 [] =
    ap (λ (o : Result ⊤ Refusal). outcome_answer {A = Unit {0}} o tt) (sym h) ∙ ap (λ (y : Step (Unit {0})). y.answer) e in
    (refl, cc, cc, ap (λ (y : Step (Unit {0})). y.session) e)

module _ (s : Session) (secure : is_secure s.state ≡ true) where
  pub secure-mac : (l : List ℕ) → let m = (session_mac s (send_from s) l).full in make_mac s l ≡ record { answer = given m; session = sent s m }
  unfolding make_mac
  secure-mac l = rw secure

  pub secure-verify : (l w : List ℕ)
      → let m = (session_mac s (recv_from s) l).full in
      verify_of s l w ≡ cond (eql (take 4 m) w) (record { answer = given tt; session = received s m }) (record { answer = refused 15 []; session = s })
  unfolding verify_of
  secure-verify l w = rw secure

  pub secure-seal-data : (x o : List ℕ) → seal_data_of s x o ≡ encrypt_of s.keys.s_enc (compl (send_from s)) x o
  unfolding seal_data_of
  secure-seal-data x o = rw secure

  pub secure-open-data : (c o : List ℕ) → open_data_of s c o ≡ decrypt_of s.keys.s_enc (compl (recv_from s)) c o
  unfolding open_data_of
  secure-open-data c o = rw secure

  -- as the code has it
  module _ (l : List ℕ) (r : Stepped (List ℕ)) (e : stepped_block r ≡ make_mac s l) where
    abbrev full : List ℕ
    full = (session_mac s (send_from s) l).full

    pub mac_there : {f : List ℕ} → r.answer ≡ Ok f → (f ≡ full) × (r.session ≡ sent s full)
    mac_there h =
        let m = e ∙ secure-mac l in
        (given_inj _ _ (ap block_answer (sym h) ∙ ap (λ (x : Step (List ℕ)). x.answer) m), ap (λ (x : Step (List ℕ)). x.session) m)

    pub mac-not-refused : {x : Refusal} → r.answer ≡ Err x → ⊥
    mac-not-refused h = given-refused (sym (ap (λ (x : Step (List ℕ)). x.answer) (e ∙ secure-mac l)) ∙ ap block_answer h)

  pub verify-right : (l w : List ℕ) (r : Stepped ⊤) → stepped r ≡ verify_of s l w → r.answer ≡ Ok tt
      → let m = (session_mac s (recv_from s) l).full in (eql (take 4 m) w ≡ true) × (r.session ≡ received s m)
  verify-right l w r e h = right_or _ s _ r (e ∙ secure-verify l w) h

  pub verify-wrong-mac : (l w : List ℕ) (r : Stepped ⊤) (x : Refusal) → stepped r ≡ verify_of s l w → r.answer ≡ Err x
      → (eql (take 4 (session_mac s (recv_from s) l).full) w ≡ false) × (number_of x ≡ 15) × (values_of x ≡ []) × (r.session ≡ s)
  verify-wrong-mac l w r x e h = wrong_or _ s _ r x (e ∙ secure-verify l w) h
