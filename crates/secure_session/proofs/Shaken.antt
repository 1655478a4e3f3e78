-- Two ends, Disconnected, with one SCBK: where each message arrives, every call of the handshake succeeds, and both ends are then ready to
-- send to each other.
-- Assumes nothing.
use mathlib.Core.Bool.{true}
use mathlib.Core.List.{List}
use mathlib.Core.Path.{◌≡◌, refl, sym, ap, ◌∙◌}
use Prim.Native.Nat.{ℕ}
use borrow.Author.Tests.{eq-eqb}
use Rattle.laws.specs.Answer.{Answer.given}
use Rattle.laws.specs.Blocks.{Block}
use Rattle.laws.proofs.ByteLists.{eql_refl}
use Rattle.secure_keys.specs.Keys.{Random, derive, client_of, server_of, first_of}
use Rattle.secure_keys.specs.declared.crypto.SessionKeys.{SessionKeys}
use Rattle.secure_keys.proofs.KeysLaws.{GoodKeys, derive_good, server-block, first_block}
use Rattle.secure_session.specs.Apart.{Apart}
use Rattle.secure_session.specs.Handshake.{challenge_of, receive_ccrypt_of, server_cryptogram_of, confirm_of, receive_challenge_of, receive_scrypt_of}
use Rattle.secure_session.specs.Chain.{send_from, recv_from}
use Rattle.secure_session.specs.Session.{end_number, state_number, is_at, with_step, secured}
use Rattle.secure_session.specs.declared.session.End.TheVariants.{Controller, Reader}
use Rattle.secure_session.specs.declared.session.End.{End}
use Rattle.secure_session.specs.declared.session.Session.{Session}
use Rattle.secure_session.specs.declared.session.State.TheVariants.{Disconnected, Challenged, Cryptogrammed, Secure}
use Rattle.secure_session.specs.declared.session.State.{State}
use Rattle.secure_session.proofs.SessionLaws.{send-secured, recv-secured, secured-state, secured-keys}

-- what one end sends, the other can take: both Secure, with equal keys, and the one's MACs start where the other's checks do
pub record Ready (from to : Session) : Type 0 where
  pub sender : from.state ≡ Secure
  pub taker : to.state ≡ Secure
  pub keys : from.keys ≡ to.keys
  pub start : send_from from ≡ recv_from to
  pub good : GoodKeys from.keys
  pub block : Block (send_from from)

at_law : (e : End) (t : State) (s : Session) → s.end ≡ e → s.state ≡ t → is_at e t s ≡ true
unfolding is_at
at_law e t s p q =
    rw (eq-eqb (end_number e) (end_number s.end) (ap end_number (sym p)), eq-eqb (state_number t) (state_number s.state) (ap state_number (sym q)))

module _ (c r : Session) (a b : List ℕ) (h : Apart c r) where
  abbrev pub keysMade : SessionKeys
  keysMade = derive c.scbk a

  abbrev pub client : List ℕ
  client = client_of keysMade.s_enc a b

  abbrev pub server : List ℕ
  server = server_of keysMade.s_enc a b

  abbrev pub first : List ℕ
  first = first_of keysMade.s_mac1 keysMade.s_mac2 server

  -- the ends on the way
  abbrev pub c₁ : Session
  c₁ = with_step c Challenged a c.rnd_b c.cuid c.keys

  abbrev pub r₁ : Session
  r₁ = with_step r Challenged a b r.cuid keysMade

  abbrev pub c₂ : Session
  c₂ = with_step c Cryptogrammed a b r.cuid keysMade

  -- each call succeeds
  pub challenge-eq : challenge_of c a ≡ record { answer = given tt; session = c₁ }
  unfolding challenge_of
  challenge-eq = rw (at_law Controller Disconnected c h.controller h.controller_state)

  pub asked-eq : receive_challenge_of r a b ≡ record { answer = given client; session = r₁ }
  unfolding receive_challenge_of
  asked-eq = rw (at_law Reader Disconnected r h.reader h.reader_state, ← h.one_key)

  pub ccrypt-eq : receive_ccrypt_of c₁ r.cuid b client ≡ record { answer = given tt; session = c₂ }
  unfolding receive_ccrypt_of
  ccrypt-eq = rw (at_law Controller Challenged c₁ h.controller refl, eql_refl client)

  pub server-eq : server_cryptogram_of c₂ ≡ given server
  unfolding server_cryptogram_of
  server-eq = rw (at_law Controller Cryptogrammed c₂ h.controller refl)

  pub scrypt-eq : receive_scrypt_of r₁ server ≡ record { answer = given first; session = secured r₁ first }
  unfolding receive_scrypt_of
  scrypt-eq = rw (at_law Reader Challenged r₁ h.reader refl, eql_refl server)

  pub confirm-eq : confirm_of c₂ first ≡ record { answer = given tt; session = secured c₂ first }
  unfolding confirm_of
  confirm-eq = rw (at_law Controller Cryptogrammed c₂ h.controller refl, eql_refl first)

  module _ (ha : Random a) (hb : Random b) where
    pub keys-good : GoodKeys keysMade
    keys-good = derive_good c.scbk a h.key ha

    pub chain-block : Block first
    chain-block = first_block _ _ server keys-good.mac₁ keys-good.mac₂ (server-block _ a b keys-good.enc ha hb)

    secured-ready : (s t : Session) → s.keys ≡ keysMade → t.keys ≡ keysMade → Ready (secured s first) (secured t first)
    secured-ready s t p q = record {
      sender = secured-state s first;
      taker = secured-state t first;
      keys = secured-keys s first ∙ p ∙ sym q ∙ sym (secured-keys t first);
      start = send-secured s first ∙ sym (recv-secured t first);
      good = rw (secured-keys s first, p) keys-good;
      block = rw (send-secured s first) chain-block;
    }

    -- ready both ways
    pub ready : Ready (secured c₂ first) (secured r₁ first)
    ready = secured-ready c₂ r₁ refl refl

    pub ready-back : Ready (secured r₁ first) (secured c₂ first)
    ready-back = secured-ready r₁ c₂ refl refl
