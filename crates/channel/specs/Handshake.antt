-- The handshake of two ends (docs/RULES.md, 7.4), each message in a frame that is delivered as it was sent.
-- Assumes nothing.
use Rattle.std.specs.Prelude.{ℕ, List, ◌++◌, ◌≡◌, take, drop}
use Rattle.laws.specs.Answer.{Answer, Answer.given, Answer.refused}
use Rattle.secure_session.specs.Handshake.{challenge_of, receive_ccrypt_of, server_cryptogram_of, confirm_of, receive_challenge_of, receive_scrypt_of, block_beside}
use Rattle.secure_session.specs.declared.session.State.TheVariants.{Secure}
use Rattle.secure_session.specs.declared.session.Session.{Session}
use Rattle.channel.specs.Carried.{Wire, WireFits, carried}

-- what each call answers, and the ends after it
pub record Hand : Type 0 where
  pub challenged : Answer (Unit {0})
  pub client : Answer (List ℕ)
  pub accepted : Answer (Unit {0})
  pub server : Answer (List ℕ)
  pub first : Answer (List ℕ)
  pub confirmed : Answer (Unit {0})
  pub controller : Session
  pub reader : Session

-- how the four messages are framed
pub record Wires : Type 0 where
  pub chlng : Wire
  pub ccrypt : Wire
  pub scrypt : Wire
  pub rmac : Wire

-- 11: RND.A; 12: cUID, RND.B and the client cryptogram back; 13: the server cryptogram; 14: the first chain value back
unfoldable pub shake_in : Wires → Session → Session → List ℕ → List ℕ → Hand
shake_in w c r a b =
    let c₁ = challenge_of c a in
    let r₁ = receive_challenge_of r (carried 0x11 w.chlng a) b in
    let p = carried 0x12 w.ccrypt (r₁.session.cuid ++ (b ++ block_beside r₁.answer)) in
    let c₂ = receive_ccrypt_of c₁.session (take 8 p) (take 8 (drop 8 p)) (drop 8 (drop 8 p)) in
    let m = server_cryptogram_of c₂.session in
    let r₂ = receive_scrypt_of r₁.session (carried 0x13 w.scrypt (block_beside m)) in
    let c₃ = confirm_of c₂.session (carried 0x14 w.rmac (block_beside r₂.answer)) in
    record {
      challenged = c₁.answer;
      client = r₁.answer;
      accepted = c₂.answer;
      server = m;
      first = r₂.answer;
      confirmed = c₃.answer;
      controller = c₃.session;
      reader = r₂.session;
    }

-- ---- what is asked of it

-- the four frames are within limits and buffers
pub record WiresFit (w : Wires) : Type 0 where
  pub chlng : WireFits w.chlng 8
  pub ccrypt : WireFits w.ccrypt 32
  pub scrypt : WireFits w.scrypt 16
  pub rmac : WireFits w.rmac 16

-- ---- it succeeded: none of the six calls was refused, and both ends are Secure

abbrev pub Given : {A : Type 0} → Answer A → Type 0
Given (given a) = Unit {0}
Given (refused n vs) = ⊥

pub record Succeeded (h : Hand) : Type 0 where
  pub challenged : Given h.challenged
  pub client : Given h.client
  pub accepted : Given h.accepted
  pub server : Given h.server
  pub first : Given h.first
  pub confirmed : Given h.confirmed
  pub controller : h.controller.state ≡ Secure
  pub reader : h.reader.state ≡ Secure
