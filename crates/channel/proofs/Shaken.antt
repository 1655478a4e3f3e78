-- The framed handshake succeeds, and leaves the ends ready, both ways: each message arrives, and of the calls the session's laws speak.
-- Assumes nothing.
use mathlib.Core.List.{List, ◌++◌}
use mathlib.Core.Path.{◌≡◌, refl, sym, subst}
use Prim.Native.Nat.{ℕ}
use native.Mathlib.Omega.{arith}
use lib.ListN.{length, take, drop, length-append}
use lib.Seq.{take_at, drop_at}
use Rattle.laws.specs.Answer.{Answer.given, refuse_if}
use Rattle.laws.specs.Blocks.{Block}
use Rattle.packet_head.specs.Block.{scs_of}
use Rattle.secure_keys.specs.Keys.{Random}
use Rattle.secure_keys.proofs.KeysLaws.{client-block, server-block}
use Rattle.secure_session.specs.Apart.{Apart}
use Rattle.secure_session.specs.Session.{secured}
use Rattle.secure_session.specs.declared.session.Session.{Session}
use Rattle.secure_session.proofs.Shaken as session
use Rattle.secure_session.proofs.Shaken.{Ready}
use Rattle.channel.specs.Carried.{carried}
use Rattle.channel.specs.Handshake.{Hand, Wires, WiresFit, shake_in, Given, Succeeded}
use Rattle.channel.proofs.CarriedLaws.{carried-eq}

module _ (w : Wires) (c r : Session) (a b : List ℕ) (hw : WiresFit w) (h : Apart c r) (ha : Random a) (hb : Random b) where
  -- the values on their way
  abbrev client : List ℕ
  client = session.client c r a b h

  abbrev server : List ℕ
  server = session.server c r a b h

  abbrev first : List ℕ
  first = session.first c r a b h

  client-size : Block client
  client-size = client-block _ a b (session.keys-good c r a b h ha hb).enc ha hb

  server-size : Block server
  server-size = server-block _ a b (session.keys-good c r a b h ha hb).enc ha hb

  first-size : Block first
  first-size = session.chain-block c r a b h ha hb

  abbrev reply : List ℕ
  reply = r.cuid ++ (b ++ client)

  reply-size : length reply ≡ 32
  reply-size = omega (arith, length-append r.cuid (b ++ client), length-append b client, h.cuid, hb.size, client-size.size)

  -- the four messages arrive
  carried₁ : carried 0x11 w.chlng a ≡ a
  unfolding scs_of refuse_if
  carried₁ = carried-eq 0x11 w.chlng a refl refl (omega (arith, ha.size)) (rw ha.size hw.chlng)

  carried₂ : carried 0x12 w.ccrypt reply ≡ reply
  unfolding scs_of refuse_if
  carried₂ = carried-eq 0x12 w.ccrypt reply refl refl (omega (arith, reply-size)) (rw reply-size hw.ccrypt)

  carried₃ : carried 0x13 w.scrypt server ≡ server
  unfolding scs_of refuse_if
  carried₃ = carried-eq 0x13 w.scrypt server refl refl (omega (arith, server-size.size)) (rw server-size.size hw.scrypt)

  carried₄ : carried 0x14 w.rmac first ≡ first
  unfolding scs_of refuse_if
  carried₄ = carried-eq 0x14 w.rmac first refl refl (omega (arith, first-size.size)) (rw first-size.size hw.rmac)

  -- cUID, RND.B and the client cryptogram are found in the reply
  cut₁ : take 8 reply ≡ r.cuid
  cut₁ = take_at r.cuid (b ++ client) 8 h.cuid

  cut₂ : drop 8 reply ≡ b ++ client
  cut₂ = drop_at r.cuid (b ++ client) 8 h.cuid

  pub shaken-eq : shake_in w c r a b
      ≡ record {
        challenged = given tt;
        client = given client;
        accepted = given tt;
        server = given server;
        first = given first;
        confirmed = given tt;
        controller = secured (session.c₂ c r a b h) first;
        reader = secured (session.r₁ c r a b h) first;
      }
  unfolding shake_in
  shaken-eq =
      rw (
        session.challenge-eq c r a b h,
        carried₁,
        session.asked-eq c r a b h,
        carried₂,
        cut₁,
        cut₂,
        take_at b client 8 hb.size,
        drop_at b client 8 hb.size,
        session.ccrypt-eq c r a b h,
        session.server-eq c r a b h,
        carried₃,
        session.scrypt-eq c r a b h,
        carried₄,
        session.confirm-eq c r a b h,
      )

  -- ready both ways
  pub shaken : Ready (shake_in w c r a b).controller (shake_in w c r a b).reader
  shaken = rw shaken-eq (session.ready c r a b h ha hb)

  pub shaken-back : Ready (shake_in w c r a b).reader (shake_in w c r a b).controller
  shaken-back = rw shaken-eq (session.ready-back c r a b h ha hb)

  pub succeeded : Succeeded (shake_in w c r a b)
  succeeded =
      let e = sym shaken-eq in
      record {
        challenged = subst (λ (x : Hand). Given x.challenged) e tt;
        client = subst (λ (x : Hand). Given x.client) e tt;
        accepted = subst (λ (x : Hand). Given x.accepted) e tt;
        server = subst (λ (x : Hand). Given x.server) e tt;
        first = subst (λ (x : Hand). Given x.first) e tt;
        confirmed = subst (λ (x : Hand). Given x.confirmed) e tt;
        controller = shaken.sender;
        reader = shaken.taker;
      }
