-- The laws of the chain's names: what else is said of a session rests on these, and not on where the chain value is kept.
-- Assumes nothing.
use mathlib.Core.List.{List}
use mathlib.Core.Path.{◌≡◌, refl}
use Prim.Native.Nat.{ℕ}
use Rattle.laws.specs.Blocks.{Block}
use Rattle.laws.specs.Bytes.{zeros}
use Rattle.secure_session.specs.Chain.{no_chain, first_chain, chain_in, chain_out, send_from, recv_from, sent, received}
use Rattle.secure_session.specs.Session.{secured}
use Rattle.secure_session.specs.declared.chain.Chain.{Chain}
use Rattle.secure_session.specs.declared.session.Session.{Session}
use Rattle.secure_session.specs.declared.session.State.TheVariants.{Secure}

-- each value that a chain keeps is a block
abbrev pub ChainBlocks : Chain → Type 0
ChainBlocks c = Block c.value

-- what the chain keeps is what a MAC starts from
pub send_block : (s : Session) → ChainBlocks s.chain → Block (send_from s)
unfolding send_from
send_block s h = h

pub recv_block : (s : Session) → ChainBlocks s.chain → Block (recv_from s)
unfolding recv_from
recv_block s h = h

-- nothing is lost on the way to C and back, nor on the way back; a session with no chain goes out with zeros
pub chain_out_in : (c : Chain) → chain_in (chain_out c) ≡ c
unfolding chain_in chain_out
chain_out_in c = refl

pub chain_in_out : (b : List ℕ) → chain_out (chain_in b) ≡ b
unfolding chain_in chain_out
chain_in_out b = refl

pub no_chain_out : chain_out no_chain ≡ zeros 16
unfolding chain_out
no_chain_out = refl

module _ (s : Session) (m : List ℕ) where
  -- after a MAC was made
  pub send-sent : send_from (sent s m) ≡ m
  unfolding send_from sent
  send-sent = refl

  pub recv-sent : recv_from (sent s m) ≡ m
  unfolding recv_from sent
  recv-sent = refl

  pub sent-state : (sent s m).state ≡ s.state
  unfolding sent
  sent-state = refl

  pub sent-keys : (sent s m).keys ≡ s.keys
  unfolding sent
  sent-keys = refl

  -- after a MAC was found right
  pub send-received : send_from (received s m) ≡ m
  unfolding send_from received
  send-received = refl

  pub recv-received : recv_from (received s m) ≡ m
  unfolding recv_from received
  recv-received = refl

  pub received-state : (received s m).state ≡ s.state
  unfolding received
  received-state = refl

  pub received-keys : (received s m).keys ≡ s.keys
  unfolding received
  received-keys = refl

  -- with the first chain value
  pub send-secured : send_from (secured s m) ≡ m
  unfolding send_from secured first_chain
  send-secured = refl

  pub recv-secured : recv_from (secured s m) ≡ m
  unfolding recv_from secured first_chain
  recv-secured = refl

  pub secured-state : (secured s m).state ≡ Secure
  unfolding secured
  secured-state = refl

  pub secured-keys : (secured s m).keys ≡ s.keys
  unfolding secured
  secured-keys = refl
