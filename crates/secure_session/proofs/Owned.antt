-- What owning a session tells: whatever code holds one, its keys and what its chain keeps are blocks.
-- Assumes nothing.
use mir.Syntax.{w8}
use mir.Val.{Val}
use mathlib.Core.List.{List, [], ◌∷◌}
use Prim.Native.Nat.{ℕ}
use denote.Array.{Array}
use denote.Builtin.{u8}
use denote.Struct.Declared.{row}
use denote.Struct.Laws.{val}
use denote.Laws.{Is}
use borrow.Author.Rules.{elem_Fits}
use Rattle.laws.specs.Blocks.{Block}
use Rattle.secure_session.specs.declared.session.Session.{Session}
use Rattle.secure_session.specs.declared.secure.SecureSession.{SecureSession}
use Rattle.secure_session.proofs.SessionLaws.{ChainBlocks}
use Rattle.secure_session.specs.contracts.session.Session.{the_type}
use Rattle.secure_session.specs.contracts.secure.SecureSession.{the_type as the_secure_type}
use Rattle.secure_session.proofs.session.Session.TheLaws.{the_laws}
use Rattle.secure_session.proofs.secure.SecureSession.TheLaws.{the_laws as the_secure_laws}

-- what a function that is handed the session has of it
abbrev pub Owned : Session → Type 0
Owned s = Is (row the_type) s (val the_type the_laws s ∷ [])

-- and of one that is Secure
abbrev pub OwnedSecure : SecureSession → Type 0
OwnedSecure t = Is (row the_secure_type) t (val the_secure_type the_secure_laws t ∷ [])

-- an array of sixteen bytes that is owned is a block
pub array_block : {xs : List ℕ} {vs : List Val} → Is (Array u8 16) xs vs → Block xs
array_block {xs} p = record { size = p.1.0.1; bytes = λ i. (elem_Fits w8 w8 xs p.0 i p.1.1 tt).fits }

module _ (s : Session) (h : Owned s) where
  pub enc-block : Block s.keys.s_enc
  enc-block = array_block h.1.1.1.1.1.1.1.1.0.1.1.0

  pub chain-kept : ChainBlocks s.chain
  chain-kept = array_block h.1.1.1.1.1.1.1.1.1.0.1.1.0

module _ (t : SecureSession) (h : OwnedSecure t) where
  pub secure-enc-block : Block t.session.keys.s_enc
  secure-enc-block = array_block h.1.1.0.1.1.1.1.1.1.1.1.0.1.1.0

  pub secure-chain-kept : ChainBlocks t.session.chain
  secure-chain-kept = array_block h.1.1.0.1.1.1.1.1.1.1.1.1.0.1.1.0
