-- `secure_seal::frame::put_data` meets its contract: the cipher is called on a part that has the room, or the payload is copied.
use mathlib.Core.Path.{◌∙◌}
use native.Mathlib.Omega.{arith}
use Rattle.slices.proofs.CopyLaws.{copied_all}
use Rattle.laws.proofs.Overwrite.{write_whole}
use Rattle.secure_session.proofs.SecureLaws.{secure-seal-data}
use Rattle.secure_session.proofs.SessionLaws.{send_block}
use Rattle.secure_session.proofs.Owned.{secure-enc-block, secure-chain-kept}
use Rattle.secure_seal.proofs.DataWritten.{hidden_written, plain_fits, plain-written}
use Rattle.secure_seal.proofs.frame.put_data.Goals as goal

pub returns-then-encrypt : goal.returns-then-encrypt
returns-then-encrypt c = let a = c.args in
    hidden_written a.encrypt a.secure.session a.«data».now a.out.now _ c.seal_data.result
    c.if-encrypt.true (secure-enc-block a.secure c.well_formed.0) (send_block a.secure.session (secure-chain-kept a.secure c.well_formed.0))
    (λ i. (c.type_inv.«data» i).fits) c.requires (c.seal_data.ensures ∙ secure-seal-data a.secure.session a.secure.secure a.«data».now a.out.now)

pub returns-else-encrypt : goal.returns-else-encrypt
returns-else-encrypt c = let a = c.args in
    let plain = c.if-encrypt.false in
    let n = plain_fits a.encrypt a.«data».now a.out.now plain c.requires in
    plain-written a.encrypt _ _ a.«data».now _ plain
    (copied_all a.out.now 0 a.«data».now c.copy.ensures.out_after (omega arith) ∙ write_whole a.out.now a.«data».now n)
