-- `SealedFrame::open_data` meets its contract: the session is Secure, so its call is the cipher's own.
use mathlib.Core.Path.{◌∙◌}
use native.Mathlib.Nat.{add-sub_cancel_left}
use Rattle.secure_session.proofs.SecureLaws.{secure-open-data}
use Rattle.secure_unseal.proofs.sealed.SealedFrame.open_data.Goals as goal

pub returns : goal.returns
returns c =
    let a = c.args in
    rw (← add-sub_cancel_left a.self.p.data_start a.self.p.data_len) (c.open_data.ensures ∙ secure-open-data a.secure.session a.secure.secure _ _)
