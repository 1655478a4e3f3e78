-- `mac` meets its contract: the full MAC from the chain value on, and the chain moved by it.
use Rattle.secure_session.proofs.ChannelCases.{mac-done}
use Rattle.secure_session.proofs.session.Session.mac.Goals as goal

pub returns : goal.returns
returns c =
    let a = c.args in mac-done a.self c.is_secure.ensures c.if-not-is_secure.false a.bytes.now c.send_from.ensures c.full_mac.ensures c.sent.ensures
