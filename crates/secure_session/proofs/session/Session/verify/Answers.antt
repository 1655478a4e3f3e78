-- `verify` meets its contract: where the four bytes are those of the MAC, the chain moves by it; else 15.
use Rattle.secure_session.proofs.ChannelCases.{verify-done, verify-wrong}
use Rattle.secure_session.proofs.session.Session.verify.Goals as goal

pub returns : goal.returns
returns c =
    let a = c.args in
    verify-done a.self c.is_secure.ensures c.if-not-is_secure.false a.bytes.now a.wire_mac c.recv_from.ensures c.full_mac-m.ensures c.begins_with.ensures c.if-not-begins_with.false c.received.ensures

pub returns-then-not-begins_with : goal.returns-then-not-begins_with
returns-then-not-begins_with c =
    let a = c.args in
    verify-wrong a.self c.is_secure.ensures c.if-not-is_secure.false a.bytes.now a.wire_mac c.recv_from.ensures c.full_mac-m.ensures c.begins_with.ensures c.if-not-begins_with.true
