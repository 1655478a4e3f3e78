-- `aes::schedule::next` meets its contract: its halves are those of the next round key.
use borrow.Author.Rules.{rules}
use Prim.Native.Nat.{◌^◌, ◌<◌}
use Rattle.aes.proofs.KeyHalves.{next_made}
use Rattle.aes.proofs.schedule.next.Goals as goal

pub returns : goal.returns
returns c =
    let k = c.args.key in
    let fits : c.half-first.result < 2 ^ 64 = search rules in
    next_made c.args.t.now c.args.c k.first k.second _ _ _ fits c.turned.ensures c.half-first.ensures c.half-second.ensures
