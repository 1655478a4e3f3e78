-- `carry` meets its contract: what `build` is given, what it put on the line, and the reading of that (proofs/Calls).
use Rattle.packet_head.specs.Block.{type_of}
use Rattle.channel.specs.Carried.{wire_of}
use Rattle.channel.proofs.Calls.{wire_given, carried-as}
use Rattle.slices.proofs.Stretches.{same_bytes}
use Rattle.channel.proofs.messages.carry.Goals as goal

pub returns : goal.returns
returns c =
    let a = c.args in
    carried-as (type_of a.w.ty) (wire_of a.w a.block.now a.out.now) a.message.now _ c.build-sent.result c.places_in-read.result c.payload_place.result _ _
    (wire_given a.w a.block.now a.out.now a.message.now c.new.result c.new.ensures)
    c.build-sent.ensures.result_value
    c.build-sent.ensures.out_after
    (same_bytes c.on_line.result c.on_line.ensures)
    c.places_in-read.ensures
    c.payload_place.ensures
