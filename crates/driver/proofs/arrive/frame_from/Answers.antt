use Rattle.std.proofs.Common.{rules, arith, sym}
use Rattle.std.proofs.lemmas.List.{length-take}
use Rattle.driver.proofs.Room.{filled_all, filled_ended, wanted_answered, wanted_refused, few_wanted}
use Rattle.driver.proofs.arrive.frame_from.Goals as goal

pub rest_from-requires-clause-room_value : goal.rest_from-requires-clause-room_value
rest_from-requires-clause-room_value g c =
    let all = filled_all _ _ _ c.in_ok-five.ensures c.in-All.is in
    let five = rw length-take at all in
    wanted_answered _ c.in-All.five _ (omega (arith, five)) (sym c.in-Ok.ensures)

pub returns-in-Err : goal.returns-in-Err
returns-in-Err g c =
    let all = filled_all _ _ _ c.in_ok-five.ensures c.in-All.is in
    let five = rw length-take at all in
    let w = wanted_refused _ c.in-All.five _ _ (omega (arith, five)) (sym c.in-Err.ensures) in
    (search rules, w.0, w.1)

pub returns-in-Ended : goal.returns-in-Ended
returns-in-Ended g c =
    let ended = filled_ended _ _ _ c.in_ok-five.ensures c.in-Ended.is in
    let few = rw length-take at ended in
    (search rules, few_wanted _ c.in-Ended.few (omega (arith, few)), c.parse.ensures)
