-- The first five bytes stay, so what they want still is wanted; what has come is parsed.
use Rattle.std.proofs.Common.{rules, arith}
use Rattle.driver.proofs.Room.{filled_all, filled_ended, all_came, fewer_came}
use Rattle.driver.proofs.arrive.rest_from.Goals as goal

pub returns-in-All : goal.returns-in-All
returns-in-All g c =
    let all = filled_all _ _ _ c.in_ok-rest.ensures c.in-All.is in
    (search rules, all_came _ c.args.room.now _ _ (search rules) c.requires.room_value (omega arith) (omega (arith, all)), c.parse-answer.ensures)

pub returns-in-Ended : goal.returns-in-Ended
returns-in-Ended g c =
    let few = filled_ended _ _ _ c.in_ok-rest.ensures c.in-Ended.is in
    (search rules, fewer_came _ c.args.room.now _ _ (search rules) c.requires.room_value (omega arith) (omega (arith, few)), c.parse-answer-in-Ended.ensures)
