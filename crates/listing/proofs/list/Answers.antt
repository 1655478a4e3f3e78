use Rattle.std.proofs.Common.{[], ◌∷◌, ◌++◌, drop, sym, arith}
use Rattle.packet_parse.specs.Frame.{fields}
use Rattle.listing.specs.Listed.{listed_frame}
use Rattle.listing.proofs.Passing.{passed_none, passed_more, passed_refused, passed_all, passed_bytes, frame_inside}
use Rattle.listing.proofs.list.Goals as goal

pub loop-at-init : goal.loop-at-init
loop-at-init c = ([], passed_none c.args.capture.now)

pub overflow_add-at : goal.overflow_add-at
overflow_add-at c =
    let i = frame_inside c.args.capture.now c.loop-at.at (fields c.in-Ok.p) (sym c.in-Ok.ensures) in
    omega (arith, i.most, c.loop-at.invariant.1.within)

pub loop-at-smaller : goal.loop-at-smaller
loop-at-smaller c =
    let i = frame_inside c.args.capture.now c.loop-at.at (fields c.in-Ok.p) (sym c.in-Ok.ensures) in
    omega (arith, i.least, i.most, c.loop-at.invariant.1.within)

pub loop-at-preserved : goal.loop-at-preserved
loop-at-preserved c =
    let p = c.loop-at.invariant in
    let s = c.args.capture.now in
    let F = fields c.in-Ok.p in
    (p.0 ++ (listed_frame (drop c.loop-at.at s) F ∷ []), passed_more s c.loop-at.at p.0 F c.loop-at-test.true (sym c.in-Ok.ensures) p.1)

pub returns-in_default : goal.returns-in_default
returns-in_default c =
    let p = c.loop-at.invariant in passed_bytes p.1 (passed_refused _ _ p.0 _ _ c.loop-at-test.true (sym c.in_default.ensures) p.1)

pub returns : goal.returns
returns c = let p = c.loop-at.invariant in passed_bytes p.1 (passed_all _ _ p.0 c.loop-at-test.false p.1)
