use Rattle.std.proofs.Common.{◌≡◌, ℕ, ◌+◌, List, [], drop, sym, ap, ◌∙◌, subst, arith}
use Rattle.slices.proofs.Stretches.{same_bytes}
use Rattle.packet_parse.specs.Frame.{fields}
use Rattle.listing.specs.Listed.{listed_frame}
use Rattle.listing.proofs.Passing.{frame_inside}
use Rattle.reply_listing.specs.declared.counting.Tally.{Tally}
use Rattle.reply_listing.specs.InClear.{reply_in}
use Rattle.reply_listing.specs.Tallied.{tally_more}
use Rattle.reply_listing.proofs.TallyLaws.{CountedFrames, counted_none, counted-room, counted-more, counted-refused, counted-all, payload_part}
use Rattle.reply_listing.proofs.walk.list.Goals as goal

pub loop-t-init : goal.loop-t-init
loop-t-init c =
    let e = c.default-t.ensures in
    subst (CountedFrames c.args.capture.now)
    (λ i. record { bytes = sym e.0 i; replies = sym e.1.0 i; refused = sym e.1.1.0 i; sealed = sym e.1.1.1 i })
    (counted_none c.args.capture.now)

pub overflow_add-at : goal.overflow_add-at
overflow_add-at c =
    let i = frame_inside c.args.capture.now c.loop-t.t.bytes (fields c.in-Ok.p) (sym c.in-Ok.ensures) in
    omega (arith, i.most, i.«data», c.loop-t.invariant.passed.within)

pub count-requires : goal.count-requires
count-requires c =
    counted-room c.args.capture.now c.loop-t.t (fields c.in-Ok.p) c.loop-t-test.true (sym c.in-Ok.ensures) c.loop-t.invariant (omega (arith, c.well_formed))

pub loop-t-smaller : goal.loop-t-smaller
loop-t-smaller c =
    let i = frame_inside c.args.capture.now c.loop-t.t.bytes (fields c.in-Ok.p) (sym c.in-Ok.ensures) in
    let e : c.count.new.self.bytes ≡ c.loop-t.t.bytes + c.in-Ok.p.len = ap (λ (t : Tally). t.bytes) (c.count.ensures []) in
    omega (arith, e, i.least, i.most, c.loop-t-test.true)

-- the counts after a turn are those of one frame more
pub loop-t-preserved : goal.loop-t-preserved
loop-t-preserved c =
    let s = c.args.capture.now in
    let t = c.loop-t.t in
    let F = fields c.in-Ok.p in
    let shown = c.part-payload in
    let b : shown.result.now ≡ (listed_frame (drop t.bytes s) F).payload
    = same_bytes shown.result shown.ensures ∙ payload_part s t.bytes F (omega arith) (sym c.in-Ok.ensures) in
    counted-more s t F c.loop-t-test.true (sym c.in-Ok.ensures) c.loop-t.invariant c.count.new.self
    (c.count.ensures shown.result.now
    ∙ ap (tally_more t F.len) c.reply_in-reply.ensures
    ∙ ap (λ (d : List ℕ). tally_more t F.len (reply_in (record { fields = F; payload = d }))) b)

pub returns-in_default : goal.returns-in_default
returns-in_default c =
    counted-refused _ c.loop-t.t _ _ c.loop-t-test.true (sym c.in_default.ensures) c.loop-t.invariant

pub returns : goal.returns
returns c = counted-all _ c.loop-t.t c.loop-t-test.false c.loop-t.invariant
