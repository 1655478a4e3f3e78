-- Each turn passes a frame, which lies within what is left, and counts its reply.
use Rattle.std.proofs.Common.{◌-◌, length}
use Rattle.reply_listing.proofs.TallyLaws.{CountedFrames}
use Rattle.reply_listing.proofs.walk.list.Given as goal

abbrev pub invariant-loop-t : goal.invariant-loop-t
invariant-loop-t l = CountedFrames l.capture l.t

abbrev pub decreases-loop-t : goal.decreases-loop-t
decreases-loop-t l = length l.capture - l.t.bytes
