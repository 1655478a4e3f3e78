-- Each turn passes a frame, which lies within what is left.
use Rattle.std.proofs.Common.{◌-◌, List, length}
use Rattle.listing.specs.Listed.{ListedFrame}
use Rattle.listing.proofs.Passing.{PassedFrames}
use Rattle.listing.proofs.list.Given as goal

abbrev pub invariant-loop-at : goal.invariant-loop-at
invariant-loop-at l = (fs : List ListedFrame) × PassedFrames l.capture l.at fs

abbrev pub decreases-loop-at : goal.decreases-loop-at
decreases-loop-at l = length l.capture - l.at
