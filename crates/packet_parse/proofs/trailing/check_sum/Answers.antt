-- `check_sum` meets its contract: what it got and what it wants are the definition's.
use Rattle.std.proofs.Common.{refl, arith, eq-eqb, ne_eqb}
use Rattle.laws.specs.Answer.{refuse_if}
use Rattle.packet_parse.specs.Trailer.{trailer_of}
use Rattle.packet_parse.proofs.WholeSum.{whole_sum}
use Rattle.packet_parse.proofs.trailing.check_sum.Goals as goal

pub returns-then-got-want : goal.returns-then-got-want
unfolding trailer_of refuse_if
returns-then-got-want c = rw (← whole_sum _ (omega arith) refl c.checksum8.ensures, eq-eqb _ _ c.if-got-want.true)

pub returns-else-got-want : goal.returns-else-got-want
unfolding trailer_of refuse_if
returns-else-got-want c = rw (← whole_sum _ (omega arith) refl c.checksum8.ensures, ne_eqb _ _ c.if-got-want.false)
