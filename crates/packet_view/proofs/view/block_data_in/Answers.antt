-- What the method shows of the view that `parse` gives is the part of the frame; by congruence, so that a weaker promise would be kept as well.
use Rattle.packet_view.proofs.ShownLaws.{block-data-shown}
use Rattle.packet_view.proofs.view.block_data_in.Goals as goal

pub returns : goal.returns
returns c = let p = c.block_data.ensures in let q = block-data-shown _ _ c.parse.ensures in cc
