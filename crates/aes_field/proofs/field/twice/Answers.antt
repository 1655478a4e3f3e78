-- `aes_field::field::twice` meets its contract: the shifts are the rule's own product and quotient.
use mathlib.Core.Path.{refl}
use Rattle.aes_field.specs.Field.{◌⊕◌, xtime}
use Rattle.aes_field.proofs.field.twice.Goals as goal

pub returns : goal.returns
unfolding xtime ◌⊕◌
returns c = refl
