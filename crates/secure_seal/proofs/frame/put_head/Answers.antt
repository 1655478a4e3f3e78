-- `secure_seal::frame::put_head` meets its contract: the eight bytes are the body without data.
use mathlib.Core.Path.{ap, ◌∙◌}
use Rattle.laws.specs.Over.{write}
use Rattle.secure_seal.specs.Seal.{type_for}
use Rattle.slices.proofs.CopyLaws.{copied_all}
use Rattle.secure_seal.proofs.FrameWritten.{head_bytes_lem}
use native.Mathlib.Omega.{arith}
use Rattle.secure_seal.proofs.frame.put_head.Goals as goal

pub returns : goal.returns
returns c = let a = c.args in
    copied_all a.out.now 0 _ c.copy.ensures.out_after (omega arith)
    ∙ ap (write a.out.now 0)
    (head_bytes_lem _ a.w.addr.0 a.total _ a.w.sqn.0 _ (type_for a.w.direction a.w.encrypt) a.w.code _ c.as_byte.ensures c.bytes_of_u16-len.ensures c.value.ensures (c.as_byte-2.ensures ∙ c.scs_for.ensures))
