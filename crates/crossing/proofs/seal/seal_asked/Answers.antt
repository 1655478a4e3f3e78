-- `seal_asked` meets its contract: 16, then the SQN, then its callee's.
use mathlib.Core.Path.{refl, ap, ◌∙◌}
use Rattle.std.proofs.Common.{length, not}
use Rattle.secure_seal.specs.Seal.{Asked, seal_of, total_of}
use Rattle.secure_seal.proofs.SealCases.{told-not-secure, told-refused}
use Rattle.crossing.specs.Sealing.{asked_arg}
use Rattle.crossing.proofs.Asked.{sqn-refused, asked_same}
use Rattle.crossing.proofs.seal.seal_asked.Goals as goal

pub returns-then-not-is_secure : goal.returns-then-not-is_secure
returns-then-not-is_secure c =
    let a = c.args in
    told-not-secure a.x (asked_arg a.p a.«data».now) a.out.now _ c.is_secure.ensures (ap not c.if-not-is_secure.true) c.seal_refused.ensures

pub returns-in-Err : goal.returns-in-Err
returns-in-Err c =
    let a = c.args in
    let q = asked_arg a.p a.«data».now in
    let n = sqn-refused a.p.sqn _ (total_of q) (length a.out.now) _ c.in-Err.ensures in
    told-refused a.x q a.out.now _ c.is_secure.ensures (ap not c.if-not-is_secure.false) n c.in-Err.e refl c.seal_refused-in-Err.ensures

pub returns : goal.returns
returns c =
    let a = c.args in
    c.seal.ensures
    ∙ ap (λ (q : Asked). seal_of a.x q a.out.now)
    (asked_same a.p a.«data».now _ c.from_raw.ensures c.in-Ok.ensures c.direction_of.ensures refl refl)
