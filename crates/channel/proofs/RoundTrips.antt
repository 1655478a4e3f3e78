-- Sealed, then unsealed: between ends that are ready, a frame within limits and buffers opens as it was sent, and the ends are ready again.
-- Assumes nothing.
use mathlib.Core.Path.{ap}
use Rattle.secure_session.specs.declared.session.Session.{Session}
use Rattle.secure_session.proofs.Shaken.{Ready}
use Rattle.channel.specs.Talk.{Send, Moved}
use Rattle.channel.specs.Demand.{SendFits, RoundTrip}
use Rattle.channel.proofs.TalkLaws.{transfer-eq, transfer-same, transfer-other}

pub sealed_then_unsealed : (from to : Session) (s : Send) → Ready from to → SendFits s → RoundTrip from to s
sealed_then_unsealed from to s r g =
    let e = transfer-eq from to s r g in
    record {
      opened = ap (λ (m : Moved). m.event.opened) e;
      sender = ap (λ (m : Moved). m.from) e;
      peer = ap (λ (m : Moved). m.to) e;
      again = (transfer-same from to s r g).start;
      reply = (transfer-other from to s r g).start;
    }
