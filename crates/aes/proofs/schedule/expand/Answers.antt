-- `aes::schedule::expand` meets its contract: the loop's invariant at its last turn is the key schedule.
use mathlib.Core.Path.{refl, ap, sym, ◌∙◌}
use Prim.Native.Nat.{ℕ}
use native.Mathlib.Nat.{le_antisymm}
use native.Mathlib.Omega.{arith}
use lib.ListN.{get_or}
use Rattle.aes_field.specs.Field.{xtime}
use Rattle.aes.specs.KeyExpansion.{power}
use Rattle.aes.specs.RoundKey.{next_key}
use Rattle.aes.specs.Halves.{halves_bytes}
use Rattle.aes.proofs.Expansion.{power_next, expanded-none, expanded-more, expanded-all}
use Rattle.aes.proofs.schedule.expand.Goals as goal

pub loop-r-init : goal.loop-r-init
unfolding power
loop-r-init c = (omega arith, (refl, expanded-none c.args.t.now c.args.key c.from-keys.result c.from-keys.ensures))

pub loop-r-preserved : goal.loop-r-preserved
loop-r-preserved c =
    let l = c.loop-r in
    let t = c.args.t.now in (
      omega arith,
      (
        c.twice-c.ensures ∙ ap xtime l.invariant.1.0 ∙ sym (power_next l.r),
        expanded-more t c.args.key l.keys _ c.next.result l.r c.loop-r-test.true
            (c.next.ensures ∙ ap (λ (p : ℕ). next_key t p (halves_bytes (get_or l.keys l.r _))) l.invariant.1.0) l.invariant.1.1,
      ),
    )

pub returns : goal.returns
returns c =
    let l = c.loop-r in
    expanded-all c.args.t.now c.args.key l.keys l.r (le_antisymm l.invariant.0 c.loop-r-test.false) l.invariant.1.1
