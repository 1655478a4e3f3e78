-- `aes::block::cipher` meets its contract: the turns are those of the direction's law.
use mathlib.Core.Path.{◌≡◌, sym, ap, ap₂, ◌∙◌}
use mathlib.Core.List.{List}
use Prim.Native.Nat.{ℕ, ◌-◌}
use native.Mathlib.Nat.{le_antisymm}
use native.Mathlib.Omega.{arith}
use Rattle.aes.specs.Halves.{halves_bytes, schedule_of, added, round_key, turns, ten_rounds}
use Rattle.aes.proofs.Turns.{turns-none, turns-next}
use Rattle.aes.proofs.block.cipher.Goals as goal

pub loop-turn-init : goal.loop-turn-init
loop-turn-init g c = (omega arith, (omega arith, sym (turns-none _ _ _ _)))

pub loop-turn-preserved : goal.loop-turn-preserved
loop-turn-preserved g c =
    let d = g.D.Direction in
    let l = c.loop-turn in
    let w = schedule_of c.args.keys.now in (
      omega arith,
      (
        omega (arith, c.loop-turn-test.true),
        c.mix-s.ensures
            ∙ ap₂ d.mixed (c.substitute.ensures ∙ ap (d.substituted c.args.t.now) l.invariant.1.1)
            c.round_key-in-loop-turn.ensures
            ∙ sym (turns-next (d.substituted c.args.t.now) d.mixed (λ (turn : ℕ). round_key w (d.key_number turn)) _ l.turn l.invariant.0),
      ),
    )

pub returns : goal.returns
unfolding ten_rounds
returns g c =
    let d = g.D.Direction in
    let t = c.args.t.now in
    let w = schedule_of c.args.keys.now in
    let key : ℕ → List ℕ = λ turn. round_key w (d.key_number turn) in
    let l = c.loop-turn in
    let ten : l.turn ≡ 10 = le_antisymm l.invariant.1.0 c.loop-turn-test.false in
    let begin : halves_bytes c.bitxor-s.result ≡ added c.args.block (key 0) =
    c.bitxor-s.ensures ∙ ap₂ added c.from.ensures c.round_key.ensures in
    c.into.ensures
    ∙ c.bitxor.ensures
    ∙ ap₂ added
    (c.substitute-2.ensures ∙ ap (d.substituted t) (l.invariant.1.1 ∙ ap₂ (λ (n : ℕ) (s : List ℕ). turns (d.substituted t) d.mixed key (n - 1) s) ten begin))
    c.round_key-last.ensures
    ∙ g.met.D.Direction.is_whole t w c.args.block
