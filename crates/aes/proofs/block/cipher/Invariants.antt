-- Before a turn, the halves are the state after the turns before it.
use Prim.Native.Nat.{ℕ, ◌-◌, ◌≤◌}
use mathlib.Core.Path.{◌≡◌}
use Rattle.aes.specs.Halves.{halves_bytes, schedule_of, round_key, turns}
use Rattle.aes.proofs.block.cipher.Given as goal

abbrev pub invariant-loop-turn : goal.invariant-loop-turn
invariant-loop-turn g l =
    let d = g.D.Direction in
    (1 ≤ l.turn) × ((l.turn ≤ 10)
    × (halves_bytes l.s ≡ turns (d.substituted l.t) d.mixed (λ (turn : ℕ). round_key (schedule_of l.keys) (d.key_number turn)) (l.turn - 1) (halves_bytes l.initial.s)))
