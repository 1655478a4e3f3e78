-- What a driver has in its room: what is wanted of five bytes still is wanted when more come behind them, and what is answered is the
-- parse of the room's bytes, whatever follows them.
-- Assumes nothing.
use mathlib.Core.Path.{◌≡◌, sym, ap, ◌∙◌, subst}
use mathlib.Core.List.{List, [], ◌∷◌, ◌++◌}
use Prim.Native.Nat.{ℕ, ◌+◌, ◌-◌, ◌≤◌, ◌<◌}
use native.Mathlib.Omega.{arith}
use lib.ListN.{length, take}
use lib.Seq.{take-take, length-take-le}
use Rattle.std.specs.Prelude.{Result}
use Rattle.std.specs.declared.result.Result.TheVariants.{Ok}
use Rattle.laws.specs.Answer.{Answer.given, Answer.refused}
use Rattle.refusal.specs.declared.Refusal.{Refusal}
use Rattle.packet_parse.specs.Frame.{Head, head_of, parse_of, fields, parsed}
use Rattle.packet_parse.specs.Driver.{wanted_of}
use Rattle.packet_parse.specs.declared.codec.ParsedPacket.{ParsedPacket}
use Rattle.packet_parse.proofs.Arriving.{parse_of_refused, parse_waits, parse_decided, accepted_wanted, wanted_as, wanted_of_five, wanted_of_few, five_wanted}
use Rattle.driver.specs.Arrives.{Arrives, Fills}
use Rattle.driver.specs.declared.arrive.Arrival.{Arrival}
use Rattle.driver.specs.declared.arrive.There.{There}

-- ---- filling a part

pub filled_all : (want : ℕ) (t : There) (n : ℕ) → Fills want t → t ≡ There.All n → n ≡ want
filled_all want t n f e = let k : Fills want (There.All n) = subst (Fills want) e f in k

pub filled_ended : (want : ℕ) (t : There) (n : ℕ) → Fills want t → t ≡ There.Ended n → n < want
filled_ended want t n f e = let k : Fills want (There.Ended n) = subst (Fills want) e f in k

-- ---- what is wanted

-- what was wanted of the first five bytes still is, when more have come behind them
still_wanted : (room old : List ℕ) (n : ℕ) → take 5 room ≡ take 5 old → 5 ≤ n → wanted_of (take n room) ≡ wanted_of (take 5 old)
still_wanted room old n same h = sym (wanted_of_five (take n room)) ∙ ap wanted_of (take-take 5 n room h ∙ same)

pub all_came : (room old : List ℕ) (n w : ℕ) → take 5 room ≡ take 5 old → wanted_of (take 5 old) ≡ w → 5 ≤ w → n ≡ w → wanted_of (take n room) ≡ n
all_came room old n w same e h l = still_wanted room old n same (omega arith) ∙ e ∙ sym l

pub fewer_came : (room old : List ℕ) (n w : ℕ) → take 5 room ≡ take 5 old → wanted_of (take 5 old) ≡ w → 5 ≤ n → n < w → n < wanted_of (take n room)
fewer_came room old n w same e h l = let k = still_wanted room old n same h in omega arith

-- where `head` answers of five bytes, what it says is wanted
pub wanted_answered : (room : List ℕ) (n : ℕ) (h : Head) → n ≡ 5 → head_of (take n room) ≡ given h → wanted_of (take 5 room) ≡ 5 + (h.len - 5)
wanted_answered room n h all e = ap (λ (k : ℕ). wanted_of (take k room)) (sym all) ∙ wanted_as (take n room) (given h) e

-- where it refuses them, they are all that is wanted, and the parse refuses them
pub wanted_refused : (room : List ℕ) (n k : ℕ) (vs : List ℕ) → n ≡ 5 → head_of (take n room) ≡ refused k vs
    → (wanted_of (take n room) ≡ n) × (refused k vs ≡ parse_of (take n room))
wanted_refused room n k vs all e =
    let w = wanted_as (take n room) (refused k vs) e in
    (omega arith, sym (parse_of_refused (take n room) k vs e))

-- fewer than five are fewer than are wanted
pub few_wanted : (room : List ℕ) (n : ℕ) → n < 5 → n < wanted_of (take n room)
few_wanted room n h = let w = five_wanted (take n room) in omega arith

pub no_wanted : (room : List ℕ) → length room < 5 → wanted_of (take 5 room) ≡ 5
no_wanted room h = wanted_of_five room ∙ wanted_of_few room h

-- ---- what is answered

-- what was read lies within the room
pub read_within : (room : List ℕ) (r : Arrival) (p : Result ParsedPacket Refusal) (n : ℕ) → Arrives room (Ok r) → r ≡ Arrival.Read p n → (5 ≤ n) × (n ≤ length room)
read_within room r p n h e =
    let a : Arrives room (Ok (Arrival.Read p n)) = subst (λ x. Arrives room (Ok x)) e h in
    let w = five_wanted (take n room) in
    (omega (arith, a.1), a.0)

-- It is the parse of what was read, whatever follows,
pub read_as_line : (room u : List ℕ) (p : Result ParsedPacket Refusal) (n : ℕ) → Arrives room (Ok (Arrival.Read p n)) → parsed p ≡ parse_of (take n room ++ u)
read_as_line room u p n a =
    let size : length (take n room) ≡ n = length-take-le n room a.0 in
    a.2 ∙ sym (parse_decided (take n room) u (omega (arith, a.1)))

-- and where it accepts, just the frame was read;
pub read_whole_frame : (room : List ℕ) (p : ParsedPacket) (n : ℕ) → Arrives room (Ok (Arrival.Read (Ok p) n)) → n ≡ p.len
read_whole_frame room p n a = sym a.1 ∙ accepted_wanted (take n room) (fields p) (sym a.2)

-- of a line that ended before, it is refusal 1, with how many bytes came and how many are wanted.
pub cut-refused : (room : List ℕ) (p : Result ParsedPacket Refusal) (n : ℕ) → Arrives room (Ok (Arrival.Cut p n)) → parsed p ≡ refused 1 (n ∷ wanted_of (take n room) ∷ [])
cut-refused room p n a =
    let size : length (take n room) ≡ n = length-take-le n room a.0 in
    a.2 ∙ parse_waits (take n room) (omega (arith, a.1)) ∙ ap (λ (k : ℕ). refused 1 (k ∷ wanted_of (take n room) ∷ [])) size
