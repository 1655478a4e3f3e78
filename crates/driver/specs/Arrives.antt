-- What a driver answers, over the bytes that stand in its room afterwards (docs/RULES.md, 3.7 and 15). That these came off the line, and
-- that the line has ended where it says so, no contract can say: `read` promises neither.
-- Assumes nothing.
use Rattle.std.specs.Prelude.{ℕ, ◌≤◌, ◌<◌, ◌≡◌, List, length, take}
use Rattle.packet_head.specs.Numbers.{HEADER_LEN}
use Rattle.packet_parse.specs.Frame.{parse_of, parsed}
use Rattle.packet_parse.specs.Driver.{wanted_of}
use Rattle.std.specs.declared.result.Result.{Result}
use Rattle.std.specs.declared.result.Result.TheVariants.{Ok, Err}
use Rattle.driver.specs.declared.arrive.Arrival.{Arrival}
use Rattle.driver.specs.declared.arrive.There.{There}
use Rattle.driver.specs.declared.arrive.Trouble.{Trouble}

-- the first n bytes are there: as many as are wanted, fewer, or more are wanted than there is room for
abbrev pub Arrives : List ℕ → Result Arrival Trouble → Type 0
Arrives room (Ok (Arrival.Read answer n)) = (n ≤ length room) × (wanted_of (take n room) ≡ n) × (parsed answer ≡ parse_of (take n room))
Arrives room (Ok (Arrival.Cut answer n)) = (n ≤ length room) × (n < wanted_of (take n room)) × (parsed answer ≡ parse_of (take n room))
Arrives room (Err (Trouble.TooLong n)) = (wanted_of (take HEADER_LEN room) ≡ n) × (length room < n)
Arrives room (Err (Trouble.Io e)) = Unit {0}

-- how many are there of a part that has `want` bytes: all of them, or fewer
abbrev pub Fills : (want : ℕ) → There → Type 0
Fills want (There.All n) = n ≡ want
Fills want (There.Ended n) = n < want
