-- What a buffer has of a reader that is read until the buffer is full or nothing is left.
-- Assumes nothing.
use Rattle.std.specs.Prelude.{ℕ, ◌<◌, List, length, take, MatchResult}
use Rattle.std.specs.declared.option.Option.{Option}
use Rattle.std.specs.declared.result.Result.{Result}
use Rattle.std.specs.Io.KnownBytes.{Consumes, IsAtEnd}

-- Of a reader whose bytes are known: the first n of them stand at the start of buf, and fewer than it has room for only where none is
-- left. Beside a failure, what had come by then stands there, fewer than it has room for, and the reader has the rest.
abbrev pub FilledFrom : {E : Type 0} → (had left : Option (List ℕ)) → Result ℕ E → (buf : List ℕ) → Type 0
FilledFrom had left r buf =
    MatchResult r (λ n. Consumes had left (take n buf) × (n < length buf → IsAtEnd left)) (λ e. (n : ℕ) × (n < length buf) × Consumes had left (take n buf))
