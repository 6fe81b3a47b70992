-- What a loop over the items of a list has read, and what is left.
use Rattle.std.specs.Prelude.{List, ◌++◌, Result, Ok}
use Rattle.line_fields.specs.Values.{◌>>=◌}

-- the items so far, and what is still read behind them
abbrev pub with_front : {A E : Type 0} → List A → Result (List A) E → Result (List A) E
with_front front rest = rest >>= λ xs. Ok (front ++ xs)
