-- The positions of pairs while they are looked up one by one.
use Rattle.std.specs.Prelude.{ℕ, List, ◌++◌, Result, Ok, Err}
use Rattle.faults.specs.declared.faults.NamedFault.{NamedFault}

-- what was found before, and what is still found
abbrev pub with_front : List (ℕ × ℕ) → Result (List (ℕ × ℕ)) NamedFault → Result (List (ℕ × ℕ)) NamedFault
with_front front (Ok rest) = Ok (front ++ rest)
with_front front (Err fault) = Err fault
