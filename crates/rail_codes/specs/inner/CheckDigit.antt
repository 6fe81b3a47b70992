-- How the check digit of a wagon number is computed.
use Rattle.std.specs.Prelude.{ℕ, ◌-◌, ◌%◌}

-- what a sum lacks to the next multiple of ten; none where it is one
abbrev pub missing_to_ten : ℕ → ℕ
missing_to_ten sum = (10 - sum % 10) % 10
