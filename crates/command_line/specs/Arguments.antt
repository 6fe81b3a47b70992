-- The kinds of arguments of words, as `clap` reads them.
use Rattle.std.specs.Prelude.{ℕ, true, [], ◌∷◌, Some}
use Rattle.clap.specs.Simple.{new_rule}
use Rattle.clap.specs.Walk.{Rule}
use Rattle.clap.specs.declared.builder.action.ArgAction.TheVariants.{Set, Append, SetTrue}
use Rattle.clap.specs.declared.builder.value_parser.ValueParser.TheVariants.{Unsigned}
use Rattle.command_line.specs.Values.{Text}
use Rattle.line_engine.specs.Lines.{max_files}

-- `--NAME` without a value
abbrev pub flag : (name : Text) → Rule
flag name = record (new_rule name) { long = Some name; action = Some SetTrue }

-- `--NAME VALUE`
abbrev pub valued : (name : Text) → Rule
valued name = record (new_rule name) { long = Some name; value_names = 1; action = Some Set }

-- the same, which must be given
abbrev pub needed : (name : Text) → Rule
needed name = record (valued name) { required = true }

-- `--NAME VALUE`, as often as one likes
abbrev pub repeated : (name : Text) → Rule
repeated name = record (new_rule name) { long = Some name; value_names = 1; action = Some Append }

-- the same, which must be given
abbrev pub needed_repeated : (name : Text) → Rule
needed_repeated name = record (repeated name) { required = true }

-- `--NAME N` with a number from 1 to `most`
abbrev pub number : (most : ℕ) (name : Text) → Rule
number most name = record (valued name) { parser = Some (Unsigned 1 most) }

-- the same, which has a value if none is given
abbrev pub number_or : (most : ℕ) (standard name : Text) → Rule
number_or most standard name = record (number most name) { defaults = standard ∷ [] }

-- a value without a name before it
abbrev pub unnamed : (name : Text) → Rule
unnamed name = record (new_rule name) { value_names = 1 }

-- 1 to 16 files, without a name before them
abbrev pub unnamed_files : (name : Text) → Rule
unnamed_files name =
    record (new_rule name) { value_names = 1; required = true; range = Some (record { start_inclusive = 1; end_inclusive = max_files }) }
