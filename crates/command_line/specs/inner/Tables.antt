-- The tables of arguments and words in `src/`, as `clap` reads them.
use Rattle.std.specs.Prelude.{◌≡◌, false, List, [], ◌++◌, map}
use Rattle.std.specs.List.{flat_map}
use Rattle.clap.specs.Simple.{App, Shape, app_of, new_shape, on_top}
use Rattle.clap.specs.Walk.{Rule, rule_of}
use Rattle.clap.specs.declared.builder.arg.Arg.{Arg}
use Rattle.clap.specs.declared.builder.command.Command.{Command}
use Rattle.clap.specs.declared.builder.command.Command.TheViews.{out-Command}
use Rattle.command_line.specs.Arguments.{flag, needed, needed_repeated, number, number_or, repeated, unnamed, unnamed_files, valued}
use Rattle.command_line.specs.Values.{Text}
use Rattle.command_line.specs.declared.arguments.Argument.{Argument}
use Rattle.command_line.specs.declared.arguments.Takes.{Takes}
use Rattle.command_line.specs.declared.arguments.Takes.TheVariants as takes
use Rattle.command_line.specs.declared.help.WordHelp.{WordHelp}

-- the kind of an argument that takes this
abbrev pub rule_taking : Takes → (name : Text) → Rule
rule_taking takes.Nothing name = flag name
rule_taking (takes.Value shown) name = valued name
rule_taking (takes.Needed shown) name = needed name
rule_taking (takes.Values shown) name = repeated name
rule_taking (takes.NeededValues shown) name = needed_repeated name
rule_taking (takes.Number most) name = number most name
rule_taking (takes.NumberOr most standard) name = number_or most standard.now name
rule_taking (takes.Own shown) name = unnamed name
rule_taking takes.Files name = unnamed_files name

abbrev pub rule_for : Argument → Rule
rule_for it = rule_taking it.takes it.name.now

-- `clap`'s argument is read by this rule, and belongs to its own word alone
pub record IsReadBy (rule : Rule) (argument : Arg) : Type 0 where
  pub rule_is : rule_of argument ≡ rule
  pub own : argument.global ≡ false

-- a command with these arguments more, behind its own
abbrev pub with_more : List Rule → App → App
with_more rules app = on_top (λ s. record s { rules = s.rules ++ rules }) app

-- the same of `clap`'s commands; none of the arguments is for subcommands too
pub record AddsRules (rules : List Rule) (old new : Command) : Type 0 where
  pub app : app_of new ≡ with_more rules (app_of old)
  pub own : (out-Command new).has_globals ≡ (out-Command old).has_globals

-- a word of the table
abbrev pub shape_for : WordHelp → Shape
shape_for help = record (new_shape help.name.now) { rules = flat_map (λ some. map rule_for some.now) help.arguments.now }

-- `clap`'s command reads a word so, and is for no other
pub record IsWordBy (shape : Shape) (command : Command) : Type 0 where
  pub app : app_of command ≡ record { top = shape; subs = [] }
  pub own : (out-Command command).has_globals ≡ false
