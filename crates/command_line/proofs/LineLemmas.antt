-- The command line: its words, made one after the other, and what `clap` matches by it.
use Rattle.std.proofs.Common.{◌≡◌, ◌∙◌, ◌+◌, ◌<◌, ◌≤◌, ℕ, true, false, List, [], ◌∷◌, ◌++◌, length, map, take, get_or, fold, Option, Some, None, option_map, unwrap_or, is_some, ap, ap₂, refl, sym, append-nil}
use Rattle.std.proofs.lemmas.List.{map-append, take_all, take_more}
use Rattle.std.proofs.lemmas.List.Concat.{flat_map-append}
use Rattle.std.proofs.lemmas.List.Sums.{fold_push}
use Rattle.std.specs.Borrow.{Bor}
use Rattle.std.specs.Box.{box_value}
use Rattle.std.specs.List.{flat_map}
use Rattle.std.specs.Prelude.{Box}
use Rattle.clap.proofs.OnLiterals.{clap_on_literals}
use Rattle.clap.specs.Built.{AddsSubcommand}
use Rattle.clap.specs.Matches.{found_of, has_subcommand, subcommand_name_of}
use Rattle.clap.specs.Simple.{App, Shape, app_of, is_simple, new_shape, subcommand_rows, subcommand_rows_of, with_subcommand}
use Rattle.clap.specs.Walk.{Row, Rule, rows_of}
use Rattle.clap.specs.declared.builder.command.Command.{Command}
use Rattle.clap.specs.declared.parser.matches.ArgMatches.{ArgMatches}
use Rattle.clap.specs.declared.parser.matches.ArgMatches.TheViews.{out-ArgMatches, out-SubCommand}
use Rattle.clap.specs.declared.parser.matches.SubCommand.{SubCommand}
use Rattle.command_line.specs.Program.{program, without_words, words}
use Rattle.command_line.specs.Values.{Text, given_in}
use Rattle.command_line.specs.declared.arguments.Argument.{Argument}
use Rattle.command_line.specs.declared.help.WordHelp.{WordHelp}
use Rattle.command_line.specs.inner.Tables.{AddsRules, IsWordBy, rule_for, shape_for}

-- the program with all its words, added in turn
pub program_is : fold with_subcommand without_words words ≡ program
unfolding program words
program_is = refl

-- `clap` promises what words give to each argument of it
pub program_is_simple : is_simple program ≡ true
unfolding program words clap_on_literals
program_is_simple = refl

-- a word with more arguments
pub word_more : (shape : Shape) (rules : List Rule) (old new : Command) → IsWordBy shape old → AddsRules rules old new → IsWordBy (record shape { rules = shape.rules ++ rules }) new
word_more shape rules old new before added = record {
  app = added.app ∙ ap (λ (a : App). record a { top = record a.top { rules = a.top.rules ++ rules } }) before.app;
  own = added.own ∙ before.own;
}

-- a word with the arguments of the first lists of a table
abbrev pub IsWordSoFar : (name : Text) (lists : List (Bor (List Argument))) → Command → Type 0
IsWordSoFar name lists command = IsWordBy (record (new_shape name) { rules = flat_map (λ some. map rule_for some.now) lists }) command

pub no_lists : (name : Text) (lists : List (Bor (List Argument))) (c : Command) → IsWordBy (new_shape name) c → IsWordSoFar name (take 0 lists) c
no_lists name [] c is = is
no_lists name (x ∷ lists) c is = is

pub lists_more : (name : Text) (lists : List (Bor (List Argument))) (i : ℕ) (d : Bor (List Argument)) (some : List Argument) (old new : Command) → i < length lists
    → some ≡ (get_or lists i d).now → IsWordSoFar name (take i lists) old → AddsRules (map rule_for some) old new → IsWordSoFar name (take (i + 1) lists) new
lists_more name lists i d some old new within is before added =
    let rules_of : Bor (List Argument) → List Rule = λ (x : Bor (List Argument)). map rule_for x.now in
    let last : map rule_for some ≡ flat_map rules_of (get_or lists i d ∷ []) = ap (map rule_for) is ∙ sym (append-nil (map rule_for (get_or lists i d).now)) in
    rw (take_more lists i d within, flat_map-append, ← last)
    (word_more (record (new_shape name) { rules = flat_map rules_of (take i lists) }) (map rule_for some) old new before added)

pub all_lists : (name : Text) (lists : List (Bor (List Argument))) (i : ℕ) (c : Command) → length lists ≤ i → IsWordSoFar name (take i lists) c → IsWordSoFar name lists c
all_lists name lists i c all so_far = rw (take_all i lists all) at so_far

-- a program with one word more
pub word_added : (shape : Shape) (old sub new : Command) → IsWordBy shape sub → AddsSubcommand old sub new → app_of new ≡ with_subcommand (app_of old) shape
word_added shape old sub new is added = added.shape is.own ∙ ap (λ (a : App). with_subcommand (app_of old) a.top) is.app

-- a program with the first words of a table
abbrev pub HasFirst : (helps : List WordHelp) → Command → Type 0
HasFirst helps line = app_of line ≡ fold with_subcommand without_words (map shape_for helps)

pub no_words : (helps : List WordHelp) (line : Command) → app_of line ≡ without_words → HasFirst (take 0 helps) line
no_words [] line is = is
no_words (h ∷ helps) line is = is

pub words_more : (helps : List WordHelp) (i : ℕ) (d : WordHelp) (old new : Command) → i < length helps → HasFirst (take i helps) old
    → app_of new ≡ with_subcommand (app_of old) (shape_for (get_or helps i d)) → HasFirst (take (i + 1) helps) new
words_more helps i d old new within before added =
    rw (take_more helps i d within, map-append, fold_push with_subcommand without_words (map shape_for (take i helps)) (shape_for (get_or helps i d)))
    (added ∙ ap (λ (a : App). with_subcommand a (shape_for (get_or helps i d))) before)

pub all_words : (helps : List WordHelp) (i : ℕ) (line : Command) → length helps ≤ i → map shape_for helps ≡ words → HasFirst (take i helps) line → app_of line ≡ program
all_words helps i line all listed so_far =
    let whole : HasFirst helps line = rw (take_all i helps all) at so_far in
    whole ∙ ap (fold with_subcommand without_words) listed ∙ program_is

module _ {Z : Type 0} where
  some_row : (o : Option (Box SubCommand Z)) (name : Text) (rows : List Row)
      → Some name ≡ option_map (λ b. (out-SubCommand (box_value b)).name.now) o
      → Some rows ≡ option_map (λ p. p.1) (subcommand_rows o)
      → subcommand_rows o ≡ Some (name, rows)
  some_row None name rows named found = cc
  some_row (Some b) name rows named found =
      let same_name : name ≡ (out-SubCommand (box_value b)).name.now = ap (λ o. unwrap_or o name) named in
      let same_rows : rows ≡ rows_of (found_of (out-SubCommand (box_value b)).matches) = ap (λ o. unwrap_or o rows) found in
      ap₂ (λ n r. Some (n, r)) (sym same_name) (sym same_rows)

  no_row : (o : Option (Box SubCommand Z)) → false ≡ is_some o → subcommand_rows o ≡ None
  no_row None none = refl
  no_row (Some b) none = cc

-- the word that matches name, with what was given to it
pub named_word : (m sub : ArgMatches) (name : Text) → Some name ≡ subcommand_name_of m
    → Some (rows_of (found_of sub)) ≡ option_map (λ p. p.1) (subcommand_rows (out-ArgMatches m).subcommand) → subcommand_rows_of m ≡ Some (name, given_in sub)
unfolding given_in
named_word m sub name named found = some_row (out-ArgMatches m).subcommand name (rows_of (found_of sub)) named found

pub no_word : (m : ArgMatches) → false ≡ has_subcommand m → subcommand_rows_of m ≡ None
no_word m none = no_row (out-ArgMatches m).subcommand none
