-- What `clap` reads of an argument, after its methods.
use Rattle.std.proofs.Common.{◌≡◌, ◌∙◌, ◌||◌, ◌+◌, ◌<◌, ◌≤◌, ℕ, Bool, true, false, List, [], ◌∷◌, ◌++◌, length, map, take, get_or, Option, Some, None, ap, ap₂, refl, sym, append_assoc, append-nil}
use Rattle.std.proofs.lemmas.List.{map-append, take_all, take_more}
use Rattle.std.specs.Prelude.{IsSomeAnd}
use Rattle.clap.specs.Built.{AddsArg}
use Rattle.clap.specs.Simple.{App, app_of, with_rule}
use Rattle.clap.specs.Walk.{Rule, rule_of}
use Rattle.clap.specs.declared.builder.arg.Arg.{Arg}
use Rattle.clap.specs.declared.builder.command.Command.{Command}
use Rattle.clap.specs.declared.builder.command.Command.TheViews.{out-Command}
use Rattle.clap.specs.declared.builder.range.ValueRange.{ValueRange}
use Rattle.clap.specs.declared.builder.value_parser.ValueParser.{ValueParser}
use Rattle.command_line.specs.declared.arguments.Argument.{Argument}
use Rattle.command_line.specs.inner.Tables.{AddsRules, IsReadBy, rule_for, with_more}

-- what is required
pub required_too : (rule : Rule) (a b : Arg) → IsReadBy rule a → b ≡ record a { required = true } → IsReadBy (record rule { required = true }) b
required_too rule a b before is = record {
  rule_is = ap rule_of is ∙ ap (λ (r : Rule). record r { required = true }) before.rule_is;
  own = ap (λ (x : Arg). x.global) is ∙ before.own;
}

-- what has a parser
pub parsed_by : (rule : Rule) (a b : Arg) (q p : ValueParser) → IsReadBy rule a → b ≡ record a { value_parser = b.value_parser } → b.value_parser ≡ Some q → q ≡ p
    → IsReadBy (record rule { parser = Some p }) b
parsed_by rule a b q p before is has same = record {
  rule_is = ap rule_of is ∙ ap₂ (λ (r : Rule) (o : Option ValueParser). record r { parser = o }) before.rule_is (has ∙ ap Some same);
  own = ap (λ (x : Arg). x.global) is ∙ before.own;
}

some_is : {X : Type 0} (o : Option X) (x : X) → IsSomeAnd o (λ y. y ≡ x) → o ≡ Some x
some_is None x h = absurd h
some_is (Some y) x h = ap Some h

-- what takes so many values
pub ranged : (rule : Rule) (a b : Arg) (range : ValueRange) → IsReadBy rule a → b ≡ record a { num_vals = b.num_vals } → IsSomeAnd b.num_vals (λ r. r ≡ range)
    → IsReadBy (record rule { range = Some range }) b
ranged rule a b range before is has = record {
  rule_is = ap rule_of is ∙ ap₂ (λ (r : Rule) (o : Option ValueRange). record r { range = o }) before.rule_is (some_is b.num_vals range has);
  own = ap (λ (x : Arg). x.global) is ∙ before.own;
}

or_false : (b : Bool) → (b || false) ≡ b
or_false true = refl
or_false false = refl

-- rules behind those of a command
more_rules : (a : App) (xs ys : List Rule) → with_more ys (with_more xs a) ≡ with_more (xs ++ ys) a
more_rules a xs ys = ap (λ (rs : List Rule). record a { top = record a.top { rules = rs } }) (append_assoc a.top.rules xs ys)

no_rules : (a : App) → a ≡ with_more [] a
no_rules a = ap (λ (rs : List Rule). record a { top = record a.top { rules = rs } }) (sym (append-nil a.top.rules))

adds_none : (c : Command) → AddsRules [] c c
adds_none c = record { app = no_rules (app_of c); own = refl }

adds_one : (xs : List Rule) (old now new : Command) (a : Arg) (rule : Rule) → AddsRules xs old now → IsReadBy rule a → AddsArg now a new → AddsRules (xs ++ rule ∷ []) old new
adds_one xs old now new a rule before read added = record {
  app = added.shape read.own ∙ ap₂ with_rule before.app read.rule_is ∙ more_rules (app_of old) xs (rule ∷ []);
  own = added.globals ∙ ap₂ (λ (x y : Bool). x || y) before.own read.own ∙ or_false (out-Command old).has_globals;
}

-- a command before a table of arguments, and with one more of them
pub no_arguments : (arguments : List Argument) (c : Command) → AddsRules (map rule_for (take 0 arguments)) c c
no_arguments [] c = adds_none c
no_arguments (a ∷ arguments) c = adds_none c

pub arguments_more : (arguments : List Argument) (i : ℕ) (d : Argument) (old now new : Command) (a : Arg) → i < length arguments
    → AddsRules (map rule_for (take i arguments)) old now → IsReadBy (rule_for (get_or arguments i d)) a → AddsArg now a new
    → AddsRules (map rule_for (take (i + 1) arguments)) old new
arguments_more arguments i d old now new a within before read added =
    rw (take_more arguments i d within, map-append) (adds_one (map rule_for (take i arguments)) old now new a (rule_for (get_or arguments i d)) before read added)

pub all_arguments : (arguments : List Argument) (i : ℕ) (old new : Command) → length arguments ≤ i → AddsRules (map rule_for (take i arguments)) old new
    → AddsRules (map rule_for arguments) old new
all_arguments arguments i old new all so_far = rw (take_all i arguments all) at so_far
