-- What the words of a command line ask for.
use Rattle.std.specs.Prelude.{◌≡◌, List, codes, Option, Some, None}
use Rattle.clap.specs.Simple.{subcommand_of}
use Rattle.command_line.specs.Explained.{IsExplained}
use Rattle.command_line.specs.Options.{AreFeedOptions, AreLineOptions, AreMapOptions, AreMovesOptions, ArePlanOptions, AreProblemOptions, AreReviewOptions, AreRunOptions, AreSaveOptions, AreStateOptions, AreTraceOptions, AreWhyOptions}
use Rattle.command_line.specs.Program.{program}
use Rattle.command_line.specs.Values.{Given, Text}
use Rattle.command_line.specs.declared.words.Word.{Word}
use Rattle.command_line.specs.declared.words.Word.TheVariants as asked
use Rattle.line_engine.specs.Lines.{max_line_bytes}

-- The word of this name, with the options that this was given to.
abbrev pub IsWordOf : (name : Text) → Given → Word → Type 0
IsWordOf name given (asked.Check options) = (name ≡ codes "check") × AreLineOptions given options
IsWordOf name given (asked.Solve options) = (name ≡ codes "solve") × AreLineOptions given options
IsWordOf name given (asked.Run options) = (name ≡ codes "run") × AreRunOptions given options
IsWordOf name given (asked.Feed options) = (name ≡ codes "feed") × AreFeedOptions given options
IsWordOf name given (asked.Moves options) = (name ≡ codes "moves") × AreMovesOptions given options
IsWordOf name given (asked.Fleet options) = (name ≡ codes "fleet") × AreStateOptions given options
IsWordOf name given (asked.Orders options) = (name ≡ codes "orders") × AreStateOptions given options
IsWordOf name given (asked.Trace options) = (name ≡ codes "trace") × AreTraceOptions given options
IsWordOf name given (asked.Map options) = (name ≡ codes "map") × AreMapOptions given options
IsWordOf name given (asked.Plan options) = (name ≡ codes "plan") × ArePlanOptions given options
IsWordOf name given (asked.Table options) = (name ≡ codes "table") × AreProblemOptions given options
IsWordOf name given (asked.Why options) = (name ≡ codes "why") × AreWhyOptions given options
IsWordOf name given (asked.Review options) = (name ≡ codes "review") × AreReviewOptions given options
IsWordOf name given (asked.Save options) = (name ≡ codes "save") × AreSaveOptions given options
IsWordOf name given (asked.Explain explained) = (name ≡ codes "explain") × IsExplained given explained

-- `check` with the limit that it has if none is given
abbrev pub IsStandardCheck : Word → Type 0
IsStandardCheck (asked.Check options) = options.limit ≡ max_line_bytes
IsStandardCheck word = ⊥

-- The word that is named, with what it was given; without a name it is `check`.
abbrev pub IsWordFor : Option (Text × Given) → Word → Type 0
IsWordFor None word = IsStandardCheck word
IsWordFor (Some named) word = IsWordOf named.0 named.1 word

-- The word that these words of the command line ask for, the program's name first: the one that they name, with what they give
-- to its arguments, as `clap` reads them.
unfoldable pub IsAskedBy : List Text → Word → Type 0
IsAskedBy texts word = IsWordFor (subcommand_of program texts) word
