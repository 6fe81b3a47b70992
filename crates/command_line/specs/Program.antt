-- The words that the program knows, each with its arguments, as `clap` reads them.
use Rattle.std.specs.Prelude.{false, true, List, [], ◌∷◌, ◌++◌, codes}
use Rattle.clap.specs.Simple.{App, Shape, new_shape}
use Rattle.clap.specs.Walk.{Rule}
use Rattle.command_line.specs.Arguments.{flag, needed, needed_repeated, number, number_or, repeated, unnamed, unnamed_files, valued}
use Rattle.command_line.specs.Options.{max_near, max_silent_hours, max_workers}
use Rattle.command_line.specs.Values.{Text}
use Rattle.line_engine.specs.Lines.{largest_line_limit, max_input_lines}
use Rattle.price_checker.specs.Limits.{max_entries, max_kept_problems}

-- the options of each word that opens an office
abbrev pub of_an_office : List Rule
of_an_office =
    valued (codes "roster")
    ∷ valued (codes "from")
    ∷ needed_repeated (codes "network")
    ∷ number_or max_entries (codes "100000") (codes "entries")
    ∷ number_or max_kept_problems (codes "8") (codes "kept")
    ∷ number_or max_workers (codes "4") (codes "workers")
    ∷ []

-- the option of the words over table lines
abbrev pub of_lines : List Rule
of_lines = number_or largest_line_limit (codes "65536") (codes "line-bytes") ∷ []

abbrev pub a_moment : Rule
a_moment = needed (codes "at")

abbrev pub some_places : Rule
some_places = valued (codes "places")

abbrev pub some_notes : Rule
some_notes = valued (codes "notes")

abbrev pub a_zone : Rule
a_zone = valued (codes "zone")

-- the options of the words that list an office
abbrev pub of_a_state : List Rule
of_a_state = some_places ∷ a_zone ∷ flag (codes "csv") ∷ flag (codes "json") ∷ []

-- those of `moves` that say what is shown
abbrev pub of_moves : List Rule
of_moves =
    flag (codes "late")
    ∷ valued (codes "order")
    ∷ valued (codes "wagon")
    ∷ valued (codes "company")
    ∷ number max_silent_hours (codes "silent") ∷ []

-- those of `why`
abbrev pub of_why : List Rule
of_why =
    valued (codes "at")
    ∷ number max_input_lines (codes "line")
    ∷ some_places
    ∷ valued (codes "order")
    ∷ valued (codes "wagon")
    ∷ number max_near (codes "near")
    ∷ flag (codes "json")
    ∷ flag (codes "quick") ∷ []

-- a word with these arguments
abbrev pub word : Text → List Rule → Shape
word name arguments = record (new_shape name) { rules = arguments }

-- the words, in the order in which help lists them
unfoldable pub words : List Shape
words =
    word (codes "check") of_lines
    ∷ word (codes "solve") of_lines
    ∷ word (codes "run") (of_an_office ++ some_notes ∷ [])
    ∷ word (codes "feed") (of_an_office ++ some_notes ∷ unnamed_files (codes "file") ∷ [])
    ∷ word (codes "moves") (of_an_office ++ a_moment ∷ of_a_state ++ of_moves)
    ∷ word (codes "fleet") (of_an_office ++ of_a_state)
    ∷ word (codes "orders") (of_an_office ++ of_a_state)
    ∷ word (codes "trace") (of_an_office ++ of_a_state ++ valued (codes "order") ∷ valued (codes "wagon") ∷ [])
    ∷ word (codes "map")
    (of_an_office ++ some_places ∷ flag (codes "busy") ∷ valued (codes "order") ∷ valued (codes "class") ∷ [])
    ∷ word (codes "plan") (of_an_office ++ a_moment ∷ some_places ∷ a_zone ∷ flag (codes "csv") ∷ [])
    ∷ word (codes "table") (of_an_office ++ a_moment ∷ [])
    ∷ word (codes "why")
    (of_an_office ++ of_why)
    ∷ word (codes "review") (of_an_office ++ some_places ∷ flag (codes "json") ∷ [])
    ∷ word (codes "save")
    (of_an_office ++ number max_input_lines (codes "upto") ∷ valued (codes "with") ∷ repeated (codes "without") ∷ [])
    ∷ word (codes "explain") (unnamed (codes "code") ∷ [])
    ∷ []

-- the program before its words
abbrev pub without_words : App
without_words = record { top = record (new_shape (codes "wagons")) { has_version = true }; subs = [] }

-- the program with its words
unfoldable pub program : App
program = record { top = record (new_shape (codes "wagons")) { has_version = true; is_leaf = false }; subs = words }
