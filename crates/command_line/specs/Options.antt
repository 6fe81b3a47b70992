-- What each word's options say, by what was given to them.
use Rattle.std.specs.Prelude.{◌≡◌, ◌≢◌, ◌≤◌, ℕ, Bool, ◌||◌, ◌==◌, [], codes, Option, Some, None, Ok, IfSome, IsTrue}
use Rattle.std.specs.Char.{is_ascii_alphanumeric}
use Rattle.std.specs.List.{list_all}
use Rattle.command_line.specs.Values.{AreReadAs, Given, IsFlagOf, IsNumberOf, IsOptionalNumberOf, IsReadAs, Text, all_lent, lent, needed_value, value_of, values_of}
use Rattle.command_line.specs.declared.line_options.LineOptions.{LineOptions}
use Rattle.command_line.specs.declared.map_options.MapOptions.{MapOptions}
use Rattle.command_line.specs.declared.moves_options.MovesOptions.{MovesOptions}
use Rattle.command_line.specs.declared.office_options.FeedOptions.{FeedOptions}
use Rattle.command_line.specs.declared.office_options.OfficeOptions.{OfficeOptions}
use Rattle.command_line.specs.declared.office_options.ProblemOptions.{ProblemOptions}
use Rattle.command_line.specs.declared.office_options.RunOptions.{RunOptions}
use Rattle.command_line.specs.declared.office_options.SaveOptions.{SaveOptions}
use Rattle.command_line.specs.declared.office_options.Start.{Start}
use Rattle.command_line.specs.declared.office_options.Start.TheVariants as start
use Rattle.command_line.specs.declared.plan_options.PlanOptions.{PlanOptions}
use Rattle.command_line.specs.declared.review_options.ReviewOptions.{ReviewOptions}
use Rattle.command_line.specs.declared.state_options.StateOptions.{StateOptions}
use Rattle.command_line.specs.declared.trace_options.Followed.{Followed}
use Rattle.command_line.specs.declared.trace_options.Followed.TheVariants as followed
use Rattle.command_line.specs.declared.trace_options.TraceOptions.{TraceOptions}
use Rattle.command_line.specs.declared.why_options.Asked.{Asked}
use Rattle.command_line.specs.declared.why_options.Asked.TheVariants.{Plan, Order, Wagon}
use Rattle.command_line.specs.declared.why_options.When.{When}
use Rattle.command_line.specs.declared.why_options.When.TheVariants.{At, Line}
use Rattle.command_line.specs.declared.why_options.WhyOptions.{WhyOptions}
use Rattle.line_engine.specs.Lines.{largest_line_limit, max_input_lines}
use Rattle.price_checker.specs.Limits.{LimitNumbers, max_entries, max_kept_problems}
use Rattle.rail_codes.specs.ClassCode.{class_code_of}
use Rattle.rail_codes.specs.Company.{company_of}
use Rattle.rail_codes.specs.Moment.{moment_of}
use Rattle.rail_codes.specs.OrderId.{order_id_of}
use Rattle.rail_codes.specs.WagonNumber.{wagon_number_of}

-- the most threads that compute distances
abbrev pub max_workers : ℕ
max_workers = 64

-- the most hours after which a wagon that was not heard from is shown
abbrev pub max_silent_hours : ℕ
max_silent_hours = 100000

-- the most pairs that `why --near` prints
abbrev pub max_near : ℕ
max_near = 1000

-- the most bytes of a line
pub record AreLineOptions (given : Given) (options : LineOptions) : Type 0 where
  pub limit : IsNumberOf (codes "line-bytes") largest_line_limit given options.limit

-- An office begins with the checkpoint in the file that `from` names, if one is given, else with the roster in that of `roster`.
abbrev pub BeginsBy : Given → Start → Type 0
BeginsBy given (start.Checkpoint path) = value_of (codes "from") given ≡ Some path.now
BeginsBy given (start.Roster path) = (value_of (codes "from") given ≡ None) × (path.now ≡ needed_value (codes "roster") given)

-- how large its book may grow
pub record AreLimitsOf (given : Given) (limits : LimitNumbers) : Type 0 where
  pub entries : IsNumberOf (codes "entries") max_entries given limits.entries
  pub kept : IsNumberOf (codes "kept") max_kept_problems given limits.kept

-- what an office is opened with: its first file, the files of its networks in the order given, its book's limits, its threads
pub record AreOfficeOptions (given : Given) (options : OfficeOptions) : Type 0 where
  pub begins : BeginsBy given options.start
  pub networks : all_lent options.networks.items ≡ values_of (codes "network") given
  pub limits : AreLimitsOf given options.limits
  pub workers : IsNumberOf (codes "workers") max_workers given options.workers

-- the same, and the file that notes are written to, if there is one
pub record AreRunOptions (given : Given) (options : RunOptions) : Type 0 where
  pub office : AreOfficeOptions given options.office
  pub notes : lent options.notes ≡ value_of (codes "notes") given

-- the same as for an office, the files of commands in the order given, and the file that notes are written to, if there is one
pub record AreFeedOptions (given : Given) (options : FeedOptions) : Type 0 where
  pub office : AreOfficeOptions given options.office
  pub files : all_lent options.files.items ≡ values_of (codes "file") given
  pub notes : lent options.notes ≡ value_of (codes "notes") given

-- the same as for an office, and the moment that `at` says
pub record AreProblemOptions (given : Given) (options : ProblemOptions) : Type 0 where
  pub office : AreOfficeOptions given options.office
  pub at : moment_of (needed_value (codes "at") given) ≡ Ok options.at

-- a letter, a digit, or one of `_`, `+`, `-` and `/`
abbrev pub is_zone_character : ℕ → Bool
is_zone_character c = is_ascii_alphanumeric c || c == 95 || c == 43 || c == 45 || c == 47

-- a text that may name a time zone
abbrev pub IsZoneName : Text → Type 0
IsZoneName name = (name ≢ []) × IsTrue (list_all is_zone_character name)

-- how an office is listed: with names of places, in a time zone, as CSV or JSON lines
pub record AreStateOptions (given : Given) (options : StateOptions) : Type 0 where
  pub office : AreOfficeOptions given options.office
  pub places : lent options.places ≡ value_of (codes "places") given
  pub zone : lent options.zone ≡ value_of (codes "zone") given
  pub zone_name : IfSome options.zone (λ name. IsZoneName name.now)
  pub csv : IsFlagOf (codes "csv") given options.csv
  pub json : IsFlagOf (codes "json") given options.json

-- what a trace follows: the order that `order` says, else the wagon that `wagon` says
abbrev pub IsFollowed : Given → Followed → Type 0
IsFollowed given (followed.Order id) = IsReadAs order_id_of (value_of (codes "order") given) (Some id)
IsFollowed given (followed.Wagon number) =
    (value_of (codes "order") given ≡ None) × (wagon_number_of (needed_value (codes "wagon") given) ≡ Ok number)

-- how a trace is printed, and what it follows
pub record AreTraceOptions (given : Given) (options : TraceOptions) : Type 0 where
  pub state : AreStateOptions given options.state
  pub followed : IsFollowed given options.followed

-- how promised wagons are listed, and which: those that are late, those of one wagon, order or company, with those not heard from
-- for so many hours
pub record AreMovesOptions (given : Given) (options : MovesOptions) : Type 0 where
  pub problem : AreProblemOptions given options.problem
  pub places : lent options.places ≡ value_of (codes "places") given
  pub zone : lent options.zone ≡ value_of (codes "zone") given
  pub zone_name : IfSome options.zone (λ name. IsZoneName name.now)
  pub csv : IsFlagOf (codes "csv") given options.csv
  pub json : IsFlagOf (codes "json") given options.json
  pub late : IsFlagOf (codes "late") given options.late
  pub wagon : IsReadAs wagon_number_of (value_of (codes "wagon") given) options.wagon
  pub order : IsReadAs order_id_of (value_of (codes "order") given) options.order
  pub company : IsReadAs company_of (value_of (codes "company") given) options.company
  pub silent : IsOptionalNumberOf (codes "silent") given options.silent
  pub silent_range : IfSome options.silent (λ hours. (1 ≤ hours) × (hours ≤ max_silent_hours))

-- how a plan is printed: with names of places, in a time zone, as CSV
pub record ArePlanOptions (given : Given) (options : PlanOptions) : Type 0 where
  pub problem : AreProblemOptions given options.problem
  pub places : lent options.places ≡ value_of (codes "places") given
  pub zone : lent options.zone ≡ value_of (codes "zone") given
  pub zone_name : IfSome options.zone (λ name. IsZoneName name.now)
  pub csv : IsFlagOf (codes "csv") given options.csv

-- what `why` is asked about: the order that `order` says, else the wagon that `wagon` says, else the whole plan
abbrev pub IsAsked : Given → Asked → Type 0
IsAsked given (Order id) = IsReadAs order_id_of (value_of (codes "order") given) (Some id)
IsAsked given (Wagon number) =
    (value_of (codes "order") given ≡ None) × IsReadAs wagon_number_of (value_of (codes "wagon") given) (Some number)
IsAsked given Plan = (value_of (codes "order") given ≡ None) × (value_of (codes "wagon") given ≡ None)

-- which plan `why` is asked about: that of the last version at the moment that `at` says, else that of the line that `line` says
abbrev pub IsWhen : Given → When → Type 0
IsWhen given (At moment) = IsReadAs moment_of (value_of (codes "at") given) (Some moment)
IsWhen given (Line number) = (value_of (codes "at") given ≡ None) × IsNumberOf (codes "line") max_input_lines given number

-- A number of pairs is asked for of an order or a wagon alone: of the whole plan there is none.
abbrev pub IsNearOf : Asked → (near : Option ℕ) → Type 0
IsNearOf Plan near = near ≡ None
IsNearOf asked near = Unit {0}

-- what is asked of which plan, with names of places, how many pairs that fit are printed at most, whether JSON lines are printed, and
-- whether bounds are printed alone
pub record AreWhyOptions (given : Given) (options : WhyOptions) : Type 0 where
  pub office : AreOfficeOptions given options.office
  pub when : IsWhen given options.when
  pub places : lent options.places ≡ value_of (codes "places") given
  pub asked : IsAsked given options.asked
  pub near : IsOptionalNumberOf (codes "near") given options.near
  pub near_range : IfSome options.near (λ pairs. (1 ≤ pairs) × (pairs ≤ max_near))
  pub near_of_one : IsNearOf options.asked options.near
  pub json : IsFlagOf (codes "json") given options.json
  pub quick : IsFlagOf (codes "quick") given options.quick

-- what a map shows: names of places, quiet places or not, the order and the class that are shown alone
pub record AreMapOptions (given : Given) (options : MapOptions) : Type 0 where
  pub office : AreOfficeOptions given options.office
  pub places : lent options.places ≡ value_of (codes "places") given
  pub busy : IsFlagOf (codes "busy") given options.busy
  pub order : IsReadAs order_id_of (value_of (codes "order") given) options.order
  pub class : IsReadAs class_code_of (value_of (codes "class") given) options.class

-- the names of places for notes, or whether the notes are JSON lines
pub record AreReviewOptions (given : Given) (options : ReviewOptions) : Type 0 where
  pub office : AreOfficeOptions given options.office
  pub places : lent options.places ≡ value_of (codes "places") given
  pub json : IsFlagOf (codes "json") given options.json

-- what is saved: how many lines are read, the roster that is added, and the wagons that leave, in the order given
pub record AreSaveOptions (given : Given) (options : SaveOptions) : Type 0 where
  pub office : AreOfficeOptions given options.office
  pub upto : IsOptionalNumberOf (codes "upto") given options.upto
  pub added : lent options.with ≡ value_of (codes "with") given
  pub leaving : AreReadAs wagon_number_of (values_of (codes "without") given) options.without.items
