-- The texts about one order and about one wagon: its own line, then one for each wagon with the order, or for each order with the
-- wagon. Pairs that fail no test come first, the one first that costs plans least; then the others by the first test that they fail,
-- and as placed where that is the same.
use Rattle.std.specs.Prelude.{◌≡◌, ◌==◌, if◌then◌else◌, ℕ, Bool, false, not, All, List, [], ◌++◌, length, map, nat_lt, codes, slice_get, take, Option, Some, None}
use Rattle.std.specs.List.{filter, find, range_with_len}
use Rattle.std.specs.List.Sorted.{IsNonDecreasingBy, IsPermutation, IsStableByKey}
use Rattle.std.specs.Ordering.{nat_cmp}
use Rattle.line_network.specs.Network.{NetworkValue}
use Rattle.place_names.specs.declared.named_place.NamedPlace.{NamedPlace}
use Rattle.cost_table.specs.Problem.{ProblemValue, wagon_names}
use Rattle.cost_table.specs.Table.{Table, cost_at, penalty_at}
use Rattle.price_checker.specs.NamedFaults.{name_at}
use Rattle.plan_bounds.specs.PricedPlan.{PricedPlan}
use Rattle.reply_texts.specs.Lines.{AreLines}
use Rattle.plan_reasons.specs.declared.line_form.LineForm.{LineForm}
use Rattle.plan_reasons.specs.CertifiedPlan.{CertifiedPlanValue}
use Rattle.move_messages.specs.Order.{Order}
use Rattle.wagons_and_orders.specs.Wanted.{WantedOrder}
use Rattle.plan_reasons.specs.declared.failed.Failed.{Failed}
use Rattle.plan_reasons.specs.declared.fit.Fit.{Fit}
use Rattle.plan_reasons.specs.declared.reasons.Test.{Test}
use Rattle.plan_reasons.specs.declared.reasons.Test.TheVariants.{Class, Load, Way, InTime, Cheaper}
use Rattle.plan_reasons.specs.declared.numbers.Numbers.{Numbers}
use Rattle.plan_reasons.specs.declared.style.Style.{Style}
use Rattle.plan_reasons.specs.Fields.{ending, first_field, quoted}
use Rattle.plan_reasons.specs.WhyText.{IsOrderLine, IsWagonLine}
use Rattle.plan_reasons.specs.Numbers.{IsMoreOf}
use Rattle.plan_reasons.specs.Headings.{counted_columns, fits_columns, heading, heading_over, order_columns, stays_columns, test_columns, wagon_columns}
use Rattle.plan_reasons.specs.PlaceFields.{names_of}
use Rattle.plan_reasons.specs.Pairs.{IsFailed, IsFailedLine, IsFitsLine, counted_line}
use Rattle.plan_reasons.specs.PrintedNumbers.{IsPrinted}

-- each free wagon with order j, and each order with wagon i, as placed
abbrev pub pairs_of_order : ProblemValue → (j : ℕ) → List (ℕ × ℕ)
pairs_of_order problem j = map (λ i. (i, j)) (range_with_len 0 (length problem.wagons))

abbrev pub pairs_of_wagon : ProblemValue → (i : ℕ) → List (ℕ × ℕ)
pairs_of_wagon problem i = map (λ j. (i, j)) (range_with_len 0 (length problem.orders))

-- ---- which pairs fail no test

-- a cost that is there, and below a limit
abbrev pub is_below : Option ℕ → (limit : ℕ) → Bool
is_below None limit = false
is_below (Some km) limit = nat_lt km limit

-- the table has the pair, at less than the order's penalty
abbrev pub passes_all : Table → (pair : ℕ × ℕ) → Bool
passes_all t pair = is_below (cost_at t pair.0 pair.1) (penalty_at t pair.1)

-- those of the pairs, each with what plans with it cost more
pub record AreFound (numbers : Numbers) (p : PricedPlan) (pairs : List (ℕ × ℕ)) (found : List Fit) : Type 0 where
  pub of_pairs : map (λ fit. fit.pair) found ≡ filter (passes_all p.table) pairs
  pub each : All (λ fit. IsMoreOf numbers p fit.pair fit.more) found

-- the same, the one first that costs least; where that is the same, as they are listed
pub record AreByMore (numbers : Numbers) (p : PricedPlan) (pairs : List (ℕ × ℕ)) (fits : List Fit) : Type 0 where
  pub found : List Fit
  pub are_found : AreFound numbers p pairs found
  pub same : IsPermutation found fits
  pub ascending : IsNonDecreasingBy (λ fit. fit.more) fits
  pub as_listed : IsStableByKey (λ fit. fit.more) nat_cmp found fits

-- the first of them alone, where so many are asked for
abbrev pub nearest : (near : Option ℕ) → List Fit → List Fit
nearest None fits = fits
nearest (Some count) fits = take count fits

pub record AreNearest (numbers : Numbers) (p : PricedPlan) (near : Option ℕ) (pairs : List (ℕ × ℕ)) (shown : List Fit) : Type 0 where
  pub fits : List Fit
  pub by_more : AreByMore numbers p pairs fits
  pub first : shown ≡ nearest near fits

-- the lines of pairs that fail no test
pub record AreFitsLines (style : Style) (numbers : Numbers) (net : NetworkValue) (problem : ProblemValue) (p : PricedPlan) (near : Option ℕ) (pairs : List (ℕ × ℕ)) (text : List ℕ) : Type 0 where
  pub shown : List Fit
  pub are_nearest : AreNearest numbers p near pairs shown
  pub lines : List ℕ
  pub fits_lines : AreLines (IsFitsLine style numbers net problem p) shown lines
  pub whole : text ≡ heading_over style fits_columns (length shown) ++ lines

-- ---- which pairs fail a test

-- those of the pairs, each with the first test that it fails
pub record AreFailed (net : NetworkValue) (problem : ProblemValue) (t : Table) (pairs : List (ℕ × ℕ)) (failed : List Failed) : Type 0 where
  pub of_pairs : map (λ failed. failed.pair) failed ≡ filter (λ pair. not (passes_all t pair)) pairs
  pub each : All (IsFailed net problem) failed

-- where a test stands among the tests
abbrev pub place_of : Test → ℕ
place_of Class = 0
place_of Load = 1
place_of Way = 2
place_of InTime = 3
place_of Cheaper = 4

-- whether a pair fails this test first
abbrev pub fails : Test → Failed → Bool
fails test failed = place_of failed.test == place_of test

-- the lines of the pairs that fail this test first, as they are listed
pub record AreTestLines (style : Style) (names : Option (List NamedPlace)) (net : NetworkValue) (problem : ProblemValue) (failed : List Failed) (test : Test) (text : List ℕ) : Type 0 where
  pub lines : List ℕ
  pub test_lines : AreLines (IsFailedLine style names net problem) (filter (fails test) failed) lines
  pub whole : text ≡ heading_over style (test_columns names test) (length (filter (fails test) failed)) ++ lines

-- the lines of the pairs that fail a test behind that of the class, test by test
pub record AreLaterLines (style : Style) (names : Option (List NamedPlace)) (net : NetworkValue) (problem : ProblemValue) (failed : List Failed) (text : List ℕ) : Type 0 where
  pub load : List ℕ
  pub load_lines : AreTestLines style names net problem failed Load load
  pub way : List ℕ
  pub way_lines : AreTestLines style names net problem failed Way way
  pub late : List ℕ
  pub late_lines : AreTestLines style names net problem failed InTime late
  pub costly : List ℕ
  pub costly_lines : AreTestLines style names net problem failed Cheaper costly
  pub whole : text ≡ load ++ way ++ late ++ costly

-- one line that counts the wagons of classes that an order doesn't list; none where there is no such wagon
abbrev pub counted : Style → (count : ℕ) → Order → List ℕ
counted style count order = if count == 0 then [] else heading style counted_columns ++ counted_line style count order

-- what is said of the pairs of order j that fail a test: those that fail that of the class are counted
pub record AreFailedOfOrder (style : Style) (names : Option (List NamedPlace)) (net : NetworkValue) (problem : ProblemValue) (t : Table) (j : ℕ) (text : List ℕ) : Type 0 where
  pub wanted : WantedOrder
  pub order : slice_get problem.orders j ≡ Some wanted
  pub failed : List Failed
  pub are_failed : AreFailed net problem t (pairs_of_order problem j) failed
  pub count_printed : IsPrinted (length (filter (fails Class) failed))
  pub later : List ℕ
  pub later_lines : AreLaterLines style names net problem failed later
  pub whole : text ≡ counted style (length (filter (fails Class) failed)) wanted.order ++ later

-- what is said of the pairs of wagon i that fail a test: each has a line
pub record AreFailedOfWagon (style : Style) (names : Option (List NamedPlace)) (net : NetworkValue) (problem : ProblemValue) (t : Table) (i : ℕ) (text : List ℕ) : Type 0 where
  pub failed : List Failed
  pub are_failed : AreFailed net problem t (pairs_of_wagon problem i) failed
  pub class : List ℕ
  pub class_lines : AreTestLines style names net problem failed Class class
  pub later : List ℕ
  pub later_lines : AreLaterLines style names net problem failed later
  pub whole : text ≡ class ++ later

-- nothing is said of them where only the nearest pairs are asked for
abbrev pub UnlessNear : (near : Option ℕ) → (AreTheirs : List ℕ → Type 0) → (text : List ℕ) → Type 0
UnlessNear None AreTheirs text = AreTheirs text
UnlessNear (Some count) AreTheirs text = text ≡ []

-- ---- the texts

-- the text about order j, with the names of places where they are asked for
pub record IsOrderText (style : Style) (numbers : Numbers) (names : Option (List NamedPlace)) (near : Option ℕ) (net : NetworkValue) (problem : ProblemValue) (p : PricedPlan) (j : ℕ) (text : List ℕ) : Type 0 where
  pub own : List ℕ
  pub line : IsOrderLine style numbers net problem p j own
  pub fitting : List ℕ
  pub fits_lines : AreFitsLines style numbers net problem p near (pairs_of_order problem j) fitting
  pub failing : List ℕ
  pub failed_lines : UnlessNear near (AreFailedOfOrder style names net problem p.table j) failing
  pub whole : text ≡ heading style (order_columns numbers) ++ own ++ fitting ++ failing

-- the line of wagon i where no order gets it
abbrev pub stays_line : Style → ProblemValue → (i : ℕ) → List ℕ
stays_line style problem i = first_field style (codes "stays") (quoted style (name_at (wagon_names problem.wagons) i)) ++ ending style

-- the line of wagon i by the pair that the plan has of it
abbrev pub IsOwnLine : Style → Numbers → NetworkValue → ProblemValue → PricedPlan → (i : ℕ) → Option (ℕ × ℕ) → (line : List ℕ) → Type 0
IsOwnLine style numbers net problem p i None line = line ≡ stays_line style problem i
IsOwnLine style numbers net problem p i (Some pair) line = IsWagonLine style numbers net problem p pair line

-- the words of that line
abbrev pub own_columns : Option (ℕ × ℕ) → List ℕ
own_columns None = stays_columns
own_columns (Some pair) = wagon_columns

-- the text about wagon i, with the names of places where they are asked for
pub record IsWagonText (style : Style) (numbers : Numbers) (names : Option (List NamedPlace)) (near : Option ℕ) (net : NetworkValue) (problem : ProblemValue) (p : PricedPlan) (i : ℕ) (text : List ℕ) : Type 0 where
  pub own : List ℕ
  pub line : IsOwnLine style numbers net problem p i (find (λ pair. pair.0 == i) p.pairs) own
  pub fitting : List ℕ
  pub fits_lines : AreFitsLines style numbers net problem p near (pairs_of_wagon problem i) fitting
  pub failing : List ℕ
  pub failed_lines : UnlessNear near (AreFailedOfWagon style names net problem p.table i) failing
  pub whole : text ≡ heading style (own_columns (find (λ pair. pair.0 == i) p.pairs)) ++ own ++ fitting ++ failing

-- the text about order j of what is asked about, written in this form
abbrev pub IsOrderTextOf : LineForm → Numbers → (near : Option ℕ) → CertifiedPlanValue → (j : ℕ) → (text : List ℕ) → Type 0
IsOrderTextOf form numbers near planned j text =
    IsOrderText form.style numbers (names_of form) near planned.network planned.problem planned.priced j text

-- the text about wagon i of what is asked about, written in this form
abbrev pub IsWagonTextOf : LineForm → Numbers → (near : Option ℕ) → CertifiedPlanValue → (i : ℕ) → (text : List ℕ) → Type 0
IsWagonTextOf form numbers near planned i text =
    IsWagonText form.style numbers (names_of form) near planned.network planned.problem planned.priced i text
