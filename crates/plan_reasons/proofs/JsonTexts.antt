-- The lines of texts as JSON.
use Rattle.std.proofs.Common.{◌≡◌, ◌∙◌, ℕ, ◌-◌, Bool, true, false, if◌then◌else◌, ◌==◌, Option, Some, None, List, [], ◌∷◌, ◌++◌, length, decimal, ap, refl, sym, subst, arith, append_assoc, append-nil}
use Rattle.std.specs.Prelude.{codes, slice_index}
use Rattle.std.specs.List.{filter, range_with_len}
use Rattle.json.specs.Print.{escape, escape_byte}
use Rattle.move_messages.specs.Order.{Order}
use Rattle.wagons_and_orders.specs.declared.free_wagon.FreeWagon.{FreeWagon}
use Rattle.line_network.specs.Network.{NetworkValue}
use Rattle.place_names.specs.declared.named_place.NamedPlace.{NamedPlace}
use Rattle.cost_table.specs.Problem.{ProblemValue, order_names, wagon_names}
use Rattle.cost_table.specs.Table.{lack_at}
use Rattle.cost_table.specs.Plan.{pair_cost, serves}
use Rattle.price_checker.specs.NamedFaults.{name_at}
use Rattle.plan_bounds.specs.PricedPlan.{PricedPlan, certified_cost}
use Rattle.exact_costs.specs.declared.further.Further.{Further}
use Rattle.plan_bounds.specs.LeastSlack.{has_pair}
use Rattle.plan_bounds.specs.Slack.{missed}
use Rattle.reply_texts.specs.Lines.{AreLines}
use Rattle.text_tables.specs.JsonLines.{AreObjects, IsAnObject}
use Rattle.text_tables.proofs.JsonFields.{AreFields, IsOpen, IsValue, both_fields, both_texts, closed, lines_of, one_line, opened, text_value, with_fields}
use Rattle.plan_reasons.specs.declared.fit.Fit.{Fit}
use Rattle.plan_reasons.specs.declared.numbers.Numbers.{Numbers}
use Rattle.plan_reasons.specs.declared.numbers.Numbers.TheVariants.{Exact, Bounds}
use Rattle.plan_reasons.specs.declared.reasons.Counts.{Counts}
use Rattle.plan_reasons.specs.declared.reasons.Test.{Test}
use Rattle.plan_reasons.specs.declared.reasons.Test.TheVariants.{Class, Load, Way, InTime, Cheaper}
use Rattle.plan_reasons.specs.declared.style.Style.TheVariants.{Json}
use Rattle.plan_reasons.specs.Fields.{field, first_field, quoted}
use Rattle.plan_reasons.specs.Laws.{OrderTextsAreJson, WagonTextsAreJson, WhyTextsAreJson}
use Rattle.plan_reasons.specs.declared.failed.Failed.{Failed}
use Rattle.plan_reasons.specs.Headings.{counted_columns, fits_columns, heading, heading_over, order_columns, test_columns, wagon_columns}
use Rattle.plan_reasons.specs.Pairs.{IsFailedLine, IsFitsLine, IsTestLine, compared_line, cost_fields, counted_line, list_value, pair_fields, truth, way_line}
use Rattle.plan_reasons.specs.PairLists.{AreFailedOfOrder, AreFailedOfWagon, AreFitsLines, AreLaterLines, AreTestLines, IsOwnLine, UnlessNear, counted, fails, stays_line}
use Rattle.plan_reasons.specs.PlaceFields.{place_field}
use Rattle.plan_reasons.specs.PrintedNumbers.{AreChangeNumbers, AreCountNumbers, AreOrderNumbers, ArePlanNumbers, IsPrinted}
use Rattle.plan_reasons.specs.WhyText.{AreLastFields, IsOrderLine, IsWagonLine, change_fields, count_fields, exact_value, further_value, missed_in_all, number_value, order_fields, plan_fields, problem_fields, why_line}
use Rattle.plan_reasons.proofs.JsonValues.{arrival_value, decimal_field, exact_shown, further_shown, names_value, optional_value, place_fields, printed_value, text_field, truth_value, value_field}

-- fields behind others
two : (a b : List ℕ) → AreFields a → AreFields b → AreFields (a ++ b)
two a b f g = both_fields a b f g

three : (a b c : List ℕ) → AreFields a → AreFields b → AreFields c → AreFields (a ++ b ++ c)
three a b c f g h = two (a ++ b) c (two a b f g) h

four : (a b c d : List ℕ) → AreFields a → AreFields b → AreFields c → AreFields d → AreFields (a ++ b ++ c ++ d)
four a b c d f g h k = two (a ++ b ++ c) d (three a b c f g h) k

-- an object with fields, whose end stands behind the last of them
closed_behind : (before fields : List ℕ) → IsOpen before → AreFields fields → IsAnObject (before ++ (fields ++ 125 ∷ 10 ∷ []))
closed_behind before fields is are = subst IsAnObject (append_assoc before fields (125 ∷ 10 ∷ [])) (closed (before ++ fields) (with_fields before fields is are))

-- ---- the line of the whole

why_object : (version : ℕ) (problem : ProblemValue) (p : PricedPlan) → IsPrinted version → ArePlanNumbers problem p (missed_in_all p) → IsAnObject (why_line Json version problem p)
unfolding escape_byte
why_object version problem p small are =
    let first = first_field Json (codes "why") (decimal version) in
    let free = field Json (codes "free") (decimal (length problem.wagons)) in
    let orders = field Json (codes "orders") (decimal (length problem.orders)) in
    let cost = field Json (codes "cost") (decimal (certified_cost p)) in
    let go = field Json (codes "go") (decimal (length p.pairs)) in
    let stay = field Json (codes "stay") (decimal (length problem.wagons - length p.pairs)) in
    let miss = field Json (codes "miss") (decimal (missed_in_all p)) in
    let open_first = opened (codes "why") (decimal version) refl (printed_value version small) in
    let open_free = with_fields first free open_first (decimal_field (codes "free") _ refl are.free) in
    let open_all = with_fields (first ++ free) orders open_free (decimal_field (codes "orders") _ refl are.orders) in
    let few : IsPrinted (length problem.wagons - length p.pairs) = let free_few = are.free in omega arith in
    let plan = four cost go stay miss (decimal_field (codes "cost") _ refl are.cost) (decimal_field (codes "go") _ refl are.go) (decimal_field (codes "stay") _ refl few) (decimal_field (codes "miss") _ refl are.miss) in
    closed (problem_fields Json version problem ++ plan_fields Json problem p) (with_fields (problem_fields Json version problem) (plan_fields Json problem p) open_all plan)

-- ---- the lines of orders

order_open : (problem : ProblemValue) (p : PricedPlan) (j : ℕ) → AreOrderNumbers p j → IsOpen (order_fields Json problem p j)
unfolding escape_byte
order_open problem p j are =
    let name = name_at (order_names problem.orders) j in
    let first = first_field Json (codes "order") (quoted Json name) in
    let lacks = field Json (codes "lacks") (decimal (lack_at p.table j)) in
    let gets = field Json (codes "gets") (decimal (serves j p.pairs)) in
    let misses = field Json (codes "misses") (decimal (missed p p.pairs j)) in
    let few : IsPrinted (missed p p.pairs j) = let lacks_few = are.lacks in omega arith in
    let open_first = opened (codes "order") (quoted Json name) refl (text_value name) in
    let open_lacks = with_fields first lacks open_first (decimal_field (codes "lacks") _ refl are.lacks) in
    let open_gets = with_fields (first ++ lacks) gets open_lacks (decimal_field (codes "gets") _ refl are.gets) in
    with_fields (first ++ lacks ++ gets) misses open_gets (decimal_field (codes "misses") _ refl few)

counts_are_fields : (counts : Counts) → AreCountNumbers counts → AreFields (count_fields Json counts)
unfolding escape_byte
counts_are_fields counts are =
    let class = field Json (codes "class") (decimal counts.class) in
    let load = field Json (codes "load") (decimal counts.load) in
    let way = field Json (codes "way") (decimal counts.way) in
    let time = field Json (codes "time") (decimal counts.in_time) in
    let cheaper = field Json (codes "cheaper") (decimal counts.cheaper) in
    let before = four class load way time (decimal_field (codes "class") _ refl are.class) (decimal_field (codes "load") _ refl are.load) (decimal_field (codes "way") _ refl are.way) (decimal_field (codes "time") _ refl are.in_time) in
    two (class ++ load ++ way ++ time) cheaper before (decimal_field (codes "cheaper") _ refl are.cheaper)

further_field : (p : PricedPlan) (j : ℕ) → AreFields (field Json (codes "further") (further_value Json p j))
unfolding escape_byte
further_field p j = value_field (codes "further") (further_value Json p j) refl (further_shown p j)

change_are_fields : (more : Option ℕ) (less : ℕ) (further : Option Further) → AreChangeNumbers more less further → AreFields (change_fields Json more less further)
unfolding escape_byte
change_are_fields more less further are =
    three (field Json (codes "more") (number_value Json more)) (field Json (codes "less") (decimal less)) (field Json (codes "further") (exact_value Json further))
    (value_field (codes "more") _ refl (optional_value more are.costs)) (decimal_field (codes "less") less refl are.saves) (value_field (codes "further") _ refl (exact_shown further are.gives_more))

price_field : (price : ℕ) → IsPrinted price → AreFields (field Json (codes "price") (decimal price))
unfolding escape_byte
price_field price small = decimal_field (codes "price") price refl small

-- the last fields, and the end of the line
with_last : (numbers : Numbers) (p : PricedPlan) (j : ℕ) (before last : List ℕ) → IsOpen before → AreLastFields Json numbers p j last → IsAnObject (before ++ last)
with_last Exact p j before last is are =
    subst (λ text. IsAnObject (before ++ text)) (sym are.text)
    (closed_behind before (change_fields Json are.more are.less are.further) is (change_are_fields are.more are.less are.further are.change_numbers))
with_last Bounds p j before last is are =
    let price = field Json (codes "price") (decimal (slice_index p.v j)) in
    let further = field Json (codes "further") (further_value Json p j) in
    subst (λ text. IsAnObject (before ++ text)) (sym are.text)
    (closed_behind before (price ++ further) is (two price further (price_field (slice_index p.v j) are.price_printed) (further_field p j)))

order_object : (numbers : Numbers) (net : NetworkValue) (problem : ProblemValue) (p : PricedPlan) (j : ℕ) (line : List ℕ) → IsOrderLine Json numbers net problem p j line → IsAnObject line
order_object numbers net problem p j line is =
    let start = order_fields Json problem p j in
    let counts = count_fields Json is.counts in
    subst IsAnObject (sym is.text)
    (with_last numbers p j (start ++ counts) is.last (with_fields start counts (order_open problem p j is.order_numbers) (counts_are_fields is.counts is.count_numbers)) is.last_fields)

-- ---- the lines of wagons

wagon_object : (numbers : Numbers) (net : NetworkValue) (problem : ProblemValue) (p : PricedPlan) (pair : ℕ × ℕ) (line : List ℕ) → IsWagonLine Json numbers net problem p pair line → IsAnObject line
unfolding escape_byte
wagon_object numbers net problem p pair line is =
    let number = name_at (wagon_names problem.wagons) pair.0 in
    let name = name_at (order_names problem.orders) pair.1 in
    let first = first_field Json (codes "wagon") (quoted Json number) in
    let order = field Json (codes "order") (quoted Json name) in
    let km = field Json (codes "km") (decimal (pair_cost p.table pair)) in
    let arrival = field Json (codes "arrival") (quoted Json is.moment) in
    let without = field Json (codes "without") (decimal is.without) in
    let open_first = opened (codes "wagon") (quoted Json number) refl (text_value number) in
    let open_order = with_fields first order open_first (text_field (codes "order") name refl) in
    let open_km = with_fields (first ++ order) km open_order (decimal_field (codes "km") _ refl is.km_printed) in
    let open_arrival = with_fields (first ++ order ++ km) arrival open_km (text_field (codes "arrival") is.moment refl) in
    subst IsAnObject (sym is.text) (closed_behind (first ++ order ++ km ++ arrival) without open_arrival (decimal_field (codes "without") _ refl is.without_printed))

stays_object : (problem : ProblemValue) (i : ℕ) → IsAnObject (stays_line Json problem i)
unfolding escape_byte
stays_object problem i =
    let number = name_at (wagon_names problem.wagons) i in
    closed (first_field Json (codes "stays") (quoted Json number)) (opened (codes "stays") (quoted Json number) refl (text_value number))

own_object : (numbers : Numbers) (net : NetworkValue) (problem : ProblemValue) (p : PricedPlan) (i : ℕ) (found : Option (ℕ × ℕ)) (line : List ℕ) → IsOwnLine Json numbers net problem p i found line → IsAnObject line
own_object numbers net problem p i None line is = subst IsAnObject (sym is) (stays_object problem i)
own_object numbers net problem p i (Some pair) line is = wagon_object numbers net problem p pair line is

-- ---- the lines of pairs

pair_open : (name : List ℕ) (wagon : FreeWagon) (order : Order) → escape name ≡ name → IsOpen (pair_fields Json name wagon order)
unfolding escape_byte
pair_open name wagon order plain =
    with_fields (first_field Json name (quoted Json wagon.number)) (field Json (codes "order") (quoted Json order.id)) (opened name (quoted Json wagon.number) plain (text_value wagon.number)) (text_field (codes "order") order.id refl)

compared_object : (name : List ℕ) (wagon : FreeWagon) (order : Order) (one other : List ℕ × List ℕ) → escape name ≡ name → escape one.0 ≡ one.0 → IsValue one.1 → escape other.0 ≡ other.0 → IsValue other.1 → IsAnObject (compared_line Json name wagon order one other)
compared_object name wagon order one other plain plain_one is_one plain_other is_other =
    let pair = pair_fields Json name wagon order in
    let first = field Json one.0 one.1 in
    let second = field Json other.0 other.1 in
    let open_first = with_fields pair first (pair_open name wagon order plain) (value_field one.0 one.1 plain_one is_one) in
    closed (pair ++ first ++ second) (with_fields (pair ++ first) second open_first (value_field other.0 other.1 plain_other is_other))

way_object : (names : Option (List NamedPlace)) (wagon : FreeWagon) (order : Order) → IsAnObject (way_line Json names wagon order)
unfolding escape_byte
way_object names wagon order =
    let pair = pair_fields Json (codes "way") wagon order in
    let from = place_field Json names (codes "from") (codes "from_name") wagon.place in
    let to = place_field Json names (codes "to") (codes "to_name") order.place in
    let open_from = with_fields pair from (pair_open (codes "way") wagon order refl) (place_fields names (codes "from") (codes "from_name") wagon.place refl refl) in
    closed (pair ++ from ++ to) (with_fields (pair ++ from) to open_from (place_fields names (codes "to") (codes "to_name") order.place refl refl))

test_object : (names : Option (List NamedPlace)) (net : NetworkValue) (at : ℕ) (wagon : FreeWagon) (order : Order) (test : Test) (line : List ℕ) → IsTestLine Json names net at wagon order test line → IsAnObject line
unfolding escape_byte
test_object names net at wagon order Class line is =
    subst IsAnObject (sym is) (compared_object (codes "class") wagon order (codes "has", quoted Json wagon.class) (codes "wants", list_value Json order.classes) refl refl (text_value wagon.class) refl (names_value order.classes))
test_object names net at wagon order Load line is =
    subst IsAnObject (sym is.text) (compared_object (codes "load") wagon order (codes "has", decimal wagon.load_limit) (codes "wants", decimal order.load) refl refl (printed_value wagon.load_limit is.limit_printed) refl (printed_value order.load is.load_printed))
test_object names net at wagon order Way line is = subst IsAnObject (sym is) (way_object names wagon order)
test_object names net at wagon order InTime line is =
    subst IsAnObject (sym is.text) (compared_object (codes "late") wagon order (codes "arrival", is.arrival) (codes "latest", quoted Json is.latest) refl refl (arrival_value _ is.arrival is.arrives) refl (text_value is.latest))
test_object names net at wagon order Cheaper line is =
    subst IsAnObject (sym is.text) (compared_object (codes "costly") wagon order (codes "km", decimal is.km) (codes "penalty", decimal order.penalty) refl refl (printed_value is.km is.km_printed) refl (printed_value order.penalty is.penalty_printed))

fits_object : (numbers : Numbers) (net : NetworkValue) (problem : ProblemValue) (p : PricedPlan) (fit : Fit) (line : List ℕ) → IsFitsLine Json numbers net problem p fit line → IsAnObject line
unfolding escape_byte
fits_object numbers net problem p fit line is =
    let pair = pair_fields Json (codes "fits") is.wagon is.wanted.order in
    let km = field Json (codes "km") (decimal (pair_cost p.table fit.pair)) in
    let more = field Json (codes "more") (decimal fit.more) in
    let has = has_pair p.pairs fit.pair.0 fit.pair.1 in
    let planned = field Json (codes "planned") (truth has) in
    let costs = three km more planned (decimal_field (codes "km") _ refl is.km_printed) (decimal_field (codes "more") _ refl is.more_printed) (value_field (codes "planned") (truth has) refl (truth_value has)) in
    subst IsAnObject (sym is.text) (closed (pair ++ cost_fields Json numbers p fit) (with_fields pair (cost_fields Json numbers p fit) (pair_open (codes "fits") is.wagon is.wanted.order refl) costs))

-- ---- texts

lines_are : {A : Type 0} (IsLine : A → List ℕ → Type 0) (things : List A) (text : List ℕ) → ((x : A) (line : List ℕ) → IsLine x line → IsAnObject line) → AreLines IsLine things text → AreObjects text
lines_are IsLine things text each are = lines_of IsLine things are.lines text each are.each are.whole

-- a heading of JSON has no byte
no_heading : (columns : List ℕ) (lines : ℕ) → heading_over Json columns lines ≡ []
no_heading columns lines = go (lines == 0)
  where
    go : (none : Bool) → (if none then [] else heading Json columns) ≡ []
    go true = refl
    go false = refl

behind_heading : (columns : List ℕ) (lines : ℕ) (text whole : List ℕ) → whole ≡ heading_over Json columns lines ++ text → AreObjects text → AreObjects whole
behind_heading columns lines text whole is are = subst AreObjects (sym (is ∙ ap (λ (t : List ℕ). t ++ text) (no_heading columns lines))) are

pub why_texts_are_json : WhyTextsAreJson
why_texts_are_json numbers version net problem p text is =
    let whole = why_line Json version problem p in
    let orders = lines_are (IsOrderLine Json numbers net problem p) (range_with_len 0 (length problem.orders)) is.orders (order_object numbers net problem p) is.order_lines in
    let wagons = lines_are (IsWagonLine Json numbers net problem p) p.pairs is.wagons (wagon_object numbers net problem p) is.wagon_lines in
    let order_heading = no_heading (order_columns numbers) (length problem.orders) in
    let wagon_heading = no_heading wagon_columns (length p.pairs) in
    let bare : text ≡ whole ++ is.orders ++ is.wagons =
    is.whole ∙ (ap (λ (t : List ℕ). whole ++ t ++ is.orders ++ heading_over Json wagon_columns (length p.pairs) ++ is.wagons) order_heading
    ∙ (ap (λ (t : List ℕ). whole ++ [] ++ is.orders ++ t ++ is.wagons) wagon_heading
    ∙ (ap (λ (t : List ℕ). t ++ is.orders ++ [] ++ is.wagons) (append-nil whole) ∙ ap (λ (t : List ℕ). t ++ is.wagons) (append-nil (whole ++ is.orders))))) in
    subst AreObjects (sym bare)
    (both_texts (whole ++ is.orders) is.wagons (both_texts whole is.orders (one_line whole (why_object version problem p is.version_printed is.plan_numbers)) orders) wagons)

fits_are : (numbers : Numbers) (net : NetworkValue) (problem : ProblemValue) (p : PricedPlan) (near : Option ℕ) (pairs : List (ℕ × ℕ)) (text : List ℕ) → AreFitsLines Json numbers net problem p near pairs text → AreObjects text
fits_are numbers net problem p near pairs text is =
    behind_heading fits_columns (length is.shown) is.lines text is.whole (lines_are (IsFitsLine Json numbers net problem p) is.shown is.lines (fits_object numbers net problem p) is.fits_lines)

tests_are : (names : Option (List NamedPlace)) (net : NetworkValue) (problem : ProblemValue) (failed : List Failed) (test : Test) (text : List ℕ) → AreTestLines Json names net problem failed test text → AreObjects text
tests_are names net problem failed test text is =
    behind_heading (test_columns names test) (length (filter (fails test) failed)) is.lines text is.whole
    (lines_are (IsFailedLine Json names net problem) (filter (fails test) failed) is.lines (λ failed line h. test_object names net problem.at h.is_failed.wagon h.is_failed.wanted.order failed.test line h.text) is.test_lines)

later_are : (names : Option (List NamedPlace)) (net : NetworkValue) (problem : ProblemValue) (failed : List Failed) (text : List ℕ) → AreLaterLines Json names net problem failed text → AreObjects text
later_are names net problem failed text is =
    let load = tests_are names net problem failed Load is.load is.load_lines in
    let way = tests_are names net problem failed Way is.way is.way_lines in
    let late = tests_are names net problem failed InTime is.late is.late_lines in
    let costly = tests_are names net problem failed Cheaper is.costly is.costly_lines in
    subst AreObjects (sym is.whole)
    (both_texts (is.load ++ is.way ++ is.late) is.costly (both_texts (is.load ++ is.way) is.late (both_texts is.load is.way load way) late) costly)

counted_object : (count : ℕ) (order : Order) → IsPrinted count → IsAnObject (counted_line Json count order)
unfolding escape_byte
counted_object count order few =
    let first = first_field Json (codes "class") (decimal count) in
    let name = field Json (codes "order") (quoted Json order.id) in
    let wants = field Json (codes "wants") (list_value Json order.classes) in
    let open_first = opened (codes "class") (decimal count) refl (printed_value count few) in
    let open_name = with_fields first name open_first (text_field (codes "order") order.id refl) in
    closed (first ++ name ++ wants) (with_fields (first ++ name) wants open_name (value_field (codes "wants") (list_value Json order.classes) refl (names_value order.classes)))

counted_are : (count : ℕ) (order : Order) (rest : List ℕ) → IsPrinted count → AreObjects rest → AreObjects (counted Json count order ++ rest)
counted_are count order rest few are = go (count == 0)
  where
    go : (none : Bool) → AreObjects ((if none then [] else heading Json counted_columns ++ counted_line Json count order) ++ rest)
    go true = are
    go false = both_texts (counted_line Json count order) rest (one_line (counted_line Json count order) (counted_object count order few)) are

-- what is said of the pairs that fail a test, unless only the nearest are asked for
unless_near : (near : Option ℕ) (AreTheirs : List ℕ → Type 0) (before text : List ℕ) → ((text : List ℕ) → AreTheirs text → AreObjects text) → AreObjects before → UnlessNear near AreTheirs text → AreObjects (before ++ text)
unless_near None AreTheirs before text each first is = both_texts before text first (each text is)
unless_near (Some count) AreTheirs before text each first is = subst AreObjects (sym (ap (λ (t : List ℕ). before ++ t) is ∙ append-nil before)) first

pub order_texts_are_json : OrderTextsAreJson
order_texts_are_json numbers names near net problem p j text is =
    let own = one_line is.own (order_object numbers net problem p j is.own is.line) in
    let fits = fits_are numbers net problem p near _ is.fitting is.fits_lines in
    subst AreObjects (sym is.whole)
    (unless_near near (AreFailedOfOrder Json names net problem p.table j) (is.own ++ is.fitting) is.failing
    (λ text are. subst AreObjects (sym are.whole) (counted_are (length (filter (fails Class) are.failed)) are.wanted.order are.later are.count_printed (later_are names net problem are.failed are.later are.later_lines)))
    (both_texts is.own is.fitting own fits) is.failed_lines)

pub wagon_texts_are_json : WagonTextsAreJson
wagon_texts_are_json numbers names near net problem p i text is =
    let own = one_line is.own (own_object numbers net problem p i _ is.own is.line) in
    let fits = fits_are numbers net problem p near _ is.fitting is.fits_lines in
    subst AreObjects (sym is.whole)
    (unless_near near (AreFailedOfWagon Json names net problem p.table i) (is.own ++ is.fitting) is.failing
    (λ text are. subst AreObjects (sym are.whole) (both_texts are.class are.later (tests_are names net problem are.failed Class are.class are.class_lines) (later_are names net problem are.failed are.later are.later_lines)))
    (both_texts is.own is.fitting own fits) is.failed_lines)
