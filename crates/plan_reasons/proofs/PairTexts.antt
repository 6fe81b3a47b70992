-- Lists of pairs, and their lines from their parts.
use denote.Param.Members.{Mut}
use denote.Ref.{Bor}
use Rattle.std.proofs.Common.{◌≡◌, ◌<◌, ℕ, Bool, true, false, cond, Option, Some, None, List, [], ◌∷◌, ◌++◌, length, map, refl, sym, ap, ◌∙◌, subst, append_assoc, append-nil, arith}
use Rattle.std.specs.Prelude.{◌==◌, All, not, slice_get, unwrap_or}
use Rattle.std.specs.List.{filter, find, range_with_len}
use Rattle.std.specs.List.Sorted.{IsPermutation, IsSortedByKey, IsStableByKey}
use Rattle.std.specs.Ordering.{nat_cmp}
use Rattle.std.specs.Fn.{Called, ComputesKey}
use Rattle.std.proofs.lemmas.Fn.{always_returns_same}
use Rattle.std.proofs.lemmas.List.Elements.{All-filter, All-take, filter_passes}
use Rattle.std.proofs.lemmas.List.FromFn.{get_or-map-range_with_len, length-map-range_with_len}
use Rattle.std.proofs.lemmas.List.Sorted.{IsNonDecreasingBy-from_sort}
use Rattle.line_network.specs.Network.{NetworkValue}
use Rattle.place_names.specs.declared.named_place.NamedPlace.{NamedPlace}
use Rattle.cost_table.specs.Problem.{ProblemValue}
use Rattle.cost_table.specs.Table.{Table}
use Rattle.cost_table.specs.Plan.{AllAllowed, IsAllowed}
use Rattle.plan_bounds.specs.PricedPlan.{PricedPlan}
use Rattle.reply_texts.specs.Lines.{Adds, AreLines}
use Rattle.plan_reasons.specs.declared.fit.Fit.{Fit}
use Rattle.plan_reasons.specs.declared.numbers.Numbers.{Numbers}
use Rattle.plan_reasons.specs.declared.style.Style.{Style}
use Rattle.plan_reasons.specs.CertifiedPlan.{CertifiedPlanValue}
use Rattle.plan_reasons.specs.WhyText.{IsOrderLine, IsWagonLine}
use Rattle.move_messages.specs.Order.{Order}
use Rattle.wagons_and_orders.specs.Wanted.{WantedOrder}
use Rattle.plan_reasons.specs.declared.failed.Failed.{Failed}
use Rattle.plan_reasons.specs.declared.reasons.Test.{Test}
use Rattle.plan_reasons.specs.declared.reasons.Test.TheVariants.{Class, Load, Way, InTime, Cheaper}
use Rattle.plan_reasons.specs.Headings.{fits_columns, heading, heading_over, order_columns, test_columns}
use Rattle.plan_reasons.specs.PrintedNumbers.{IsPrinted}
use Rattle.plan_reasons.specs.Pairs.{IsFailedLine, IsFitsLine}
use Rattle.plan_reasons.specs.PairLists.{AreByMore, AreFailed, AreFailedOfOrder, AreFailedOfWagon, AreFitsLines, AreLaterLines, AreNearest, AreTestLines, IsOrderText, IsOwnLine, IsWagonText, UnlessNear, counted, fails, nearest, own_columns, pairs_of_order, pairs_of_wagon, passes_all, stays_line}
use Rattle.plan_reasons.specs.inner.AddedPairs.{IsFailing, IsFitting, IsFoundFailed, IsFoundFit, IsPairOf}
use Rattle.plan_reasons.proofs.PairFields.{four_parts}

-- ---- what holds of each pair

not_true : (b : Bool) → not b ≡ true → b ≡ false
not_true true h = absurd cc
not_true false h = refl

module _ (planned : CertifiedPlanValue) (pairs : List (ℕ × ℕ)) (all : All (IsPairOf planned.problem) pairs) where
  pub all_passing : All (IsFitting planned) (filter (passes_all planned.priced.table) pairs)
  all_passing k d lt =
      (All-filter (passes_all planned.priced.table) (IsPairOf planned.problem) pairs all k d lt, filter_passes (passes_all planned.priced.table) pairs k d lt)

  pub all_failing : All (IsFailing planned) (filter (λ pair. not (passes_all planned.priced.table pair)) pairs)
  all_failing k d lt =
      let fails = λ (pair : ℕ × ℕ). not (passes_all planned.priced.table pair) in
      let inside = All-filter fails (IsPairOf planned.problem) pairs all k d lt in
      (inside, not_true _ (filter_passes fails pairs k d lt))

pub all_of_range : (P : ℕ × ℕ → Type 0) (pair_at : ℕ → ℕ × ℕ) (n : ℕ) → ((k : ℕ) → k < n → P (pair_at k)) → All P (map pair_at (range_with_len 0 n))
all_of_range P pair_at n each k d lt =
    let here : k < n = omega (arith, lt, length-map-range_with_len pair_at 0 n) in
    subst P (sym (get_or-map-range_with_len pair_at 0 n k k d here (omega arith))) (each k here)

found_first : {A : Type 0} (P : A → Type 0) (test : Bool) (x found : A) (rest : Option A) → P x → (rest ≡ Some found → P found) → cond test (Some x) rest ≡ Some found → P found
found_first P true x found rest here later is = subst P (ap (λ (o : Option _). unwrap_or o x) is) here
found_first P false x found rest here later is = later is

-- a pair that is found in a plan is allowed
pub found_allowed : (t : Table) (test : ℕ × ℕ → Bool) (pairs : List (ℕ × ℕ)) (pair : ℕ × ℕ) → AllAllowed t pairs → find test pairs ≡ Some pair → IsAllowed t pair
found_allowed t test [] pair allowed is = absurd cc
found_allowed t test (q ∷ pairs) pair allowed is = found_first (IsAllowed t) (test q) q pair (find test pairs) allowed.0 (found_allowed t test pairs pair allowed.1) is

-- ---- pairs in order

-- what a stable sort by what plans with a pair cost more makes of those that are found
pub by_more : {F : Type 0} {g : Mut F (Bor Fit × Unit {0}) ℕ} {f : F} (numbers : Numbers) (planned : CertifiedPlanValue) (pairs : List (ℕ × ℕ)) (before after : List Fit)
    → map (λ fit. fit.pair) before ≡ filter (passes_all planned.priced.table) pairs → All (IsFoundFit numbers planned) before → IsPermutation before after
    → ((key : Fit → ℕ) → ComputesKey g key f → IsSortedByKey key nat_cmp after) → ((key : Fit → ℕ) → ComputesKey g key f → IsStableByKey key nat_cmp before after)
    → ((a : Bor Fit × Unit {0}) (r : ℕ) (f' : F) → Called g f a r f' → (r ≡ a.0.now.more) × (f' ≡ f)) → AreByMore numbers planned.priced pairs after
by_more {g = g} {f = f} numbers planned pairs before after are all same sorted stable each =
    let keys = always_returns_same g (λ a r. r ≡ a.0.now.more) f each in
    let key = λ (fit : Fit). fit.more in
    record {
      found = before;
      are_found = record { of_pairs = are; each = λ k d lt. (all k d lt).1 };
      same = same;
      ascending = IsNonDecreasingBy-from_sort key after (sorted key keys);
      as_listed = stable key keys;
    }

-- the first of those that are so are so
pub nearest_all : (P : Fit → Type 0) (near : Option ℕ) (fits : List Fit) → All P fits → All P (nearest near fits)
nearest_all P None fits all = all
nearest_all P (Some count) fits all = All-take P count fits all

-- ---- lines

-- a heading, and lines behind it
headed : (style : Style) (columns own : List ℕ) (n m : ℕ) (old a b lines : List ℕ) → n ≡ m → columns ≡ own → a ≡ old ++ heading_over style columns n → b ≡ a ++ lines → b ≡ old ++ (heading_over style own m ++ lines)
headed style columns own n m old a b lines count named first second =
    second ∙ ap (λ (t : List ℕ). t ++ lines) (first ∙ (ap (λ (c : List ℕ). old ++ heading_over style c n) named ∙ ap (λ (k : ℕ). old ++ heading_over style own k) count)) ∙ append_assoc old (heading_over style own m) lines

module _ (style : Style) (numbers : Numbers) (net : NetworkValue) (problem : ProblemValue) (p : PricedPlan) (near : Option ℕ) (pairs : List (ℕ × ℕ)) where
  pub fits_text : (shown listed : List Fit) (n : ℕ) (columns old a b : List ℕ) → AreNearest numbers p near pairs shown → n ≡ length shown → columns ≡ fits_columns → listed ≡ shown
      → a ≡ old ++ heading_over style columns n → Adds (AreLines (IsFitsLine style numbers net problem p) listed) a b → Adds (AreFitsLines style numbers net problem p near pairs) old b
  fits_text shown listed n columns old a b are count named same first second = record {
    added = heading_over style fits_columns (length shown) ++ second.added;
    is = record {
      shown = shown;
      are_nearest = are;
      lines = second.added;
      fits_lines = subst (λ (xs : List Fit). AreLines (IsFitsLine style numbers net problem p) xs second.added) same second.is;
      whole = refl;
    };
    whole = headed style columns fits_columns n (length shown) old a b second.added count named first second.whole;
  }

-- those that fail one test are among those that fail one
pub all_of_test : (planned : CertifiedPlanValue) (test : Test) (failed : List Failed) → All (IsFoundFailed planned) failed → All (IsFoundFailed planned) (filter (fails test) failed)
all_of_test planned test failed all = All-filter (fails test) (IsFoundFailed planned) failed all

module _ (style : Style) (names : Option (List NamedPlace)) (net : NetworkValue) (problem : ProblemValue) (failed : List Failed) where
  pub test_text : (test : Test) (found listed : List Failed) (n : ℕ) (columns old a b : List ℕ) → found ≡ filter (fails test) failed → n ≡ length found → columns ≡ test_columns names test → listed ≡ found
      → a ≡ old ++ heading_over style columns n → Adds (AreLines (IsFailedLine style names net problem) listed) a b → Adds (AreTestLines style names net problem failed test) old b
  test_text test found listed n columns old a b are count named same first second = record {
    added = heading_over style (test_columns names test) (length (filter (fails test) failed)) ++ second.added;
    is = record {
      lines = second.added;
      test_lines = subst (λ (xs : List Failed). AreLines (IsFailedLine style names net problem) xs second.added) (same ∙ are) second.is;
      whole = refl;
    };
    whole = headed style columns (test_columns names test) n (length (filter (fails test) failed)) old a b second.added (count ∙ ap (λ (xs : List Failed). length xs) are) named first second.whole;
  }

  pub later_text : (old a b c d : List ℕ) → Adds (AreTestLines style names net problem failed Load) old a → Adds (AreTestLines style names net problem failed Way) a b
      → Adds (AreTestLines style names net problem failed InTime) b c → Adds (AreTestLines style names net problem failed Cheaper) c d → Adds (AreLaterLines style names net problem failed) old d
  later_text old a b c d load way late costly = record {
    added = load.added ++ way.added ++ late.added ++ costly.added;
    is = record {
      load = load.added;
      load_lines = load.is;
      way = way.added;
      way_lines = way.is;
      late = late.added;
      late_lines = late.is;
      costly = costly.added;
      costly_lines = costly.is;
      whole = refl;
    };
    whole = four_parts old load.added way.added late.added costly.added a b c d load.whole way.whole late.whole costly.whole;
  }

  pub of_order_text : (t : Table) (j n : ℕ) (wanted : WantedOrder) (order : Order) (pairs : List (ℕ × ℕ)) (read listed others : List Failed) (old a b : List ℕ) → slice_get problem.orders j ≡ Some wanted → order ≡ wanted.order
      → pairs ≡ pairs_of_order problem j → AreFailed net problem t pairs failed → others ≡ filter (fails Class) read → read ≡ failed → listed ≡ failed → n ≡ length others → IsPrinted n
      → a ≡ old ++ counted style n order → Adds (AreLaterLines style names net problem listed) a b → Adds (AreFailedOfOrder style names net problem t j) old b
  of_order_text t j n wanted order pairs read listed others old a b stands is all are found lent same count few first second =
      let long : n ≡ length (filter (fails Class) failed) = count ∙ (ap (λ (xs : List Failed). length xs) found ∙ ap (λ (xs : List Failed). length (filter (fails Class) xs)) lent) in
      record {
        added = counted style (length (filter (fails Class) failed)) wanted.order ++ second.added;
        is = record {
          wanted = wanted;
          order = stands;
          failed = failed;
          are_failed = subst (λ (ps : List (ℕ × ℕ)). AreFailed net problem t ps failed) all are;
          count_printed = subst IsPrinted long few;
          later = second.added;
          later_lines = subst (λ (xs : List Failed). AreLaterLines style names net problem xs second.added) same second.is;
          whole = refl;
        };
        whole = second.whole ∙ ap (λ (t : List ℕ). t ++ second.added) (first ∙ (ap (λ (k : ℕ). old ++ counted style k order) long ∙ ap (λ (o : Order). old ++ counted style (length (filter (fails Class) failed)) o) is))
            ∙ append_assoc old (counted style (length (filter (fails Class) failed)) wanted.order) second.added;
      }

  pub of_wagon_text : (t : Table) (i : ℕ) (pairs : List (ℕ × ℕ)) (listed others : List Failed) (old a b : List ℕ) → pairs ≡ pairs_of_wagon problem i → AreFailed net problem t pairs failed → listed ≡ failed → others ≡ failed
      → Adds (AreTestLines style names net problem listed Class) old a → Adds (AreLaterLines style names net problem others) a b → Adds (AreFailedOfWagon style names net problem t i) old b
  of_wagon_text t i pairs listed others old a b all are same later first second = record {
    added = first.added ++ second.added;
    is = record {
      failed = failed;
      are_failed = subst (λ (ps : List (ℕ × ℕ)). AreFailed net problem t ps failed) all are;
      class = first.added;
      class_lines = subst (λ (xs : List Failed). AreTestLines style names net problem xs Class first.added) same first.is;
      later = second.added;
      later_lines = subst (λ (xs : List Failed). AreLaterLines style names net problem xs second.added) later second.is;
      whole = refl;
    };
    whole = second.whole ∙ ap (λ (t : List ℕ). t ++ second.added) first.whole ∙ append_assoc old first.added second.added;
  }

-- the pairs of an order, or of a wagon, are of the problem
pub pairs_of_its_order : (problem : ProblemValue) (j : ℕ) (pairs : List (ℕ × ℕ)) → j < length problem.orders → pairs ≡ pairs_of_order problem j → All (IsPairOf problem) pairs
pairs_of_its_order problem j pairs lt is = rw is (all_of_range (IsPairOf problem) (λ (i : ℕ). (i, j)) (length problem.wagons) (λ k m. (m, lt)))

pub pairs_of_its_wagon : (problem : ProblemValue) (i : ℕ) (pairs : List (ℕ × ℕ)) → i < length problem.wagons → pairs ≡ pairs_of_wagon problem i → All (IsPairOf problem) pairs
pairs_of_its_wagon problem i pairs lt is = rw is (all_of_range (IsPairOf problem) (λ (j : ℕ). (i, j)) (length problem.orders) (λ k m. (lt, m)))

-- nothing is added where only the nearest pairs are asked for
pub nothing_near : (near : Option ℕ) (count : ℕ) (AreTheirs : List ℕ → Type 0) (text : List ℕ) → near ≡ Some count → Adds (UnlessNear near AreTheirs) text text
nothing_near near count AreTheirs text is = record { added = []; is = subst (λ (n : Option ℕ). UnlessNear n AreTheirs []) (sym is) refl; whole = sym (append-nil text) }

pub all_near : (near : Option ℕ) (AreTheirs : List ℕ → Type 0) (old new : List ℕ) → near ≡ None → Adds AreTheirs old new → Adds (UnlessNear near AreTheirs) old new
all_near near AreTheirs old new is adds = record { added = adds.added; is = subst (λ (n : Option ℕ). UnlessNear n AreTheirs adds.added) (sym is) adds.is; whole = adds.whole }

-- ---- the texts

four_of : (old head own fitting failing a b c d : List ℕ) → old ≡ [] → a ≡ old ++ head → b ≡ a ++ own → c ≡ b ++ fitting → d ≡ c ++ failing → d ≡ head ++ own ++ fitting ++ failing
four_of old head own fitting failing a b c d empty first second third fourth =
    fourth ∙ ap (λ (t : List ℕ). t ++ failing) (third ∙ ap (λ (t : List ℕ). t ++ fitting) (second ∙ ap (λ (t : List ℕ). t ++ own) (first ∙ ap (λ (t : List ℕ). t ++ head) empty)))

module _ (style : Style) (numbers : Numbers) (names : Option (List NamedPlace)) (near : Option ℕ) (net : NetworkValue) (problem : ProblemValue) (p : PricedPlan) (pairs : List (ℕ × ℕ)) (columns old a b c d : List ℕ) (empty : old ≡ []) (head : a ≡ old ++ heading style columns)
    (fits : Adds (AreFitsLines style numbers net problem p near pairs) b c) where
  pub text_of_order : (j : ℕ) → pairs ≡ pairs_of_order problem j → columns ≡ order_columns numbers → Adds (IsOrderLine style numbers net problem p j) a b → Adds (UnlessNear near (AreFailedOfOrder style names net problem p.table j)) c d
      → IsOrderText style numbers names near net problem p j d
  text_of_order j all named own failed = record {
    own = own.added;
    line = own.is;
    fitting = fits.added;
    fits_lines = subst (λ (xs : List (ℕ × ℕ)). AreFitsLines style numbers net problem p near xs fits.added) all fits.is;
    failing = failed.added;
    failed_lines = failed.is;
    whole = four_of old (heading style (order_columns numbers)) own.added fits.added failed.added a b c d empty (head ∙ ap (λ (t : List ℕ). old ++ heading style t) named) own.whole fits.whole failed.whole;
  }

  pub text_of_wagon : (i : ℕ) → pairs ≡ pairs_of_wagon problem i → columns ≡ own_columns (find (λ pair. pair.0 == i) p.pairs) → Adds (IsOwnLine style numbers net problem p i (find (λ pair. pair.0 == i) p.pairs)) a b
      → Adds (UnlessNear near (AreFailedOfWagon style names net problem p.table i)) c d → IsWagonText style numbers names near net problem p i d
  text_of_wagon i all named own failed = record {
    own = own.added;
    line = own.is;
    fitting = fits.added;
    fits_lines = subst (λ (xs : List (ℕ × ℕ)). AreFitsLines style numbers net problem p near xs fits.added) all fits.is;
    failing = failed.added;
    failed_lines = failed.is;
    whole = four_of old (heading style (own_columns (find (λ pair. pair.0 == i) p.pairs))) own.added fits.added failed.added a b c d empty (head ∙ ap (λ (t : List ℕ). old ++ heading style t) named) own.whole fits.whole failed.whole;
  }

-- ---- a wagon's own line

module _ (style : Style) (numbers : Numbers) (net : NetworkValue) (problem : ProblemValue) (p : PricedPlan) (i : ℕ) (found : Option (ℕ × ℕ)) (old new : List ℕ) where
  pub goes_line : (pair : ℕ × ℕ) → Some pair ≡ found → Adds (IsWagonLine style numbers net problem p pair) old new → Adds (IsOwnLine style numbers net problem p i found) old new
  goes_line pair is adds = record { added = adds.added; is = subst (λ (o : Option (ℕ × ℕ)). IsOwnLine style numbers net problem p i o adds.added) is adds.is; whole = adds.whole }

  pub stays_there : None ≡ found → new ≡ old ++ stays_line style problem i → Adds (IsOwnLine style numbers net problem p i found) old new
  stays_there is adds = record { added = stays_line style problem i; is = subst (λ (o : Option (ℕ × ℕ)). IsOwnLine style numbers net problem p i o (stays_line style problem i)) is refl; whole = adds }
