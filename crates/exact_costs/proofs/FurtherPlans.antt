-- What the best plan of the table in which an order lacks one wagon more than it gets, at the greatest penalty, says of the plans that
-- give the order more.
use Rattle.std.proofs.Common.{◌≡◌, ◌∙◌, ◌+◌, ◌-◌, ◌*◌, ◌<◌, ◌≤◌, ℕ, ap, arith, subst, sym}
use Rattle.std.specs.Prelude.{slice_index}
use Rattle.std.proofs.lemmas.List.{get_or-set_same}
use Rattle.cost_table.specs.Table.{Table, lack_at, order_count, penalty_at}
use Rattle.cost_table.specs.TableLimits.{IsTable, max_cost}
use Rattle.cost_table.specs.Plan.{cost_of, serves}
use Rattle.price_checker.proofs.Duality.{certificates_optimal}
use Rattle.plan_bounds.specs.PricedPlan.{IsCertified, PricedPlan, certified_cost}
use Rattle.plan_bounds.specs.Slack.{refusal_slack}
use Rattle.plan_bounds.specs.Bounds.{CostsMore, ServesMore}
use Rattle.plan_bounds.proofs.OtherPlans.{certified_has_no_slack}
use Rattle.exact_costs.specs.LeastCosts.{BestCostsMore, IsLeastOver}
use Rattle.exact_costs.specs.FurtherCosts.{IsOver}
use Rattle.exact_costs.specs.inner.Certified.{IsCertifiedGiving}
use Rattle.exact_costs.specs.inner.Changed.{with_wanted}
use Rattle.exact_costs.specs.inner.Further.{HasNewPair}
use Rattle.exact_costs.proofs.Best.{no_less, rest_of}
use Rattle.exact_costs.proofs.MoreWagons.{some_gives_more}
use Rattle.exact_costs.proofs.Sums.{less_times}
use Rattle.exact_costs.proofs.Wanted.{from_wanted, orders_of_wanted, wanted_cost, wanted_pays}

-- ---- numbers

over_parts : (p x y : ℕ) → p * (x + y) ≡ p * x + p * y
over_parts p x y = omega arith

parts_over : (p x y : ℕ) → (x + y) * p ≡ x * p + y * p
parts_over p x y = omega arith

-- at a price no less than the penalty, it pays no order to get fewer
pays_more : (v p a b l : ℕ) → p ≤ v → a ≤ b → b ≤ l → a * v + p * (l - a) ≤ b * v + p * (l - b)
pays_more v p a b l le within fits =
    let more : b ≡ a + (b - a) = omega (arith, within) in
    let served : b * v ≡ a * v + (b - a) * v = ap (λ (n : ℕ). n * v) more ∙ parts_over v a (b - a) in
    let left : l - a ≡ (l - b) + (b - a) = omega (arith, within, fits) in
    let missing : p * (l - a) ≡ p * (l - b) + p * (b - a) = ap (λ (n : ℕ). p * n) left ∙ over_parts p (l - b) (b - a) in
    let rise : (b - a) * p ≤ (b - a) * v = less_times (b - a) p v le in
    let turn : p * (b - a) ≡ (b - a) * p = grind arith in
    omega (arith, served, missing, rise, turn)

-- a plan that gives one wagon less, and costs no more than one of these prices, shows that the price is no less than the penalty
price_is_high : (v p l g n cost : ℕ) → g < l → n + g * v + p * (l - g) ≤ cost + (g + 1) * v → cost ≤ n + p * (l - (g + 1)) → p ≤ v
price_is_high v p l g n cost less pays no_more =
    let left : l - g ≡ (l - (g + 1)) + 1 = omega (arith, less) in
    let missing : p * (l - g) ≡ p * (l - (g + 1)) + p = ap (λ (n : ℕ). p * n) left ∙ (over_parts p (l - (g + 1)) 1 ∙ omega arith) in
    let one : (g + 1) * v ≡ g * v + v = omega arith in
    omega (arith, pays, no_more, missing, one)

-- what it costs to refuse a wagon at the greatest penalty
refused : (p m l w s : ℕ) → p ≤ m → s < w → w ≤ l → p * (l - s) + (m - p) ≤ p * (l - w) + m * (w - s)
refused p m l w s le less fits =
    let left : l - s ≡ (l - w) + (w - s) = omega (arith, less, fits) in
    let missing : p * (l - s) ≡ p * (l - w) + p * (w - s) = ap (λ (n : ℕ). p * n) left ∙ over_parts p (l - w) (w - s) in
    let whole : m ≡ p + (m - p) = omega (arith, le) in
    let dear : m * (w - s) ≡ p * (w - s) + (m - p) * (w - s) = ap (λ (n : ℕ). n * (w - s)) whole ∙ parts_over (w - s) p (m - p) in
    let some : (m - p) * 1 ≤ (m - p) * (w - s) = less_times (m - p) 1 (w - s) (omega (arith, less)) in
    omega (arith, missing, dear, some)

-- ---- what is planned

-- the certified plan gives order j fewer wagons than it lacks, and the changed table's best plan costs n and gives it so many
pub record IsAsked (p : PricedPlan) (j n given : ℕ) : Type 0 where
  pub certified : IsCertified p
  pub table : IsTable p.table
  pub order : j < order_count p.table
  pub misses : serves j p.pairs < lack_at p.table j
  pub best : IsCertifiedGiving (with_wanted p.table j (serves j p.pairs + 1)) j n given

-- the same where a call answers how many it lacks then, and made the table of the plan as it is kept
pub asked : (q p : PricedPlan) → IsCertified p → q ≡ p → (j n given wanted : ℕ) (changed : Table) → wanted ≡ serves j q.pairs + 1 → IsTable q.table → j < order_count p.table → serves j p.pairs < lack_at p.table j
    → changed ≡ with_wanted q.table j wanted → IsCertifiedGiving changed j n given → IsAsked p j n given
asked q p certified view j n given wanted changed is table order misses made best = record {
  certified = certified;
  table = subst (λ (p : PricedPlan). IsTable p.table) view table;
  order = order;
  misses = misses;
  best = subst (λ (p : PricedPlan). IsCertifiedGiving (with_wanted p.table j (serves j p.pairs + 1)) j n given) view
      (subst (λ (wanted : ℕ). IsCertifiedGiving (with_wanted q.table j wanted) j n given) is (subst (λ (t : Table). IsCertifiedGiving t j n given) made best));
}

-- it gives the order no more than it lacks there
no_more_given : (p : PricedPlan) (j n given : ℕ) → IsAsked p j n given → given ≤ serves j p.pairs + 1
no_more_given p j n given a =
    let order = a.order in
    let within = a.best.certificate.plan.within j (omega (arith, order, orders_of_wanted p.table j (serves j p.pairs + 1))) in
    let lack : lack_at (with_wanted p.table j (serves j p.pairs + 1)) j ≡ serves j p.pairs + 1 = get_or-set_same p.table.lacks j (serves j p.pairs + 1) 0 order in
    let gives = a.best.gives in
    omega (arith, within, lack, gives)

-- ---- it gives the order one wagon more

exactly_over : (p : PricedPlan) (j n given : ℕ) → IsAsked p j n given → given ≡ serves j p.pairs + 1
    → IsLeastOver p.table (ServesMore p j) (n + penalty_at p.table j * (lack_at p.table j - (serves j p.pairs + 1)))
exactly_over p j n given a all =
    let t = p.table in
    let g = serves j p.pairs in
    let l = lack_at t j in
    let q = penalty_at t j in
    let b = a.best in
    let v = slice_index b.v j in
    let misses = a.misses in
    let costs = b.cost in
    let plan = from_wanted t j (g + 1) b.pairs a.order b.certificate.plan (omega (arith, misses)) in
    let gives : serves j b.pairs ≡ g + 1 = b.gives ∙ all in
    let cost = wanted_cost t j (g + 1) b.pairs a.order a.table.penalty_count in
    let missing : q * (l - serves j b.pairs) ≡ q * (l - (g + 1)) = ap (λ (k : ℕ). q * (l - k)) gives in
    let none : (g + 1) - serves j b.pairs ≡ 0 = omega (arith, gives) in
    let nothing : max_cost * ((g + 1) - serves j b.pairs) ≡ 0 = ap (λ (m : ℕ). max_cost * m) none in
    let whole : cost_of t b.pairs ≡ n + q * (l - (g + 1)) = omega (arith, cost, missing, nothing, costs) in
    let best = (certificates_optimal t p.pairs p.u p.v a.certified).1 b.pairs plan in
    let own = wanted_pays t j (g + 1) b.pairs b.u b.v a.order a.table.penalty_count b.certificate p.pairs a.certified.plan in
    let high : q ≤ v = price_is_high v q l g n (cost_of t p.pairs) misses (omega (arith, own, costs)) (omega (arith, best, whole)) in
    record {
      plan = b.pairs;
      of_table = plan;
      is_so = omega (arith, gives);
      costs = whole;
      least = λ other is_plan more.
          let pays = wanted_pays t j (g + 1) b.pairs b.u b.v a.order a.table.penalty_count b.certificate other is_plan in
          let rise = pays_more v q (g + 1) (serves j other) l high (omega (arith, more)) (is_plan.within j a.order) in
          omega (arith, pays, rise, costs);
    }

pub record IsExactly (p : PricedPlan) (j n cost : ℕ) : Type 0 where
  pub no_less : cost ≤ n
  pub best : BestCostsMore p (ServesMore p j) (n - cost)

exactly_by : (p : PricedPlan) → IsCertified p → (j n cost : ℕ) → cost ≡ certified_cost p → IsLeastOver p.table (ServesMore p j) n → IsExactly p j n cost
exactly_by p c j n cost e least =
    let le = no_less p c (ServesMore p j) n least in
    record { no_less = omega (arith, e, le); best = rest_of p p.table (ServesMore p j) n cost e le least }

-- the same of a number that calls answer
pub exactly : (p : PricedPlan) (j n given cost lack wanted penalty km : ℕ) → IsAsked p j n given → cost ≡ certified_cost p → wanted ≡ serves j p.pairs + 1 → wanted ≤ given
    → lack ≡ lack_at p.table j → penalty ≡ penalty_at p.table j → km ≡ n + penalty * (lack - wanted) → IsExactly p j km cost
exactly p j n given cost lack wanted penalty km a e w all is_lack is_penalty is =
    let within = no_more_given p j n given a in
    let least = exactly_over p j n given a (omega (arith, w, all, within)) in
    let same : n + penalty_at p.table j * (lack_at p.table j - (serves j p.pairs + 1)) ≡ km =
    sym (is ∙ (ap (λ (q : ℕ). n + q * (lack - wanted)) is_penalty ∙ (ap (λ (l : ℕ). n + penalty_at p.table j * (l - wanted)) is_lack ∙ ap (λ (w : ℕ). n + penalty_at p.table j * (lack_at p.table j - w)) w))) in
    exactly_by p a.certified j km cost e (subst (IsLeastOver p.table (ServesMore p j)) same least)

-- ---- it refuses the order a wagon

over_each : (p : PricedPlan) (j n given : ℕ) → IsAsked p j n given → given < serves j p.pairs + 1 → CostsMore p (ServesMore p j) (max_cost - penalty_at p.table j)
over_each p j n given a fewer = λ other is_plan more.
    let t = p.table in
    let g = serves j p.pairs in
    let l = lack_at t j in
    let q = penalty_at t j in
    let b = a.best in
    let s = serves j b.pairs in
    let w = g + 1 in
    let v = slice_index b.v j in
    let misses = a.misses in
    let costs = b.cost in
    let gives = b.gives in
    let count = a.table.penalty_count in
    let order = a.order in
    let few : s < w = omega (arith, gives, fewer) in
    let fits : w ≤ l = omega (arith, misses) in
    let limit : q ≤ max_cost = a.table.penalties j 0 (omega (arith, order, count)) in
    let r : PricedPlan = record { table = with_wanted t j w; pairs = b.pairs; u = b.u; v = b.v } in
    let lack : lack_at (with_wanted t j w) j ≡ w = get_or-set_same t.lacks j w 0 order in
    let price : penalty_at (with_wanted t j w) j ≡ max_cost = get_or-set_same t.penalties j max_cost 0 (omega (arith, order, count)) in
    let none : refusal_slack r j ≡ 0 = (certified_has_no_slack r b.certificate).misses j (omega (arith, order, orders_of_wanted t j w)) (omega (arith, lack, few)) in
    let high : max_cost ≤ v = omega (arith, none, price) in
    let plan = from_wanted t j w b.pairs order b.certificate.plan fits in
    let cost = wanted_cost t j w b.pairs order count in
    let best = (certificates_optimal t p.pairs p.u p.v a.certified).1 b.pairs plan in
    let pays = wanted_pays t j w b.pairs b.u b.v order count b.certificate other is_plan in
    let rise = pays_more v q w (serves j other) l (omega (arith, high, limit)) (omega (arith, more)) (is_plan.within j order) in
    let lost = refused q max_cost l w s limit few fits in
    omega (arith, pays, rise, costs, cost, best, lost)

pub over : (p : PricedPlan) (j n given wanted penalty km : ℕ) → IsAsked p j n given → wanted ≡ serves j p.pairs + 1 → given < wanted → penalty ≡ penalty_at p.table j → km ≡ max_cost - penalty → HasNewPair p j → IsOver p j km
over p j n given wanted penalty km a w fewer is_penalty is new =
    let same : km ≡ max_cost - penalty_at p.table j = is ∙ ap (λ (q : ℕ). max_cost - q) is_penalty in
    let some = some_gives_more p j a.certified.plan a.misses new in
    record {
      km_is = same;
      each = subst (CostsMore p (ServesMore p j)) (sym same) (over_each p j n given a (omega (arith, w, fewer)));
      plan = some.plan;
      of_table = some.of_table;
      gives_more = some.gives_more;
    }
