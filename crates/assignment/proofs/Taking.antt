-- Units taken in one after the other.
use Rattle.std.proofs.Common.{◌≡◌, ◌∙◌, ◌+◌, ℕ, length, refl, sym, ap, arith, subst}
use Rattle.std.proofs.lemmas.Bool.Decides.{nat_tests}
use Rattle.cost_table.specs.Table.{order_count}
use Rattle.assignment.specs.declared.groups.Groups.{Groups}
use Rattle.assignment.specs.declared.search.Search.{Search}
use Rattle.assignment.specs.declared.state.State.{State}
use Rattle.assignment.specs.inner.Search.{HasRoom}
use Rattle.assignment.specs.inner.State.{AreCounted, IsState, Kept, kept, more}
use Rattle.assignment.specs.inner.Taken.{HasTaken}

counted_none : (s : Kept) (j : ℕ) (taken : ℕ → ℕ) → AreCounted s taken → AreCounted s (more j 0 taken)
counted_none s j taken h = record {
  within = λ k l. let within = h.within k l in grind (arith, nat_tests, within);
  refused = λ k l less. h.refused k l (grind (arith, nat_tests, less));
}

counted_again : (s : Kept) (j units : ℕ) (taken : ℕ → ℕ) → AreCounted s (more j 1 (more j units taken)) → AreCounted s (more j (units + 1) taken)
counted_again s j units taken h = record {
  within = λ k l. let within = h.within k l in grind (arith, nat_tests, within);
  refused = λ k l less. h.refused k l (grind (arith, nat_tests, less));
}

pub HasTaken-none : (state : State) (j : ℕ) → IsState state → HasTaken state state j 0
HasTaken-none state j h = record { state = h; counted = counted_none (kept state) j; table = refl; groups = refl }

-- one unit more
pub HasTaken-more : (before between after : State) (j units : ℕ) → HasTaken before between j units → HasTaken between after j 1 → HasTaken before after j (units + 1)
HasTaken-more before between after j units h one = record {
  state = one.state;
  counted = λ taken counted. counted_again (kept after) j units taken (one.counted (more j units taken) (h.counted taken counted));
  table = one.table ∙ h.table;
  groups = one.groups ∙ h.groups;
}

-- another bound leaves what is taken in
pub HasTaken-same : (before between after : State) (j units : ℕ) → IsState after → after ≡ record between { bound = after.bound; nearest = after.nearest } → HasTaken before between j units → HasTaken before after j units
HasTaken-same before between after j units is same h = record {
  state = is;
  counted = λ taken counted. subst (λ (s : Kept). AreCounted s (more j units taken)) (sym (ap kept same)) (h.counted taken counted);
  table = ap (λ (x : State). x.cells.now) same ∙ h.table;
  groups = ap (λ (x : State). x.groups) same ∙ h.groups;
}

-- there is room for a search still
pub room_kept : (state state' : State) (f : Search) → state'.cells.now ≡ state.cells.now → state'.groups ≡ state.groups → HasRoom (kept state) f → HasRoom (kept state') f
room_kept state state' f table groups h =
    let count : length state'.groups.first.items ≡ length state.groups.first.items = ap (λ (g : Groups). length g.first.items) groups in
    let orders : order_count state'.cells.now ≡ order_count state.cells.now = ap order_count table in
    record {
      ahead = h.ahead ∙ sym count;
      closed = h.closed ∙ sym count;
      cursors = h.cursors ∙ sym count;
      distances = h.distances ∙ sym orders;
      orders = h.orders ∙ sym orders;
      vias = h.vias ∙ sym orders;
    }
