-- The wagons without an order, told by the first of each group.
use Rattle.std.proofs.Common.{◌≡◌, ◌≢◌, ◌<◌, ◌≤◌, ◌↔◌, ◌⊎◌, ℕ, List, Option, Some, None, length, get_or, set, refl, sym, ◌∙◌, ap, arith, inl, inr, subst}
use Rattle.std.proofs.lemmas.Bool.{cases_eq}
use Rattle.cost_table.specs.Table.{Table, cost_at, wagon_count}
use Rattle.assignment.specs.declared.groups.Groups.{Groups}
use Rattle.assignment.specs.declared.state.State.{State}
use Rattle.assignment.specs.inner.Groups.{AreGroups, group_table}
use Rattle.std.specs.Prelude.{IfSome}
use Rattle.assignment.specs.declared.search.Search.{Search}
use Rattle.assignment.specs.inner.Path.{AreHandedOn, IsGiven, IsOnPath, IsOnPathTo}
use Rattle.assignment.specs.inner.State.{AreIdle, IsEndAt, IsHead, IsState, Kept, idle_after, kept, order_at, orders_of}
use Rattle.assignment.specs.inner.Search.{IsLikeIdle, IsShortestPath}
use Rattle.assignment.proofs.Grouping.{group_cells, group_price}
use Rattle.assignment.proofs.Writes.{same_at, other_at, written_length}

-- the first wagon of a group that has no order
pub record IsFirstIdle (groups : List ℕ) (order_of : List (Option ℕ)) (g i : ℕ) : Type 0 where
  pub group : get_or groups i 0 ≡ g
  pub none : order_at order_of i ≡ None

pub first_idle : (groups : List ℕ) (n : ℕ) (order_of : List (Option ℕ)) (idle : List ℕ) (g : ℕ) → AreIdle groups n order_of idle → g < n → get_or idle g 0 < length groups → IsFirstIdle groups order_of g (get_or idle g 0)
first_idle groups n order_of idle g h lg l =
    let i = get_or idle g 0 in
    let same : get_or groups i 0 ≡ g = h.same g lg l in
    let at : get_or idle (get_or groups i 0) 0 ≡ i = ap (λ y. get_or idle y 0) same in
    record { group = same; none = (h.first i l).1 (omega (arith, at)) }

-- a group with a wagon without an order has the cells and the price of that
pub like_idle : (state : State) (i : ℕ) → IsState state → i < wagon_count state.cells.now → get_or state.idle.items (get_or state.groups.of.items i 0) 0 < wagon_count state.cells.now → IsLikeIdle (kept state) i
like_idle state i h l there =
    let t = state.cells.now in
    let of = state.groups.of.items in
    let u = state.u.items in
    let first = state.groups.first.items in
    let g = get_or of i 0 in
    let w = get_or state.idle.items g 0 in
    let grouped = h.groups.grouped in
    let one = first_idle of (length first) (orders_of state.order_of.items) state.idle.items g h.idle (h.groups.group i l) (omega (arith, there, grouped)) in
    record {
      wagon = w;
      within = there;
      none = one.none;
      cells = λ k. sym (group_cells t state.groups w k h.groups there) ∙ ap (λ y. cost_at (group_table t first) y k) one.group ∙ group_cells t state.groups i k h.groups l;
      price = group_price of u w (omega (arith, there, grouped)) ∙ ap (λ y. get_or u y 0) one.group ∙ sym (group_price of u i (omega (arith, l, grouped)));
    }

-- the wagons' orders changed, but those without an order have none still, and no others
pub idle_same : (groups : List ℕ) (n : ℕ) (h h' : List (Option ℕ)) (idle : List ℕ) → AreIdle groups n h idle → ((i : ℕ) → i < length groups → (order_at h' i ≡ None) ↔ (order_at h i ≡ None)) → AreIdle groups n h' idle
idle_same groups n h h' idle a same = record {
  count = a.count;
  first = λ i l. (λ none. (a.first i l).0 ((same i l).0 none), λ le. (same i l).1 ((a.first i l).1 le));
  same = a.same;
  within = a.within;
}

-- the first wagon of a group that has no order got one, and no other wagon
pub idle_taken : (t : Table) (groups : Groups) (n : ℕ) (h h' : List (Option ℕ)) (idle idle' : List ℕ) (w : ℕ) → AreGroups t groups → wagon_count t ≤ 1000 → n ≡ length groups.first.items → AreIdle groups.of.items n h idle → w < wagon_count t → get_or idle (get_or groups.of.items w 0) 0 ≡ w → (order_at h' w ≡ None → ⊥) → ((i : ℕ) → i < length groups.of.items → i ≢ w → (order_at h' i ≡ None) ↔ (order_at h i ≡ None)) → idle' ≡ set idle (get_or groups.of.items w 0) (get_or groups.next.items w 0) → AreIdle groups.of.items n h' idle'
idle_taken t groups n h h' idle idle' w gs most ne a lw is_first some same e =
    let of = groups.of.items in
    let g = get_or of w 0 in
    let grouped = gs.grouped in
    let count = a.count in
    let lg = gs.group w lw in
    let now : get_or idle' g 0 ≡ get_or groups.next.items w 0 = same_at idle idle' g _ 0 (omega (arith, count, lg, ne)) e in
    let other : (k : ℕ) → k ≢ g → get_or idle' k 0 ≡ get_or idle k 0 = λ k apart. other_at idle idle' g _ 0 k e apart in
    record {
      count = written_length idle idle' g _ e ∙ count;
      first = λ i l. elim (cases_eq i w) [
        | inl here ↦
            let at : get_or idle' (get_or of i 0) 0 ≡ get_or groups.next.items w 0 = ap (λ y. get_or idle' (get_or of y 0) 0) here ∙ now in
            let later = gs.next_later w lw in
            (λ none. absurd (some (ap (order_at h') (sym here) ∙ none)), λ le. absurd (omega (arith, le, at, later, here)))
        | inr apart ↦ elim (cases_eq (get_or of i 0) g) [
          | inl group ↦
              let at : get_or idle' (get_or of i 0) 0 ≡ get_or groups.next.items w 0 = ap (λ y. get_or idle' y 0) group ∙ now in
              let was : get_or idle (get_or of i 0) 0 ≡ w = ap (λ y. get_or idle y 0) group ∙ is_first in
              let li : i < wagon_count t = omega (arith, l, grouped) in
              let later = gs.next_later w lw in (
                λ none. let le = (a.first i l).0 ((same i l apart).0 none) in let between = gs.between i w li lw group (omega (arith, le, was, apart)) in omega (arith, between, at),
                λ le. (same i l apart).1 ((a.first i l).1 (omega (arith, le, at, was, later))),
              )
          | inr elsewhere ↦
              let at = other (get_or of i 0) elsewhere in (
                λ none. let le = (a.first i l).0 ((same i l apart).0 none) in omega (arith, le, at),
                λ le. (same i l apart).1 ((a.first i l).1 (omega (arith, le, at))),
              )
        ]
      ];
      same = λ k lk l. elim (cases_eq k g) [
        | inl here ↦
            let at : get_or idle' k 0 ≡ get_or groups.next.items w 0 = ap (λ y. get_or idle' y 0) here ∙ now in
            elim (gs.next_of w lw) [
              | inl none ↦ absurd (omega (arith, at, none, l, grouped, most))
              | inr next ↦ ap (λ y. get_or of y 0) at ∙ next.1 ∙ sym here
            ]
        | inr apart ↦ let at = other k apart in ap (λ y. get_or of y 0) at ∙ a.same k lk (omega (arith, l, at))
      ];
      within = λ k lk some. elim (cases_eq k g) [
        | inl here ↦
            let at : get_or idle' k 0 ≡ get_or groups.next.items w 0 = ap (λ y. get_or idle' y 0) here ∙ now in
            elim (gs.next_of w lw) [
              | inl none ↦ absurd (some (at ∙ none))
              | inr next ↦ let within = next.0 in omega (arith, at, within, grouped)
            ]
        | inr apart ↦ let at = other k apart in let was = a.within k lk (λ none. some (at ∙ none)) in omega (arith, at, was)
      ];
    }

-- once orders were handed on along a path, a wagon that has none had none
pub none_before : (s : Kept) (f : Search) (h : List (Option ℕ)) (i : ℕ) → AreHandedOn s f (IsOnPath f) h → order_at h i ≡ None → order_at s.order_of i ≡ None
none_before s f h i handed none = elim (handed i) [
  | inl same ↦ sym same ∙ none
  | inr moved ↦ absurd (let e = sym none ∙ moved.1.order in cc)
]

-- and only the wagon at the path's end got its first order
none_after : (s : Kept) (f : Search) (h : List (Option ℕ)) (end : Option ℕ) (i : ℕ) → IsShortestPath s f → (order_at h i ≡ order_at s.order_of i) ⊎ (IsOnPathTo f end i × IsGiven s f h i) → (end ≡ Some i → ⊥) → order_at s.order_of i ≡ None → order_at h i ≡ None
none_after s f h end i path (inl same) other none = same ∙ none
none_after s f h (Some w) i path (inr (inl same, given)) other none = absurd (other (ap (λ y. Some y) (sym same)))
none_after s f h (Some w) i path (inr (inr p, given)) other none = absurd (let held = (path.search.settled.led p.0 p.1 p.2).held in let is = ap (order_at s.order_of) p.3 in let e = sym held ∙ is ∙ none in cc)
none_after s f h None i path (inr (p, given)) other none = absurd (let held = (path.search.settled.led p.0 p.1 p.2).held in let is = ap (order_at s.order_of) p.3 in let e = sym held ∙ is ∙ none in cc)

some_inner : (w i : ℕ) → Some w ≡ Some i → w ≡ i
some_inner w i e = cc

idle_handed_to : (state : State) (f : Search) (h : List (Option ℕ)) (idle : List ℕ) (end : Option ℕ) (j d e : ℕ) → IsState state → IsShortestPath (kept state) f → ((i : ℕ) → (order_at h i ≡ order_at (kept state).order_of i) ⊎ (IsOnPathTo f end i × IsGiven (kept state) f h i)) → IsEndAt (kept state) j d e end → IfSome end (IsGiven (kept state) f h) → IsHead state end → idle ≡ idle_after state.groups state.idle.items end → ((i : ℕ) → order_at h i ≡ None → order_at (kept state).order_of i ≡ None) → AreIdle state.groups.of.items (length state.groups.first.items) h idle
idle_handed_to state f h idle None j d e is path handed end given head after before =
    subst (AreIdle state.groups.of.items (length state.groups.first.items) h) (sym after)
    (idle_same state.groups.of.items (length state.groups.first.items) (kept state).order_of h state.idle.items is.idle (λ i l. (before i, none_after (kept state) f h None i path (handed i) (λ no. cc))))
idle_handed_to state f h idle (Some w) j d e is path handed end given head after before =
    idle_taken state.cells.now state.groups (length state.groups.first.items) (kept state).order_of h state.idle.items idle w is.groups is.keeps.table.wagons refl is.idle end.0 head (λ none. let one = sym none ∙ given.order in cc) (λ i l apart. (before i, none_after (kept state) f h (Some w) i path (handed i) (λ same. apart (sym (some_inner w i same))))) after

pub idle_handed : (state : State) (f : Search) (h : List (Option ℕ)) (idle : List ℕ) → IsState state → IsShortestPath (kept state) f → AreHandedOn (kept state) f (IsOnPath f) h → IfSome f.end.wagon (IsGiven (kept state) f h) → IsHead state f.end.wagon → idle ≡ idle_after state.groups state.idle.items f.end.wagon → AreIdle state.groups.of.items (length state.groups.first.items) h idle
idle_handed state f h idle is path handed given head after =
    idle_handed_to state f h idle f.end.wagon _ _ _ is path handed (path.search.end.is path.some) given head after (λ i none. none_before (kept state) f h i handed none)
