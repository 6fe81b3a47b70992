-- How the positions of earlier orders are found, one after the other.
use Rattle.std.proofs.Common.{◌≡◌, ◌+◌, ◌<◌, ◌≤◌, ◌∙◌, ℕ, Bool, true, false, cond, Option, Some, None, inl, inr, append-nil, append_assoc, List, [], ◌∷◌, ◌++◌, length, get_or, take, refl, sym, ap, subst, arith, length-take-le}
use Rattle.std.specs.Prelude.{nat_lt, slice_get}
use Rattle.std.specs.List.{cons_option, filter_map}
use Rattle.std.proofs.lemmas.Bool.{cases_lt}
use Rattle.std.proofs.lemmas.Bool.Decides.{nat_tests}
use Rattle.std.proofs.lemmas.List.{take_more, take_all, get_or_push, get_or_append_left, length-append}
use Rattle.std.proofs.lemmas.List.Elements.{filter_map-append}
use Rattle.wagons_and_orders.specs.Wanted.{WantedOrder}
use Rattle.problem_table.specs.inner.Moved.{AreMoved, moved_cell, moved_cells}
use Rattle.problem_table.proofs.AllowedLemmas.{Stands, before, last, stands}

pub moved_start : (orders : List WantedOrder) → AreMoved [] orders [] 0
moved_start orders = record {
  count = refl;
  within = omega arith;
  each = λ i one there at. absurd (none_at one at);
  from = λ k l. absurd (omega arith);
  gone = λ i l. absurd (omega arith);
  ascend = λ i j l m. absurd (omega arith);
} where
  none_at : (one : WantedOrder) → None ≡ Some one → ⊥
  none_at one h = cc

module _ (earlier orders : List WantedOrder) (k : ℕ) (one : WantedOrder) (within : k < length earlier) (is_at : one ≡ get_or earlier k one) (positions : List ℕ) (kept : ℕ) (h : AreMoved (take k earlier) orders positions kept) where
  short : length (take k earlier) ≡ k
  short = length-take-le k earlier (omega (arith, within))

  more : take (k + 1) earlier ≡ take k earlier ++ one ∷ []
  more = take_more earlier k one within ∙ ap (λ y. take k earlier ++ y ∷ []) (sym is_at)

  long : length (take (k + 1) earlier) ≡ k + 1
  long = length-take-le (k + 1) earlier (omega (arith, within))

  at_before : (position i : ℕ) → i < k → get_or (positions ++ position ∷ []) i 0 ≡ get_or positions i 0
  at_before position i l = get_or_append_left positions (position ∷ []) 0 i (omega (arith, l, h.count, short))

  at_last : (position i : ℕ) → i ≡ k → get_or (positions ++ position ∷ []) i 0 ≡ position
  at_last position i l = get_or_push positions position 0 i (omega (arith, l, h.count, short))

  -- a position that isn't behind all is that of an order that is kept
  kept_before : (position i : ℕ) → i < k → get_or (positions ++ position ∷ []) i 0 ≤ length orders → get_or positions i 0 < kept
  kept_before position i l few = elim (cases_lt (get_or positions i 0) kept) [
    | inl here ↦ here
    | inr behind ↦ let far = h.gone i (omega (arith, l, short)) behind in absurd (omega (arith, far, few, at_before position i l))
  ]

  -- the next order stays
  pub moved_kept : kept < length orders → ((there : WantedOrder) → slice_get orders kept ≡ Some there → there.order ≡ one.order) → AreMoved (take (k + 1) earlier) orders (positions ++ kept ∷ []) (kept + 1)
  moved_kept room same = record {
    count = omega (arith, length-append positions (kept ∷ []), h.count, short, long);
    within = omega (arith, room);
    each = λ i x there at stays to. each i x there (stands (take k earlier) one i x (subst (λ (ws : List WantedOrder). slice_get ws i ≡ Some x) more at)) stays to;
    from = from;
    gone = gone;
    ascend = ascend;
  } where
    each : (i : ℕ) (x there : WantedOrder) → Stands (take k earlier) one i x → get_or (positions ++ kept ∷ []) i 0 < kept + 1 → slice_get orders (get_or (positions ++ kept ∷ []) i 0) ≡ Some there → there.order ≡ x.order
    each i x there (before l e) stays to =
        let first : i < k = omega (arith, l, short) in
        h.each i x there e (kept_before kept i first (omega (arith, stays, room))) (ap (slice_get orders) (sym (at_before kept i first)) ∙ to)
    each i x there (last l e) stays to =
        let at : i ≡ k = omega (arith, l, short) in
        subst (λ (w : WantedOrder). there.order ≡ w.order) e (same there (ap (slice_get orders) (sym (at_last kept i at)) ∙ to))

    from : (p : ℕ) → p < kept + 1 → (i : ℕ) × (i < length (take (k + 1) earlier)) × (get_or (positions ++ kept ∷ []) i 0 ≡ p)
    from p l = elim (cases_lt p kept) [
      | inl here ↦ let source = h.from p here in (source.0, omega (arith, source.1, short, long), at_before kept source.0 (omega (arith, source.1, short)) ∙ source.2)
      | inr not_here ↦ (k, omega (arith, long), at_last kept k refl ∙ omega (arith, l, not_here))
    ]

    gone : (i : ℕ) → i < length (take (k + 1) earlier) → kept + 1 ≤ get_or (positions ++ kept ∷ []) i 0 → length orders < get_or (positions ++ kept ∷ []) i 0
    gone i l behind = elim (cases_lt i k) [
      | inl first ↦ let far = h.gone i (omega (arith, first, short)) (omega (arith, behind, at_before kept i first)) in omega (arith, far, at_before kept i first)
      | inr not_first ↦ absurd (omega (arith, behind, at_last kept i (omega (arith, l, long, not_first))))
    ]

    ascend : (i j : ℕ) → i < j → j < length (take (k + 1) earlier) → get_or (positions ++ kept ∷ []) i 0 < kept + 1 → get_or (positions ++ kept ∷ []) j 0 < kept + 1 → get_or (positions ++ kept ∷ []) i 0 < get_or (positions ++ kept ∷ []) j 0
    ascend i j l m stays stays' =
        let first : i < k = omega (arith, l, m, long) in
        let here = kept_before kept i first (omega (arith, stays, room)) in
        elim (cases_lt j k) [
          | inl next ↦
              let there = kept_before kept j next (omega (arith, stays', room)) in
              let less = h.ascend i j l (omega (arith, next, short)) here there in
              omega (arith, less, at_before kept i first, at_before kept j next)
          | inr not_next ↦ omega (arith, here, at_before kept i first, at_last kept j (omega (arith, m, long, not_next)))
        ]

  -- the next order is gone
  pub moved_gone : (position : ℕ) → length orders < position → AreMoved (take (k + 1) earlier) orders (positions ++ position ∷ []) kept
  moved_gone position far = record {
    count = omega (arith, length-append positions (position ∷ []), h.count, short, long);
    within = h.within;
    each = λ i x there at stays to. each i x there (stands (take k earlier) one i x (subst (λ (ws : List WantedOrder). slice_get ws i ≡ Some x) more at)) stays to;
    from = λ p l. let source = h.from p l in (source.0, omega (arith, source.1, short, long), at_before position source.0 (omega (arith, source.1, short)) ∙ source.2);
    gone = gone;
    ascend = ascend;
  } where
    each : (i : ℕ) (x there : WantedOrder) → Stands (take k earlier) one i x → get_or (positions ++ position ∷ []) i 0 < kept → slice_get orders (get_or (positions ++ position ∷ []) i 0) ≡ Some there → there.order ≡ x.order
    each i x there (before l e) stays to =
        let first : i < k = omega (arith, l, short) in
        h.each i x there e (omega (arith, stays, at_before position i first)) (ap (slice_get orders) (sym (at_before position i first)) ∙ to)
    each i x there (last l e) stays to = absurd (omega (arith, stays, far, h.within, at_last position i (omega (arith, l, short))))

    gone : (i : ℕ) → i < length (take (k + 1) earlier) → kept ≤ get_or (positions ++ position ∷ []) i 0 → length orders < get_or (positions ++ position ∷ []) i 0
    gone i l behind = elim (cases_lt i k) [
      | inl first ↦ let far' = h.gone i (omega (arith, first, short)) (omega (arith, behind, at_before position i first)) in omega (arith, far', at_before position i first)
      | inr not_first ↦ omega (arith, far, at_last position i (omega (arith, l, long, not_first)))
    ]

    ascend : (i j : ℕ) → i < j → j < length (take (k + 1) earlier) → get_or (positions ++ position ∷ []) i 0 < kept → get_or (positions ++ position ∷ []) j 0 < kept → get_or (positions ++ position ∷ []) i 0 < get_or (positions ++ position ∷ []) j 0
    ascend i j l m stays stays' = elim (cases_lt j k) [
      | inl next ↦
          let first : i < k = omega (arith, l, next) in
          let less = h.ascend i j l (omega (arith, next, short)) (omega (arith, stays, at_before position i first)) (omega (arith, stays', at_before position j next)) in
          omega (arith, less, at_before position i first, at_before position j next)
      | inr not_next ↦ absurd (omega (arith, stays', far, h.within, at_last position j (omega (arith, m, long, not_next))))
    ]

-- behind the last order
pub moved_whole : (earlier orders : List WantedOrder) (k : ℕ) (positions : List ℕ) (kept : ℕ) → length earlier ≤ k → AreMoved (take k earlier) orders positions kept → AreMoved earlier orders positions kept
moved_whole earlier orders k positions kept l h = subst (λ (os : List WantedOrder). AreMoved os orders positions kept) (take_all k earlier l) h

-- ---- the cells of a row, one after the other

module _ (positions : List ℕ) (kept : ℕ) (row : List (ℕ × ℕ)) (k : ℕ) (cell : ℕ × ℕ) (within : k < length row) (is_at : cell ≡ get_or row k cell) (first now : List (ℕ × ℕ)) where
  more_cells : moved_cells positions kept (take (k + 1) row) ≡ moved_cells positions kept (take k row) ++ cons_option (moved_cell positions kept cell) []
  more_cells = ap (filter_map (moved_cell positions kept)) (take_more row k cell within ∙ ap (λ (c : ℕ × ℕ). take k row ++ c ∷ []) (sym is_at)) ∙ filter_map-append (moved_cell positions kept) (take k row) (cell ∷ [])

  moved_if : (position : ℕ) → get_or positions cell.0 0 ≡ position → (b : Bool) → nat_lt position kept ≡ b → moved_cell positions kept cell ≡ cond b (Some (position, cell.1)) None
  moved_if position is true e = rw (is, e) refl
  moved_if position is false e = rw (is, e) refl

  tells : (position : ℕ) → position < kept → nat_lt position kept ≡ true
  tells position l = by (nat_lt position kept) refl where
    by : (b : Bool) → nat_lt position kept ≡ b → nat_lt position kept ≡ true
    by true e = e
    by false e = absurd (grind (arith, nat_tests, e, l))

  denies : (position : ℕ) → kept ≤ position → nat_lt position kept ≡ false
  denies position l = by (nat_lt position kept) refl where
    by : (b : Bool) → nat_lt position kept ≡ b → nat_lt position kept ≡ false
    by true e = absurd (grind (arith, nat_tests, e, l))
    by false e = e

  pub cell_kept : (position : ℕ) (new : List (ℕ × ℕ)) → now ≡ first ++ moved_cells positions kept (take k row) → get_or positions cell.0 0 ≡ position → position < kept → new ≡ now ++ (position, cell.1) ∷ [] → new ≡ first ++ moved_cells positions kept (take (k + 1) row)
  cell_kept position new h is stays added =
      added ∙ (ap (λ cells. cells ++ (position, cell.1) ∷ []) h ∙ (append_assoc first (moved_cells positions kept (take k row)) ((position, cell.1) ∷ [])
      ∙ ap (λ cells. first ++ cells) (sym (more_cells ∙ ap (λ (o : Option (ℕ × ℕ)). moved_cells positions kept (take k row) ++ cons_option o []) (moved_if position is true (tells position stays))))))

  pub cell_gone : (position : ℕ) → now ≡ first ++ moved_cells positions kept (take k row) → get_or positions cell.0 0 ≡ position → kept ≤ position → now ≡ first ++ moved_cells positions kept (take (k + 1) row)
  cell_gone position h is gone =
      h ∙ ap (λ cells. first ++ cells) (sym (more_cells ∙ (ap (λ (o : Option (ℕ × ℕ)). moved_cells positions kept (take k row) ++ cons_option o []) (moved_if position is false (denies position gone)) ∙ append-nil (moved_cells positions kept (take k row)))))
