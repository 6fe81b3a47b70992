-- A wagon joins a group, or begins one.
use Rattle.std.proofs.Common.{◌≡◌, ◌≢◌, ◌+◌, ◌<◌, ◌≤◌, ℕ, List, [], ◌∷◌, ◌++◌, Vec, length, get_or, set, refl, sym, ◌∙◌, ap, arith, inl, inr}
use Rattle.std.specs.declared.alloc.Global.{Global}
use Rattle.std.proofs.lemmas.Bool.{cases_eq}
use Rattle.std.proofs.lemmas.List.{length_push, get_or_push, get_or_append_left}
use Rattle.cost_table.specs.Table.{Table, wagon_count}
use Rattle.cost_table.specs.TableRows.{row_at}
use Rattle.assignment.specs.declared.groups.Groups.{Groups}
use Rattle.assignment.specs.inner.Groups.{AreGrouped, first_in, group_in, last_in, next_in}
use Rattle.assignment.proofs.Writes.{same_at, other_at, written_length}

-- what is pushed, and what was there
push_here : (xs ys : List ℕ) (y i : ℕ) → ys ≡ xs ++ y ∷ [] → i ≡ length xs → get_or ys i 0 ≡ y
push_here xs ys y i e l = ap (λ zs. get_or zs i 0) e ∙ get_or_push xs y 0 i (sym l)

push_there : (xs ys : List ℕ) (y i : ℕ) → ys ≡ xs ++ y ∷ [] → i < length xs → get_or ys i 0 ≡ get_or xs i 0
push_there xs ys y i e l = ap (λ zs. get_or zs i 0) e ∙ get_or_append_left xs (y ∷ []) 0 i l

-- nothing is grouped yet
pub grouped_none : (t : Table) (groups : Groups) → groups.of.items ≡ [] → groups.first.items ≡ [] → groups.last.items ≡ [] → length groups.next.items ≡ wagon_count t → ((i : ℕ) → 0 ≤ i → i < wagon_count t → next_in groups i ≡ 4294967295) → AreGrouped t 0 groups
grouped_none t groups eo ef el en none =
    let no = ap length eo in
    let nf = ap length ef in
    let nl = ap length el in
    record {
      grouped = no;
      chained = en;
      counts = omega (arith, nf, nl);
      few = omega (arith, nf);
      group = λ i l. absurd (omega (arith, l));
      row = λ i l. absurd (omega (arith, l));
      first_within = λ g l. absurd (omega (arith, l, nf));
      first_of = λ g l. absurd (omega (arith, l, nf));
      first_least = λ i l. absurd (omega (arith, l));
      last_within = λ g l. absurd (omega (arith, l, nf));
      last_of = λ g l. absurd (omega (arith, l, nf));
      last_greatest = λ i l. absurd (omega (arith, l));
      after_last = λ g l. absurd (omega (arith, l, nf));
      next_later = λ i l. absurd (omega (arith, l));
      next_of = λ i l. absurd (omega (arith, l));
      fresh = none;
      between = λ i w l lw. absurd (omega (arith, l));
    }

-- wagon n joins group g
pub grouped_joined : (t : Table) (groups : Groups) (n g last : ℕ) (of last_of next : Vec ℕ Global) → wagon_count t ≤ 1000 → AreGrouped t n groups → n < wagon_count t → g < length groups.first.items → row_at t n ≡ row_at t (first_in groups g) → last ≡ last_in groups g → of.items ≡ groups.of.items ++ g ∷ [] → last_of.items ≡ set groups.last.items g n → next.items ≡ set groups.next.items last n → AreGrouped t (n + 1) (record groups { of = of; last = last_of; next = next })
grouped_joined t groups n g last of last_of next few h ln lg row el eo es en =
    let groups' : Groups = record groups { of = of; last = last_of; next = next } in
    let grouped = h.grouped in
    let chained = h.chained in
    let counts = h.counts in
    let last_low : last < n = (let l = h.last_within g lg in omega (arith, l, el)) in
    let last_group : group_in groups last ≡ g = ap (group_in groups) el ∙ h.last_of g lg in
    let new_group : group_in groups' n ≡ g = push_here groups.of.items of.items g n eo (sym grouped) in
    let old_group : (k : ℕ) → k < n → group_in groups' k ≡ group_in groups k = λ k l. push_there groups.of.items of.items g k eo (omega (arith, l, grouped)) in
    let new_last : last_in groups' g ≡ n = same_at groups.last.items last_of.items g n 0 (omega (arith, lg, counts)) es in
    let old_last : (k : ℕ) → k ≢ g → last_in groups' k ≡ last_in groups k = λ k apart. other_at groups.last.items last_of.items g n 0 k es apart in
    let new_next : next_in groups' last ≡ n = same_at groups.next.items next.items last n 0 (omega (arith, last_low, ln, chained)) en in
    let old_next : (k : ℕ) → k ≢ last → next_in groups' k ≡ next_in groups k = λ k apart. other_at groups.next.items next.items last n 0 k en apart in
    let own_next : next_in groups' n ≡ 4294967295 = old_next n (λ e. omega (arith, e, last_low)) ∙ h.fresh n (omega arith) ln in
    record {
      grouped = ap length eo ∙ length_push groups.of.items g ∙ ap (λ y. y + 1) grouped;
      chained = written_length groups.next.items next.items last n en ∙ chained;
      counts = written_length groups.last.items last_of.items g n es ∙ counts;
      few = (let f = h.few in omega (arith, f));
      group = λ k l. elim (cases_eq k n) [
        | inl same ↦ let e = ap (group_in groups') same in omega (arith, e, new_group, lg)
        | inr other ↦ let lk : k < n = omega (arith, l, other) in let e = old_group k lk in let m = h.group k lk in omega (arith, e, m)
      ];
      row = λ k l. elim (cases_eq k n) [
        | inl same ↦ ap (row_at t) same ∙ row ∙ ap (λ y. row_at t (first_in groups y)) (sym (ap (group_in groups') same ∙ new_group))
        | inr other ↦ let lk : k < n = omega (arith, l, other) in h.row k lk ∙ ap (λ y. row_at t (first_in groups y)) (sym (old_group k lk))
      ];
      first_within = λ k l. let m = h.first_within k l in omega (arith, m);
      first_of = λ k l. old_group (first_in groups k) (h.first_within k l) ∙ h.first_of k l;
      first_least = λ k l. elim (cases_eq k n) [
        | inl same ↦ let e : first_in groups (group_in groups' k) ≡ first_in groups g = ap (first_in groups) (ap (group_in groups') same ∙ new_group) in let m = h.first_within g lg in omega (arith, e, m, same)
        | inr other ↦ let lk : k < n = omega (arith, l, other) in let e : first_in groups (group_in groups' k) ≡ first_in groups (group_in groups k) = ap (first_in groups) (old_group k lk) in let m = h.first_least k lk in omega (arith, e, m)
      ];
      last_within = λ k l. elim (cases_eq k g) [
        | inl same ↦ let e = ap (last_in groups') same in omega (arith, e, new_last)
        | inr other ↦ let e = old_last k other in let m = h.last_within k l in omega (arith, e, m)
      ];
      last_of = λ k l. elim (cases_eq k g) [
        | inl same ↦ ap (λ y. group_in groups' (last_in groups' y)) same ∙ ap (group_in groups') new_last ∙ new_group ∙ sym same
        | inr other ↦ ap (group_in groups') (old_last k other) ∙ old_group (last_in groups k) (h.last_within k l) ∙ h.last_of k l
      ];
      last_greatest = λ k l. elim (cases_eq k n) [
        | inl same ↦ let e : last_in groups' (group_in groups' k) ≡ n = ap (last_in groups') (ap (group_in groups') same ∙ new_group) ∙ new_last in omega (arith, e, same)
        | inr other ↦
            let lk : k < n = omega (arith, l, other) in
            let own = old_group k lk in
            elim (cases_eq (group_in groups k) g) [
              | inl same ↦ let e : last_in groups' (group_in groups' k) ≡ n = ap (last_in groups') (own ∙ same) ∙ new_last in omega (arith, e, lk)
              | inr apart ↦ let e : last_in groups' (group_in groups' k) ≡ last_in groups (group_in groups k) = ap (last_in groups') own ∙ old_last (group_in groups k) apart in let m = h.last_greatest k lk in omega (arith, e, m)
            ]
      ];
      after_last = λ k l. elim (cases_eq k g) [
        | inl same ↦ ap (λ y. next_in groups' (last_in groups' y)) same ∙ ap (next_in groups') new_last ∙ own_next
        | inr other ↦ ap (next_in groups') (old_last k other) ∙ old_next (last_in groups k) (λ e. other (sym (h.last_of k l) ∙ ap (group_in groups) e ∙ last_group)) ∙ h.after_last k l
      ];
      next_later = λ k l. elim (cases_eq k n) [
        | inl same ↦ let e = ap (next_in groups') same in omega (arith, e, own_next, same, ln, few)
        | inr other ↦ let lk : k < n = omega (arith, l, other) in elim (cases_eq k last) [
          | inl at ↦ let e = ap (next_in groups') at in omega (arith, e, new_next, lk)
          | inr apart ↦ let e = old_next k apart in let m = h.next_later k lk in omega (arith, e, m)
        ]
      ];
      next_of = λ k l. elim (cases_eq k n) [
        | inl same ↦ inl (ap (next_in groups') same ∙ own_next)
        | inr other ↦ let lk : k < n = omega (arith, l, other) in elim (cases_eq k last) [
          | inl at ↦
              let e : next_in groups' k ≡ n = ap (next_in groups') at ∙ new_next in
              inr (omega (arith, e), ap (group_in groups') e ∙ new_group ∙ sym (ap (group_in groups') at ∙ old_group last last_low ∙ last_group))
          | inr apart ↦ let e = old_next k apart in elim (h.next_of k lk) [
            | inl none ↦ inl (e ∙ none)
            | inr some ↦ let m = some.0 in inr (omega (arith, e, m), ap (group_in groups') e ∙ old_group (next_in groups k) m ∙ some.1 ∙ sym (old_group k lk))
          ]
        ]
      ];
      fresh = λ k le l. let low = last_low in old_next k (λ e. omega (arith, e, le, low)) ∙ h.fresh k (omega (arith, le)) l;
      between = λ k w l lw same before. elim (cases_eq w last) [
        | inl at ↦
            let e : next_in groups' w ≡ n = ap (next_in groups') at ∙ new_next in
            elim (cases_eq k n) [
              | inl is ↦ omega (arith, e, is)
              | inr other ↦ absurd (
                  let lk : k < n = omega (arith, l, other) in
                  let own : group_in groups k ≡ g = sym (old_group k lk) ∙ same ∙ ap (group_in groups') at ∙ old_group last last_low ∙ last_group in
                  let greatest = h.last_greatest k lk in
                  let top : last_in groups (group_in groups k) ≡ last = ap (last_in groups) own ∙ sym el in
                  omega (arith, greatest, top, before, at))
            ]
        | inr apart ↦
            let low : w < n = omega (arith, before, l) in
            let e = old_next w apart in
            elim (cases_eq k n) [
              | inl is ↦
                  let own : group_in groups w ≡ g = sym (old_group w low) ∙ sym same ∙ ap (group_in groups') is ∙ new_group in
                  let greatest = h.last_greatest w low in
                  let top : last_in groups (group_in groups w) ≡ last = ap (last_in groups) own ∙ sym el in
                  let m = h.between last w last_low low (last_group ∙ sym own) (omega (arith, greatest, top, apart)) in
                  omega (arith, e, m, last_low, is)
              | inr other ↦
                  let lk : k < n = omega (arith, l, other) in
                  let m = h.between k w lk low (sym (old_group k lk) ∙ same ∙ old_group w low) before in
                  omega (arith, e, m)
            ]
      ];
    }

-- wagon n begins a group
pub grouped_begun : (t : Table) (groups : Groups) (n : ℕ) (of last_of : Vec ℕ Global) (first : Vec ℕ Global) → wagon_count t ≤ 1000 → AreGrouped t n groups → n < wagon_count t → of.items ≡ groups.of.items ++ length groups.first.items ∷ [] → first.items ≡ groups.first.items ++ n ∷ [] → last_of.items ≡ groups.last.items ++ n ∷ [] → AreGrouped t (n + 1) (record groups { of = of; first = first; last = last_of })
grouped_begun t groups n of last_of first few h ln eo ef es =
    let groups' : Groups = record groups { of = of; first = first; last = last_of } in
    let g = length groups.first.items in
    let grouped = h.grouped in
    let counts = h.counts in
    let long : length first.items ≡ g + 1 = ap length ef ∙ length_push groups.first.items n in
    let new_group : group_in groups' n ≡ g = push_here groups.of.items of.items g n eo (sym grouped) in
    let old_group : (k : ℕ) → k < n → group_in groups' k ≡ group_in groups k = λ k l. push_there groups.of.items of.items g k eo (omega (arith, l, grouped)) in
    let new_first : first_in groups' g ≡ n = push_here groups.first.items first.items n g ef refl in
    let old_first : (k : ℕ) → k < g → first_in groups' k ≡ first_in groups k = λ k l. push_there groups.first.items first.items n k ef l in
    let new_last : last_in groups' g ≡ n = push_here groups.last.items last_of.items n g es (sym counts) in
    let old_last : (k : ℕ) → k < g → last_in groups' k ≡ last_in groups k = λ k l. push_there groups.last.items last_of.items n k es (omega (arith, l, counts)) in
    let own_next : next_in groups n ≡ 4294967295 = h.fresh n (omega arith) ln in
    record {
      grouped = ap length eo ∙ length_push groups.of.items g ∙ ap (λ y. y + 1) grouped;
      chained = h.chained;
      counts = ap length es ∙ length_push groups.last.items n ∙ ap (λ y. y + 1) counts ∙ sym long;
      few = (let f = h.few in omega (arith, f, long));
      group = λ k l. elim (cases_eq k n) [
        | inl same ↦ let e = ap (group_in groups') same in omega (arith, e, new_group, long)
        | inr other ↦ let lk : k < n = omega (arith, l, other) in let e = old_group k lk in let m = h.group k lk in omega (arith, e, m, long)
      ];
      row = λ k l. elim (cases_eq k n) [
        | inl same ↦ ap (row_at t) (same ∙ sym (ap (first_in groups') (ap (group_in groups') same ∙ new_group) ∙ new_first))
        | inr other ↦ let lk : k < n = omega (arith, l, other) in h.row k lk ∙ ap (row_at t) (sym (ap (first_in groups') (old_group k lk) ∙ old_first (group_in groups k) (h.group k lk)))
      ];
      first_within = λ k l. elim (cases_eq k g) [
        | inl same ↦ let e = ap (first_in groups') same in omega (arith, e, new_first)
        | inr other ↦ let lk : k < g = omega (arith, l, long, other) in let e = old_first k lk in let m = h.first_within k lk in omega (arith, e, m)
      ];
      first_of = λ k l. elim (cases_eq k g) [
        | inl same ↦ ap (λ y. group_in groups' (first_in groups' y)) same ∙ ap (group_in groups') new_first ∙ new_group ∙ sym same
        | inr other ↦ let lk : k < g = omega (arith, l, long, other) in ap (group_in groups') (old_first k lk) ∙ old_group (first_in groups k) (h.first_within k lk) ∙ h.first_of k lk
      ];
      first_least = λ k l. elim (cases_eq k n) [
        | inl same ↦ let e : first_in groups' (group_in groups' k) ≡ n = ap (first_in groups') (ap (group_in groups') same ∙ new_group) ∙ new_first in omega (arith, e, same)
        | inr other ↦ let lk : k < n = omega (arith, l, other) in let e : first_in groups' (group_in groups' k) ≡ first_in groups (group_in groups k) = ap (first_in groups') (old_group k lk) ∙ old_first (group_in groups k) (h.group k lk) in let m = h.first_least k lk in omega (arith, e, m)
      ];
      last_within = λ k l. elim (cases_eq k g) [
        | inl same ↦ let e = ap (last_in groups') same in omega (arith, e, new_last)
        | inr other ↦ let lk : k < g = omega (arith, l, long, other) in let e = old_last k lk in let m = h.last_within k lk in omega (arith, e, m)
      ];
      last_of = λ k l. elim (cases_eq k g) [
        | inl same ↦ ap (λ y. group_in groups' (last_in groups' y)) same ∙ ap (group_in groups') new_last ∙ new_group ∙ sym same
        | inr other ↦ let lk : k < g = omega (arith, l, long, other) in ap (group_in groups') (old_last k lk) ∙ old_group (last_in groups k) (h.last_within k lk) ∙ h.last_of k lk
      ];
      last_greatest = λ k l. elim (cases_eq k n) [
        | inl same ↦ let e : last_in groups' (group_in groups' k) ≡ n = ap (last_in groups') (ap (group_in groups') same ∙ new_group) ∙ new_last in omega (arith, e, same)
        | inr other ↦ let lk : k < n = omega (arith, l, other) in let e : last_in groups' (group_in groups' k) ≡ last_in groups (group_in groups k) = ap (last_in groups') (old_group k lk) ∙ old_last (group_in groups k) (h.group k lk) in let m = h.last_greatest k lk in omega (arith, e, m)
      ];
      after_last = λ k l. elim (cases_eq k g) [
        | inl same ↦ ap (λ y. next_in groups (last_in groups' y)) same ∙ ap (next_in groups) new_last ∙ own_next
        | inr other ↦ let lk : k < g = omega (arith, l, long, other) in ap (next_in groups) (old_last k lk) ∙ h.after_last k lk
      ];
      next_later = λ k l. elim (cases_eq k n) [
        | inl same ↦ let e = ap (next_in groups) same in omega (arith, e, own_next, same, ln, few)
        | inr other ↦ h.next_later k (omega (arith, l, other))
      ];
      next_of = λ k l. elim (cases_eq k n) [
        | inl same ↦ inl (ap (next_in groups) same ∙ own_next)
        | inr other ↦ let lk : k < n = omega (arith, l, other) in elim (h.next_of k lk) [
          | inl none ↦ inl none
          | inr some ↦ let m = some.0 in inr (omega (arith, m), old_group (next_in groups k) m ∙ some.1 ∙ sym (old_group k lk))
        ]
      ];
      fresh = λ k le l. h.fresh k (omega (arith, le)) l;
      between = λ k w l lw same before.
          let low : w < n = omega (arith, before, l) in
          elim (cases_eq k n) [
            | inl is ↦ absurd (let e : group_in groups w ≡ g = sym (old_group w low) ∙ sym same ∙ ap (group_in groups') is ∙ new_group in let m = h.group w low in omega (arith, e, m))
            | inr other ↦ let lk : k < n = omega (arith, l, other) in h.between k w lk low (sym (old_group k lk) ∙ same ∙ old_group w low) before
          ];
    }
