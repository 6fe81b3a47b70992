-- Movers, entry by entry, and the wagons of a company, row by row.
use Rattle.std.proofs.Common.{◌≡◌, ◌∙◌, ℕ, zero, suc, ◌+◌, ◌<◌, ◌≤◌, Bool, true, false, cond, List, [], ◌∷◌, ◌++◌, length, take, get_or, map, Option, Some, None, ap, append-nil, arith, inl, inr, refl, sym}
use Rattle.std.specs.BTreeMap.{is_at}
use Rattle.std.specs.Cmp.Lexicographic.{pointwise, texts_ties}
use Rattle.std.specs.Option.{option_or}
use Rattle.std.specs.Prelude.{filter, if◌then◌else◌, nat_eq, slice_get}
use Rattle.std.proofs.lemmas.List.{map-append, take_all, take_more}
use Rattle.std.proofs.lemmas.List.Elements.{filter-append}
use Rattle.std.proofs.lemmas.List.Sums.{fold_more}
use Rattle.std.proofs.lemmas.Option.{slice_get_cases}
use Rattle.commit_book.specs.Books.{entry_at}
use Rattle.fleet_rows.specs.Kept.{compare_numbers}
use Rattle.move_messages.specs.declared.event.Event.{Event}
use Rattle.move_messages.specs.declared.event.Event.TheVariants.{Message}
use Rattle.move_messages.specs.declared.message.Message as movement
use Rattle.wagons_and_orders.specs.declared.wagon_row.WagonRow.{WagonRow}
use Rattle.last_texts.specs.Movers.{last_mover, mover_in, mover_of, with_number_where}

by_test : (here : Bool) (company : List ℕ) (before : Option (List ℕ)) → cond here (Some company) before ≡ option_or (if here then Some company else None) before
by_test true company before = refl
by_test false company before = refl

-- what a map gives once the wagon of a message is put
pub noted : (message : movement.Message) (before after : List ℕ → Option (List ℕ)) → ((number : List ℕ) → after number ≡ cond (is_at (compare_numbers message.wagon) number) (Some message.id.company) (before number))
    → (number : List ℕ) → after number ≡ option_or (mover_of (Message message) number) (before number)
noted message before after puts number =
    puts number ∙ ap (λ (here : Bool). cond here (Some message.id.company) (before number)) (sym (texts_ties message.wagon number)) ∙ by_test (pointwise nat_eq message.wagon number) message.id.company (before number)

-- an entry more
pub one_more : (history : List Event) (n : ℕ) (number : List ℕ) → n < length history → last_mover (take (n + 1) history) number ≡ option_or (mover_in (slice_get history n) number) (last_mover (take n history) number)
one_more history n number within = elim (slice_get_cases history n).1 [
  | inl found ↦
      let (event, below, is, same) = found in
      fold_more (λ (mover : Option (List ℕ)) (e : Event). option_or (mover_of e number) mover) None history n event within
      ∙ ap (λ (e : Event). option_or (mover_of e number) (last_mover (take n history) number)) same
      ∙ sym (ap (λ (o : Option Event). option_or (mover_in o number) (last_mover (take n history) number)) is)
  | inr past ↦ let (all, none) = past in absurd (omega (arith, within, all))
]

-- the entry behind the first n
pub next_entry : (history : List Event) (m n : ℕ) → m ≡ n + 1 → entry_at history m ≡ slice_get history n
next_entry history zero n e = absurd (omega arith)
next_entry history (suc k) n e = ap (slice_get history) (omega arith)

-- all entries
pub all_entries : (history : List Event) (n : ℕ) (number : List ℕ) → length history ≤ n → last_mover (take n history) number ≡ last_mover history number
all_entries history n number all = ap (λ (h : List Event). last_mover h number) (take_all n history all)

abbrev number_of : WagonRow → List ℕ
number_of row = row.number

-- a row more
pub row_more : (p : List ℕ → Bool) (rows : List WagonRow) (k : ℕ) (row : WagonRow) (numbers more : List (List ℕ)) (holds : Bool) → k < length rows → row ≡ get_or rows k row → holds ≡ p row.number
    → numbers ≡ filter p (map number_of (take k rows)) → more ≡ with_number_where numbers row.number holds → more ≡ filter p (map number_of (take (k + 1) rows))
row_more p rows k row numbers more holds within is tested so added =
    added ∙ chosen holds (sym tested) ∙ sym (ap (λ (rs : List WagonRow). filter p (map number_of rs)) (take_more rows k row within ∙ ap (λ (r : WagonRow). take k rows ++ r ∷ []) (sym is))
    ∙ ap (filter p) (map-append number_of (take k rows) (row ∷ [])) ∙ filter-append p (map number_of (take k rows)) (row.number ∷ []))
  where
    chosen : (test : Bool) → p row.number ≡ test → with_number_where numbers row.number test ≡ filter p (map number_of (take k rows)) ++ filter p (row.number ∷ [])
    chosen true e = ap (λ (ns : List (List ℕ)). ns ++ row.number ∷ []) so ∙ ap (λ (ns : List (List ℕ)). filter p (map number_of (take k rows)) ++ ns) (rw e refl)
    chosen false e = so ∙ sym (append-nil (filter p (map number_of (take k rows)))) ∙ ap (λ (ns : List (List ℕ)). filter p (map number_of (take k rows)) ++ ns) (rw e refl)

pub all_rows : (p : List ℕ → Bool) (rows : List WagonRow) (k : ℕ) (numbers : List (List ℕ)) → length rows ≤ k → numbers ≡ filter p (map number_of (take k rows)) → numbers ≡ filter p (map number_of rows)
all_rows p rows k numbers all so = so ∙ ap (λ (rs : List WagonRow). filter p (map number_of rs)) (take_all k rows all)
