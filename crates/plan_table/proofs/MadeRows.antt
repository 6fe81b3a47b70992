-- Rows that are made one after the other.
use Rattle.std.proofs.Common.{◌≡◌, ◌∙◌, ℕ, ◌+◌, ◌<◌, List, ◌∷◌, [], ◌++◌, length, get_or, map, take, ap, subst, append_assoc}
use Rattle.std.specs.List.{AllZip}
use Rattle.place_names.specs.declared.named_place.NamedPlace.{NamedPlace}
use Rattle.text_tables.proofs.RowsBelow.{AllZip-taken_more}
use Rattle.text_tables.specs.declared.clock.Clock.{Clock}
use Rattle.plan_reasons.specs.declared.journey.Journey.{Journey}
use Rattle.plan_table.specs.declared.plan_list.PlanList.{PlanList}
use Rattle.plan_table.specs.declared.plan_list.Shortfall.{Shortfall}
use Rattle.plan_table.specs.Cells.{AreJourneyFields, IsJourneyRow, csv_titles, shortfall_fields}
use Rattle.text_tables.specs.Row.{Row}
use Rattle.plan_table.specs.inner.Rows.{AreCsvRows, AreJourneyRows, AreJourneysFields}

-- the row of one more wagon that goes
pub AreJourneyRows-more : (places : List NamedPlace) (clock : Clock) (journeys : List Journey) (before all : List Row) (i : ℕ) (d journey : Journey) (row : Row) → AreJourneyRows places clock (take i journeys) before
    → i < length journeys → journey ≡ get_or journeys i d → IsJourneyRow places clock journey row → all ≡ before ++ row ∷ [] → AreJourneyRows places clock (take (i + 1) journeys) all
AreJourneyRows-more places clock journeys before all i d journey row h lt at is added = record {
  rows = h.rows ++ row ∷ [];
  each = AllZip-taken_more (IsJourneyRow places clock) journeys h.rows i d journey row lt at h.each is;
  whole = added ∙ ap (λ rows. rows ++ row ∷ []) h.whole;
}

-- the fields of one more wagon that goes
pub AreJourneysFields-more : (places : List NamedPlace) (clock : Clock) (journeys : List Journey) (first before all : List Row) (i : ℕ) (d journey : Journey) (row : Row)
    → AreJourneysFields places clock (take i journeys) first before → i < length journeys → journey ≡ get_or journeys i d → AreJourneyFields places clock journey row → all ≡ before ++ row ∷ []
    → AreJourneysFields places clock (take (i + 1) journeys) first all
AreJourneysFields-more places clock journeys first before all i d journey row h lt at is added = record {
  rows = h.rows ++ row ∷ [];
  each = AllZip-taken_more (AreJourneyFields places clock) journeys h.rows i d journey row lt at h.each is;
  whole = added ∙ ap (λ rows. rows ++ row ∷ []) h.whole ∙ append_assoc first h.rows (row ∷ []);
}

-- all rows of a plan for a spreadsheet
pub AreCsvRows-made : (places : List NamedPlace) (clock : Clock) (plan : PlanList) (journeys : List Journey) (shortfalls : List Shortfall) (titles with_journeys all : List Row) → journeys ≡ plan.journeys.items
    → shortfalls ≡ plan.shortfalls.items → titles ≡ csv_titles ∷ [] → AreJourneysFields places clock journeys titles with_journeys → all ≡ with_journeys ++ map (shortfall_fields places) shortfalls
    → AreCsvRows places clock plan all
AreCsvRows-made places clock plan journeys shortfalls titles with_journeys all js ss first fields added = record {
  rows = fields.rows;
  each = subst (λ xs. AllZip (AreJourneyFields places clock) xs fields.rows) js fields.each;
  whole = added ∙ ap (λ xs. with_journeys ++ map (shortfall_fields places) xs) ss ∙ ap (λ xs. xs ++ map (shortfall_fields places) plan.shortfalls.items) (fields.whole ∙ ap (λ xs. xs ++ fields.rows) first);
}
