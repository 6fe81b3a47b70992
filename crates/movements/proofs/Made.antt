-- Rows that are made one after the other.
use Rattle.std.proofs.Common.{◌≡◌, ◌∙◌, ℕ, ◌+◌, ◌<◌, List, ◌∷◌, [], ◌++◌, length, get_or, take, ap, ap₂, append_assoc}
use Rattle.std.specs.List.{AllZip}
use Rattle.std.specs.Prelude.{◌==◌, false}
use Rattle.text_tables.proofs.RowsBelow.{AllZip-taken_more}
use Rattle.text_tables.specs.Aligned.{aligned_text}
use Rattle.text_tables.specs.Row.{Row}
use Rattle.text_tables.specs.RowsBelow.{AreBelow}
use Rattle.text_tables.specs.declared.aligned.Side.{Side}
use Rattle.movements.specs.TableText.{table_behind}
use Rattle.movements.specs.inner.Made.{AreRowsOf, IsTextOf}

-- the row of one item more
pub AreRowsOf-more : {A : Type 0} (IsRow : A → Row → Type 0) (items : List A) (first before all : List Row) (i : ℕ) (d item : A) (row : Row) → AreRowsOf IsRow (take i items) first before
    → i < length items → item ≡ get_or items i d → IsRow item row → all ≡ before ++ row ∷ [] → AreRowsOf IsRow (take (i + 1) items) first all
AreRowsOf-more IsRow items first before all i d item row h lt at is added = record {
  rows = h.rows ++ row ∷ [];
  each = AllZip-taken_more IsRow items h.rows i d item row lt at h.each is;
  whole = added ∙ ap (λ rows. rows ++ row ∷ []) h.whole ∙ append_assoc first h.rows (row ∷ []);
}

-- the table of these items stands behind an empty line, as there are some
behind : {A : Type 0} (IsRow : A → Row → Type 0) (sides : List Side) (titles : Row) (items : List A) (rows all : List Row) (old mid new : List ℕ) → (length items == 0) ≡ false → AllZip IsRow items rows → all ≡ titles ∷ rows
    → mid ≡ old ++ 10 ∷ [] → new ≡ mid ++ aligned_text sides all → IsTextOf IsRow (table_behind sides titles) items old new
behind IsRow sides titles [] rows all old mid new some each whole line added = absurd (cc some)
behind IsRow sides titles (x ∷ xs) [] all old mid new some each whole line added = absurd each
behind IsRow sides titles (x ∷ xs) (first ∷ others) all old mid new some each whole line added = record {
  rows = first ∷ others;
  each = each;
  whole = added ∙ ap₂ (λ (t : List ℕ) (rows : List Row). t ++ aligned_text sides rows) line whole ∙ append_assoc old (10 ∷ []) (aligned_text sides (titles ∷ first ∷ others));
}

pub IsTextOf-behind : {A : Type 0} (IsRow : A → Row → Type 0) (sides : List Side) (titles : Row) (items : List A) (all : List Row) (old mid new : List ℕ) → (length items == 0) ≡ false → AreBelow IsRow titles items all → mid ≡ old ++ 10 ∷ []
    → new ≡ mid ++ aligned_text sides all → IsTextOf IsRow (table_behind sides titles) items old new
IsTextOf-behind IsRow sides titles items all old mid new some h line added = behind IsRow sides titles items h.rows all old mid new some h.each h.whole line added

-- the first table
pub IsTextOf-first : {A : Type 0} (IsRow : A → Row → Type 0) (sides : List Side) (titles : Row) (items : List A) (all : List Row) (old new : List ℕ) → AreBelow IsRow titles items all → new ≡ old ++ aligned_text sides all
    → IsTextOf IsRow (λ rows. aligned_text sides (titles ∷ rows)) items old new
IsTextOf-first IsRow sides titles items all old new h added = record {
  rows = h.rows;
  each = h.each;
  whole = added ∙ ap (λ (rows : List Row). old ++ aligned_text sides rows) h.whole;
}
