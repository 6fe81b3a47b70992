-- On the fields of a record: how many there are.
use Rattle.std.proofs.Common.{◌≡◌, ◌≢◌, ℕ, false, List, [], ◌∷◌, length, Some, None, refl, arith}
use Rattle.csv.specs.Records.{field_at}
use Rattle.csv_records.proofs.FieldLemmas.{field_at-known}
use Rattle.csv_records.specs.Fields.{Record}
use Rattle.place_names.specs.Records.{is_header, place_record}

-- a record of four fields is these
pub four : (fields : Record) (a b c d : List ℕ) → length fields ≡ 4
    → field_at fields 0 ≡ Some a → field_at fields 1 ≡ Some b → field_at fields 2 ≡ Some c → field_at fields 3 ≡ Some d
    → fields ≡ a ∷ b ∷ c ∷ d ∷ []
unfolding field_at
four (w ∷ x ∷ y ∷ z ∷ []) a b c d n p q r s = cc (p, q, r, s)
four [] a b c d n p q r s = absurd (omega arith)
four (w ∷ []) a b c d n p q r s = absurd (omega arith)
four (w ∷ x ∷ []) a b c d n p q r s = absurd (omega arith)
four (w ∷ x ∷ y ∷ []) a b c d n p q r s = absurd (omega arith)
four (w ∷ x ∷ y ∷ z ∷ more ∷ rest) a b c d n p q r s = absurd (omega arith)

pub ruleset of_four = (field_at-known, four)

-- a record of another count of fields names no place, and is no header
of_other_count : (fields : Record) → length fields ≢ 4 → (place_record fields ≡ None) × (is_header fields ≡ false)
of_other_count (w ∷ x ∷ y ∷ z ∷ []) n = absurd (n (omega arith))
of_other_count [] n = (refl, refl)
of_other_count (w ∷ []) n = (refl, refl)
of_other_count (w ∷ x ∷ []) n = (refl, refl)
of_other_count (w ∷ x ∷ y ∷ []) n = (refl, refl)
of_other_count (w ∷ x ∷ y ∷ z ∷ more ∷ rest) n = (refl, refl)

pub place_record-none : (fields : Record) → length fields ≢ 4 → place_record fields ≡ None
place_record-none fields n = (of_other_count fields n).0

pub is_header-false : (fields : Record) → length fields ≢ 4 → is_header fields ≡ false
is_header-false fields n = (of_other_count fields n).1

pub ruleset of_other = (place_record-none, is_header-false)
