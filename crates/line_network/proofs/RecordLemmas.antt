-- On the fields of a record: how many there are.
use Rattle.std.proofs.Common.{◌≡◌, ◌≢◌, ℕ, false, List, [], ◌∷◌, length, Some, None, refl, arith}
use Rattle.csv.specs.Records.{field_at}
use Rattle.csv_records.proofs.FieldLemmas.{field_at-known}
use Rattle.csv_records.specs.Fields.{Record}
use Rattle.line_network.specs.Records.{is_header, line_record}

-- a record of five fields is these
pub five : (fields : Record) (a b c d e : List ℕ) → length fields ≡ 5
    → field_at fields 0 ≡ Some a → field_at fields 1 ≡ Some b → field_at fields 2 ≡ Some c → field_at fields 3 ≡ Some d → field_at fields 4 ≡ Some e
    → fields ≡ a ∷ b ∷ c ∷ d ∷ e ∷ []
unfolding field_at
five (v ∷ w ∷ x ∷ y ∷ z ∷ []) a b c d e n p q r s t = cc (p, q, r, s, t)
five [] a b c d e n p q r s t = absurd (omega arith)
five (v ∷ []) a b c d e n p q r s t = absurd (omega arith)
five (v ∷ w ∷ []) a b c d e n p q r s t = absurd (omega arith)
five (v ∷ w ∷ x ∷ []) a b c d e n p q r s t = absurd (omega arith)
five (v ∷ w ∷ x ∷ y ∷ []) a b c d e n p q r s t = absurd (omega arith)
five (v ∷ w ∷ x ∷ y ∷ z ∷ more ∷ rest) a b c d e n p q r s t = absurd (omega arith)

pub ruleset of_five = (field_at-known, five)

-- a record of another count of fields says no line, and is no header
of_other_count : (fields : Record) → length fields ≢ 5 → (line_record fields ≡ None) × (is_header fields ≡ false)
of_other_count (v ∷ w ∷ x ∷ y ∷ z ∷ []) n = absurd (n (omega arith))
of_other_count [] n = (refl, refl)
of_other_count (v ∷ []) n = (refl, refl)
of_other_count (v ∷ w ∷ []) n = (refl, refl)
of_other_count (v ∷ w ∷ x ∷ []) n = (refl, refl)
of_other_count (v ∷ w ∷ x ∷ y ∷ []) n = (refl, refl)
of_other_count (v ∷ w ∷ x ∷ y ∷ z ∷ more ∷ rest) n = (refl, refl)

pub line_record-none : (fields : Record) → length fields ≢ 5 → line_record fields ≡ None
line_record-none fields n = (of_other_count fields n).0

pub is_header-false : (fields : Record) → length fields ≢ 5 → is_header fields ≡ false
is_header-false fields n = (of_other_count fields n).1

pub ruleset of_other = (line_record-none, is_header-false)
