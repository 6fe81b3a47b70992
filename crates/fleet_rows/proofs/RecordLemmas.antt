-- On the fields of a record: how many there are.
use Rattle.std.proofs.Common.{◌≡◌, ◌≢◌, false, List, [], ◌∷◌, ℕ, length, Some, None, refl, arith}
use Rattle.csv.specs.Records.{field_at}
use Rattle.csv_records.proofs.FieldLemmas.{field_at-known}
use Rattle.csv_records.specs.Fields.{Record}
use Rattle.fleet_rows.specs.Records.{is_header, wagon_record}

-- a record of six fields is these
pub six : (fields : Record) (a b c d e f : List ℕ) → length fields ≡ 6
    → field_at fields 0 ≡ Some a → field_at fields 1 ≡ Some b → field_at fields 2 ≡ Some c → field_at fields 3 ≡ Some d → field_at fields 4 ≡ Some e → field_at fields 5 ≡ Some f
    → fields ≡ a ∷ b ∷ c ∷ d ∷ e ∷ f ∷ []
unfolding field_at
six (u ∷ v ∷ w ∷ x ∷ y ∷ z ∷ []) a b c d e f n p q r s t o = cc (p, q, r, s, t, o)
six [] a b c d e f n p q r s t o = absurd (omega arith)
six (u ∷ []) a b c d e f n p q r s t o = absurd (omega arith)
six (u ∷ v ∷ []) a b c d e f n p q r s t o = absurd (omega arith)
six (u ∷ v ∷ w ∷ []) a b c d e f n p q r s t o = absurd (omega arith)
six (u ∷ v ∷ w ∷ x ∷ []) a b c d e f n p q r s t o = absurd (omega arith)
six (u ∷ v ∷ w ∷ x ∷ y ∷ []) a b c d e f n p q r s t o = absurd (omega arith)
six (u ∷ v ∷ w ∷ x ∷ y ∷ z ∷ more ∷ rest) a b c d e f n p q r s t o = absurd (omega arith)

pub ruleset of_six = (field_at-known, six)

-- a record of another count of fields says no wagon, and is no header
of_other_count : (fields : Record) → length fields ≢ 6 → (wagon_record fields ≡ None) × (is_header fields ≡ false)
of_other_count (u ∷ v ∷ w ∷ x ∷ y ∷ z ∷ []) n = absurd (n (omega arith))
of_other_count [] n = (refl, refl)
of_other_count (u ∷ []) n = (refl, refl)
of_other_count (u ∷ v ∷ []) n = (refl, refl)
of_other_count (u ∷ v ∷ w ∷ []) n = (refl, refl)
of_other_count (u ∷ v ∷ w ∷ x ∷ []) n = (refl, refl)
of_other_count (u ∷ v ∷ w ∷ x ∷ y ∷ []) n = (refl, refl)
of_other_count (u ∷ v ∷ w ∷ x ∷ y ∷ z ∷ more ∷ rest) n = (refl, refl)

pub wagon_record-none : (fields : Record) → length fields ≢ 6 → wagon_record fields ≡ None
wagon_record-none fields n = (of_other_count fields n).0

pub is_header-false : (fields : Record) → length fields ≢ 6 → is_header fields ≡ false
is_header-false fields n = (of_other_count fields n).1

pub ruleset of_other = (wagon_record-none, is_header-false)
