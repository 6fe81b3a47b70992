-- That a text has records, and how the records that a reader has given and those that it has left are those of its text.
use Rattle.std.proofs.Common.{◌≡◌, ℕ, zero, suc, ◌+◌, ◌*◌, ◌<◌, ◌≤◌, true, false, List, [], ◌∷◌, ◌++◌, length, Option, Some, None, IfSome, option_map, refl, inl, inr, cond, arith}
use Rattle.std.proofs.lemmas.Bool.{cases_Bool}
use Rattle.csv.proofs.ReadFacts.{rows-end, rows-more}
use Rattle.csv.specs.Machine.{Read, ends_at_end, field_after, fields_after, is_end, next_record, step}
use Rattle.csv.specs.Reading.{AreRecords, ReadRecord, Reached, default_config, source_of, strip_bom}
use Rattle.csv.specs.declared.parser.Config.{Config}
use Rattle.csv.specs.declared.parser.State.{State}
use Rattle.csv.specs.declared.parser.State.TheVariants as st
use Rattle.csv.specs.declared.reader.Reader.{Reader}
use Rattle.csv_records.specs.Fields.{Record}
use Rattle.csv_records.specs.Files.{AreRecordsOf}
use Rattle.csv_records.specs.Requests.{AreLeft, IsSetUp}

-- what a record leaves of a text is no longer than the text
not_longer : (cfg : Config) (s : State) (fields : Record) (field xs : List ℕ) (p : Read) → next_record cfg s fields field xs ≡ Some p → length p.2 ≤ length xs
unfolding next_record
not_longer cfg s fields field [] p e = elim (cases_Bool (ends_at_end s)) [
  | inl ends ↦ let same : p.2 ≡ [] = cc (rw ends at e) in rw same (omega arith)
  | inr ends ↦ cc (rw ends at e)
]
not_longer cfg s fields field (c ∷ rest) p e = elim (cases_Bool (is_end (step cfg s c).1)) [
  | inl ends ↦ let same : rest ≡ p.2 = cc (rw ends at e) in rw (← same) (omega arith)
  | inr goes ↦
      let shorter : length p.2 ≤ length rest = not_longer cfg (step cfg s c).0 (fields_after (step cfg s c).1 fields field) (field_after (step cfg s c).1 c field) rest p (rw goes at e) in
      omega arith
]

-- what reading a text on takes at most: a byte a record, and the last record
abbrev at_end : State → ℕ
at_end s = cond (ends_at_end s) 1 0

at_end-small : (s : State) → at_end s ≤ 1
at_end-small s = elim (cases_Bool (ends_at_end s)) [ inl ends ↦ rw ends (omega arith) | inr goes ↦ rw goes (omega arith) ]

abbrev weight : State → List ℕ → ℕ
weight s xs = 2 * length xs + at_end s

lighter : (cfg : Config) (s : State) (xs : List ℕ) (p : Read) → next_record cfg s [] [] xs ≡ Some p → weight p.1 p.2 < weight s xs
unfolding next_record
lighter cfg s [] p e = elim (cases_Bool (ends_at_end s)) [
  | inl ends ↦ let same : p ≡ ([] ∷ [], st.StartRecord, []) = cc (rw ends at e) in rw (same, ends) (omega arith)
  | inr ends ↦ cc (rw ends at e)
]
lighter cfg s (c ∷ rest) p e = elim (cases_Bool (is_end (step cfg s c).1)) [
  | inl ends ↦ let same : rest ≡ p.2 = cc (rw ends at e) in rw (← same) (omega (arith, at_end-small p.1))
  | inr goes ↦
      let shorter : length p.2 ≤ length rest = not_longer cfg (step cfg s c).0 (fields_after (step cfg s c).1 [] []) (field_after (step cfg s c).1 c []) rest p (rw goes at e) in
      omega (arith, at_end-small p.1)
]

-- the records of a text are its next one and those after it
records_then : (cfg : Config) (s : State) (xs : List ℕ) (o : Option Read) → next_record cfg s [] [] xs ≡ o
    → ((p : Read) → next_record cfg s [] [] xs ≡ Some p → (records : List Record) × AreRecords cfg p.1 p.2 records)
    → (records : List Record) × AreRecords cfg s xs records
unfolding Reached
records_then cfg s xs None e more = ([], (s, xs, (refl, refl), e))
records_then cfg s xs (Some p) e more =
    let (records, whole) = more p e in
    (p.0 ∷ records, (whole.0, whole.1, (p, e, refl, whole.2), whole.3))

-- each text has records
records_within : (cfg : Config) (n : ℕ) (s : State) (xs : List ℕ) → weight s xs < n → (records : List Record) × AreRecords cfg s xs records
records_within cfg zero s xs h = absurd (omega arith)
records_within cfg (suc n) s xs h =
    records_then cfg s xs (next_record cfg s [] [] xs) refl (λ p e. records_within cfg n p.1 p.2 (omega (arith, lighter cfg s xs p e)))

records_of_known : (s : State) (known : Option (List ℕ)) → (records : List Record) × IfSome known (λ bytes. AreRecords default_config s bytes records)
records_of_known s None = ([], tt)
records_of_known s (Some bytes) = records_within default_config (weight s bytes + 1) s bytes (omega arith)

-- each reader has records left
pub records_left : {R : Type 0} (remaining : R → Option (List ℕ)) (reader : Reader R) → (records : List Record) × AreLeft remaining reader records
records_left remaining reader = records_of_known reader.state (source_of remaining reader)

-- records that a text begins with, and those of the rest
joined : (cfg : Config) (s s2 : State) (xs ys : List ℕ) (done more : List Record) → Reached cfg s xs done s2 ys → AreRecords cfg s2 ys more → AreRecords cfg s xs (done ++ more)
unfolding Reached
joined cfg s s2 xs ys [] more h r = rw (h.0, h.1) r
joined cfg s s2 xs ys (fields ∷ done) more h r =
    let (s3, zs, reached, ended) = joined cfg h.0.1 s2 h.0.2 ys done more h.3 r in
    (s3, zs, (h.0, h.1, h.2, reached), ended)

-- the records between two states of a reader
abbrev pub Between : {R : Type 0} → (R → Option (List ℕ)) → Reader R → Reader R → List Record → Type 0
Between remaining start now done = IfSome (source_of remaining start)
    (λ bytes. (left : List ℕ) × (source_of remaining now ≡ Some left) × Reached default_config start.state bytes done now.state left)

pub between_start : {R : Type 0} (remaining : R → Option (List ℕ)) (start : Reader R) (known : Option (List ℕ)) → source_of remaining start ≡ known
    → IfSome known (λ bytes. (left : List ℕ) × (source_of remaining start ≡ Some left) × Reached default_config start.state bytes [] start.state left)
unfolding Reached
between_start remaining start None e = tt
between_start remaining start (Some bytes) e = (bytes, e, (refl, refl))

pub between_more : {R : Type 0} (remaining : R → Option (List ℕ)) (start a b : Reader R) (done : List Record) (fields : Record) (known : Option (List ℕ))
    → IsSetUp a → ReadRecord remaining a b true fields
    → IfSome known (λ bytes. (left : List ℕ) × (source_of remaining a ≡ Some left) × Reached default_config start.state bytes done a.state left)
    → IfSome known (λ bytes. (left : List ℕ) × (source_of remaining b ≡ Some left) × Reached default_config start.state bytes (done ++ fields ∷ []) b.state left)
between_more remaining start a b done fields None set r h = tt
between_more remaining start a b done fields (Some bytes) set r h =
    rows-more remaining a b fields default_config start.state bytes h.0 done set.settings h.1 h.2 r

pub left_after : {R : Type 0} (remaining : R → Option (List ℕ)) (start now : Reader R) (done more : List Record) (known : Option (List ℕ))
    → IfSome known (λ bytes. (left : List ℕ) × (source_of remaining now ≡ Some left) × Reached default_config start.state bytes done now.state left)
    → AreLeft remaining now more → IfSome known (λ bytes. AreRecords default_config start.state bytes (done ++ more))
left_after remaining start now done more None h r = tt
left_after remaining start now done more (Some bytes) h r =
    joined default_config start.state now.state bytes h.0 done more h.2 (rw h.1 at r)

pub none_left : {R : Type 0} (remaining : R → Option (List ℕ)) (a b : Reader R) (fields : Record) (known : Option (List ℕ)) → source_of remaining a ≡ known
    → IsSetUp a → ReadRecord remaining a b false fields → IfSome known (λ bytes. AreRecords default_config a.state bytes [])
unfolding Reached
none_left remaining a b fields None e set r = tt
none_left remaining a b fields (Some bytes) e set r = (a.state, bytes, (refl, refl), rows-end remaining a b fields default_config bytes set.settings e r)

-- a new reader has all records of its bytes left
pub from_start : {R : Type 0} (remaining : R → Option (List ℕ)) (reader : Reader R) (known : Option (List ℕ)) (records : List Record)
    → source_of remaining reader ≡ option_map strip_bom known → reader.state ≡ st.StartRecord → AreLeft remaining reader records
    → IfSome known (λ bytes. AreRecordsOf bytes records)
from_start remaining reader None records source state left = tt
from_start remaining reader (Some bytes) records source state left = rw (source, state) at left
