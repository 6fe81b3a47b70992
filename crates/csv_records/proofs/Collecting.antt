-- What reading answers, from what each record gives: records so far, a fault at one, the end, and a failure.
use Rattle.std.proofs.Common.{◌≡◌, ℕ, ◌+◌, true, false, List, [], ◌∷◌, ◌++◌, length, Option, Result, Ok, Err, IfErr, refl, inl, inr, arith, length-append}
use Rattle.std.proofs.lemmas.List.{append-nil, append_assoc}
use Rattle.std.proofs.lemmas.Result.{err_from_is_err_and}
use Rattle.std.specs.Result.{IsErrAnd}
use Rattle.csv.specs.Reading.{ReadRecord, source_of}
use Rattle.csv.specs.Records.{fields_of}
use Rattle.csv.specs.declared.reader.Reader.{Reader}
use Rattle.csv_records.proofs.Remaining.{Between, between_more, between_start, left_after, none_left, records_left}
use Rattle.csv_records.specs.Fields.{Record}
use Rattle.csv_records.specs.Requests.{AreLeft, IsOutcome, IsSetUp}
use Rattle.csv_records.specs.Stopping.{IsRefusedAt, StopsAt, failed, no_record, refused_at}
use Rattle.csv_records.specs.declared.fault_at.RecordAt.{RecordAt}
use Rattle.faults.specs.declared.faults.RecordFault.{RecordFault}

module _ {R T : Type 0} (remaining : R → Option (List ℕ)) (made_of : T → List Record → Type 0) (start : Reader R) where
  -- From start on a reader has given the records below a number, and this value is collected from them.
  pub record HasRead (now : Reader R) (number : ℕ) (made : T) : Type 0 where
    pub done : List Record
    pub between : Between remaining start now done
    pub is_made : made_of made done
    pub counted : length done + 1 ≡ number

  -- the first record
  first_between : (b : Reader R) (fields : Record) → IsSetUp start → ReadRecord remaining start b true fields → Between remaining start b (fields ∷ [])
  first_between b fields set r = between_more remaining start start b [] fields (source_of remaining start) set r (between_start remaining start (source_of remaining start) refl)

  pub HasRead-first : (b : Reader R) (fields : Record) (made : T) → IsSetUp start → ReadRecord remaining start b true fields → made_of made (fields ∷ []) → HasRead b 2 made
  HasRead-first b fields made set r is = record { done = fields ∷ []; between = first_between b fields set r; is_made = is; counted = refl }

  -- one record more
  pub HasRead-more : (a b : Reader R) (number : ℕ) (made more : T) (fields : Record) (h : HasRead a number made) → IsSetUp a → ReadRecord remaining a b true fields
      → ((done : List Record) → made_of made done → length done + 1 ≡ number → made_of more (done ++ fields ∷ [])) → HasRead b (number + 1) more
  HasRead-more a b number made more fields h set r is = record {
    done = h.done ++ fields ∷ [];
    between = between_more remaining start a b h.done fields (source_of remaining start) set r h.between;
    is_made = is h.done h.is_made h.counted;
    counted = omega (arith, h.counted, length-append h.done (fields ∷ []));
  }

module _ {R T F : Type 0} (remaining : R → Option (List ℕ)) (gives : RecordFault → F → Type 0) (made_of : T → List Record → Type 0) (refuses : F → List Record → Type 0) (start : Reader R) where
  -- what was answered is that of all records from start on, or it stopped at this one
  abbrev pub Answers : Result T F → RecordAt → Type 0
  Answers result at =
      (all : List Record) × AreLeft remaining start all × IsOutcome made_of refuses result all × IfErr result (λ fault. StopsAt gives made_of refuses all fault at)

  -- a failure of memory or of the reader, as a `?` hands it on, may come at any record
  pub Answers-failure : (failure : RecordFault) (result : Result T F) (at : RecordAt) → IsErrAnd result (gives failure)
      → ((fault : F) (records : List Record) → gives failure fault → refuses fault records) → Answers result at
  Answers-failure failure result at stopped any =
      let (fault, is, from) = err_from_is_err_and result stopped in
      let (rest, left) = records_left remaining start in
      (rest, left, rw is (any fault rest from), rw is (failed failure from))

  -- there is no record
  pub Answers-none : (b : Reader R) (fields : Record) (fault : F) (at : RecordAt) → IsSetUp start → ReadRecord remaining start b false fields → refuses fault [] → at.number ≡ 1 → fields_of at.fields ≡ []
      → Answers (Err fault) at
  Answers-none b fields fault at set r refused numbered empty =
      ([], none_left remaining start b fields (source_of remaining start) refl set r, refused, no_record refl numbered empty)

  -- the first record is refused
  pub Answers-first : (b : Reader R) (result : Result T F) (fault : F) (at : RecordAt) → IsSetUp start → ReadRecord remaining start b true (fields_of at.fields) → result ≡ Err fault
      → ((rest : List Record) → refuses fault (fields_of at.fields ∷ rest)) → at.number ≡ 1 → Answers result at
  Answers-first b result fault at set r e refused numbered =
      let (rest, left) = records_left remaining b in
      let fields : Record = fields_of at.fields in
      let here : IsRefusedAt made_of refuses (fields ∷ rest) fault at =
      record { before = []; after = rest; stands = refl; numbered = numbered; read = inl refl; refused = refused } in (
        fields ∷ rest,
        left_after remaining start b (fields ∷ []) rest (source_of remaining start) (first_between remaining made_of start b fields set r) left,
        rw e (refused rest),
        rw e (refused_at here),
      )

  -- a later record is refused
  pub Answers-later : (a b : Reader R) (number : ℕ) (made : T) (result : Result T F) (fault : F) (at : RecordAt) (h : HasRead remaining made_of start a number made) → IsSetUp a
      → ReadRecord remaining a b true (fields_of at.fields) → result ≡ Err fault
      → ((done rest : List Record) → made_of made done → length done + 1 ≡ number → refuses fault (done ++ fields_of at.fields ∷ rest)) → at.number ≡ number → Answers result at
  Answers-later a b number made result fault at h set r e refused numbered =
      let (rest, left) = records_left remaining b in
      let fields : Record = fields_of at.fields in
      let between = between_more remaining start a b h.done fields (source_of remaining start) set r h.between in
      let here : IsRefusedAt made_of refuses ((h.done ++ fields ∷ []) ++ rest) fault at =
      record {
        before = h.done;
        after = rest;
        stands = append_assoc h.done (fields ∷ []) rest;
        numbered = omega (arith, numbered, h.counted);
        read = inr (made, h.is_made);
        refused = λ more. refused h.done more h.is_made h.counted;
      } in (
        (h.done ++ fields ∷ []) ++ rest,
        left_after remaining start b (h.done ++ fields ∷ []) rest (source_of remaining start) between left,
        rw e (rw append_assoc (refused h.done rest h.is_made h.counted)),
        rw e (refused_at here),
      )

  -- there is no record more
  pub Answers-end : (a b : Reader R) (number : ℕ) (made : T) (fields : Record) (at : RecordAt) (h : HasRead remaining made_of start a number made) → IsSetUp a → ReadRecord remaining a b false fields → Answers (Ok made) at
  Answers-end a b number made fields at h set r = (
    h.done ++ [],
    left_after remaining start a h.done [] (source_of remaining start) h.between (none_left remaining a b fields (source_of remaining a) refl set r),
    rw append-nil h.is_made,
    tt,
  )
