-- What the fields of a record of a roster say.
use Rattle.std.specs.Prelude.{ℕ, Bool, false, ◌&&◌, if◌then◌else◌, nat_lt, List, [], ◌∷◌, Option, Some, None, codes}
use Rattle.std.specs.Result.{result_ok}
use Rattle.csv_records.specs.Fields.{Record, ◌>>=◌, is_text, place_in, text_in, whole_number_in}
use Rattle.rail_codes.specs.ClassCode.{class_code_of}
use Rattle.rail_codes.specs.Moment.{moment_of}
use Rattle.rail_codes.specs.WagonNumber.{wagon_number_of}
use Rattle.wagons_and_orders.specs.declared.wagon_row.WagonRow.{WagonRow}
use Rattle.wagons_and_orders.specs.StatusWords.{status_of_word}
use Rattle.move_messages.specs.MaxLoad.{max_load}

-- whether a record is the header
abbrev pub is_header : Record → Bool
is_header (wagon ∷ class ∷ load ∷ status ∷ place ∷ moment ∷ []) =
    is_text (codes "wagon") wagon && is_text (codes "class") class && is_text (codes "load") load
    && is_text (codes "status") status && is_text (codes "place") place && is_text (codes "moment") moment
is_header fields = false

abbrev pub number_in : List ℕ → Option (List ℕ)
number_in field = text_in field >>= λ text. result_ok (wagon_number_of text)

abbrev pub class_in : List ℕ → Option (List ℕ)
class_in field = text_in field >>= λ text. result_ok (class_code_of text)

abbrev pub moment_in : List ℕ → Option ℕ
moment_in field = text_in field >>= λ text. result_ok (moment_of text)

-- kg: 1 to 7 digits that spell a number of at most 200,000
abbrev pub load_in : List ℕ → Option ℕ
load_in field = whole_number_in field >>= within_limit
  where
    within_limit : ℕ → Option ℕ
    within_limit number = if nat_lt max_load number then None else Some number

-- the row of the wagon that six fields say, if each is as its rule asks: nobody holds it, and it is promised to nobody
abbrev pub wagon_said : (wagon class load status place moment : List ℕ) → Option WagonRow
wagon_said wagon class load status place moment = do
  at ← place_in place
  last ← moment_in moment
  number ← number_in wagon
  kind ← class_in class
  limit ← load_in load
  doing ← status_of_word status at last
  Some (record { number = number; class = kind; load_limit = limit; status = doing; held = false; last = last; promise = None })

-- what a record says, if it has six fields that say a wagon
abbrev pub wagon_record : Record → Option WagonRow
wagon_record (wagon ∷ class ∷ load ∷ status ∷ place ∷ moment ∷ []) = wagon_said wagon class load status place moment
wagon_record fields = None
