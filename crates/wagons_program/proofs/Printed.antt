-- From a text that was made and printed to what a word does.
use Rattle.std.proofs.Common.{◌≡◌, ℕ, Bool, List, Option, None, Result, Ok, Err, IfOk}
use Rattle.std.specs.Prelude.{IsOkAnd, OnOk}
use Rattle.std.specs.List.{AllZip}
use Rattle.command_line.specs.declared.office_options.FeedOptions.{FeedOptions}
use Rattle.command_line.specs.declared.office_options.OfficeOptions.{OfficeOptions}
use Rattle.commit_book.specs.Books.{BookValue}
use Rattle.commit_book.specs.Setting.{Setting}
use Rattle.line_network.specs.Network.{NetworkValue}
use Rattle.office_files.specs.InFile.{BytesAt, HasBytes}
use Rattle.wagons_program.specs.Brought.{IsBroughtTo}
use Rattle.wagons_program.specs.Fed.{IsFedPrinted, IsReported, IsReportedWithNotes}
use Rattle.wagons_program.specs.FirstBook.{IsFirstBookFor}
use Rattle.wagons_program.specs.OfLast.{PrintsOfLast}
use Rattle.wagons_program.specs.Streams.{Prints, Streams, streams, without_output}

-- a text of the last version was made, and printed
pub of_last : {E F T : Type 0} (bytes_at : BytesAt) (bytes : T → List ℕ) (options : OfficeOptions) (IsText : BookValue → List ℕ → Type 0) (given : Streams) (networks : List NetworkValue)
    (book : BookValue) (refused : ℕ) (made : Result T E) (result : Result ℕ F) (Done : ℕ → Type 0)
    → IsBroughtTo bytes_at options networks (without_output given) book refused → IfOk made (λ text. IsText book (bytes text))
    → IfOk result (λ status. status ≡ 0) → OnOk result (IsOkAnd made (λ text. Prints given (bytes text)))
    → ((ended : ℕ) → PrintsOfLast bytes_at options IsText given ended → Done ended) → IfOk result Done
of_last bytes_at bytes options IsText given networks book refused made (Err fault) Done brought texts same printed done = tt
of_last bytes_at bytes options IsText given networks book refused (Err why) (Ok it) Done brought texts same printed done = absurd printed
of_last bytes_at bytes options IsText given networks book refused (Ok text) (Ok it) Done brought texts same printed done =
    done it
    (record {
      networks = networks;
      book = book;
      refused = refused;
      brought = brought;
      text = bytes text;
      is_text = texts;
      printed = printed;
      status_is = same;
    })

-- what a feed printed, whatever is on standard input
pub fed_beside : {F : Type 0} (bytes_at : BytesAt) (remaining : F → Option (List ℕ)) (has_failed : F → Bool) (options : FeedOptions) (input held holds : Option (List ℕ)) (status : ℕ)
    → IsFedPrinted bytes_at remaining has_failed options (streams None held holds) status → IsFedPrinted bytes_at remaining has_failed options (streams input held holds) status
fed_beside bytes_at remaining has_failed options input held holds status fed = record {
  networks = fed.networks;
  first = fed.first;
  is_first = fed.is_first;
  files = fed.files;
  each = fed.each;
  reported = record {
    report = fed.reported.report;
    fed = fed.reported.fed;
    text = fed.reported.text;
    is_text = fed.reported.is_text;
    printed = fed.reported.printed;
    status_is = fed.reported.status_is;
  };
}

-- so of a feed of the files that its options name, whose report was printed
pub fed_by : {F E : Type 0} (bytes_at : BytesAt) (remaining : F → Option (List ℕ)) (has_failed : F → Bool) (options : FeedOptions) (networks : List NetworkValue) (first : BookValue) (files : List F) (given : Streams) (result : Result ℕ E)
    → IsFirstBookFor bytes_at options.office networks first → AllZip (λ path file. HasBytes (bytes_at path.now) (remaining file)) options.files.items files → IfOk result (IsReported first.setting remaining has_failed files given)
    → IfOk result (IsFedPrinted bytes_at remaining has_failed options given)
fed_by bytes_at remaining has_failed options networks first files given (Ok status) is_first each reported = record { networks = networks; first = first; is_first = is_first; files = files; each = each; reported = reported }
fed_by bytes_at remaining has_failed options networks first files given (Err error) is_first each reported = tt

pub without_notes : {F N E : Type 0} (setting : Setting) (remaining : F → Option (List ℕ)) (has_failed : F → Bool) (contents : N → Option (List ℕ)) (files : List F) (given : Streams) (result : Result ℕ E)
    → IfOk result (IsReportedWithNotes setting remaining has_failed contents files given) → IfOk result (IsReported setting remaining has_failed files given)
without_notes setting remaining has_failed contents files given (Ok status) noted = noted.reported
without_notes setting remaining has_failed contents files given (Err error) noted = tt
