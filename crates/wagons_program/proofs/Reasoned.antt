-- From the reasons of the plan that is asked about to what `why` prints.
use Rattle.std.proofs.Common.{◌≡◌, ℕ, List, Option, Result, Ok, Err, IfOk, subst, sym}
use Rattle.std.specs.Prelude.{option_copied}
use Rattle.command_line.specs.declared.why_options.When.{When}
use Rattle.command_line.specs.declared.why_options.WhyOptions.{WhyOptions}
use Rattle.office_files.specs.InFile.{BytesAt}
use Rattle.office_files.specs.PlacesFor.{AreNamesAt}
use Rattle.place_names.specs.declared.named_place.NamedPlace.{NamedPlace}
use Rattle.wagons_program.specs.Reasoned.{AreReasonsFor, AreReasonsPrinted}
use Rattle.wagons_program.specs.Streams.{Streams}

-- the reasons of the plan that the options ask about were printed
pub reasons_for : {E : Type 0} (bytes_at : BytesAt) (options : WhyOptions) (when : When) (lent names : Option (List NamedPlace)) (given : Streams) (result : Result ℕ E) → options.when ≡ when → lent ≡ names
    → AreNamesAt bytes_at (option_copied options.places) names → IfOk result (AreReasonsFor bytes_at options when lent given) → IfOk result (AreReasonsPrinted bytes_at options given)
reasons_for bytes_at options when lent names given (Err why) asked same named reasons = tt
reasons_for bytes_at options when lent names given (Ok status) asked same named reasons = (
  names,
  named,
  subst (λ (it : When). AreReasonsFor bytes_at options it names given status) (sym asked)
      (subst (λ (those : Option (List NamedPlace)). AreReasonsFor bytes_at options when those given status) same reasons),
)
