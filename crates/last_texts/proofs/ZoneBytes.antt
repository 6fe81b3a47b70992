-- What is read of a file, up to so many bytes.
use Rattle.std.proofs.Common.{◌≡◌, ◌∙◌, ℕ, List, [], ◌++◌, Option, Some, None, ap, subst, take}
use Rattle.std.specs.Prelude.{IfSome, option_map}
use Rattle.office_files.specs.InFile.{HasBytes}

pub taken_bytes : (known remaining read : Option (List ℕ)) (limit most : ℕ) (old new : List ℕ) → HasBytes known remaining → read ≡ option_map (take limit) remaining → limit ≡ most → old ≡ []
    → IfSome read (λ xs. new ≡ old ++ xs) → IfSome known (λ bytes. new ≡ take most bytes)
taken_bytes None remaining read limit most old new has is limit_is empty given = tt
taken_bytes (Some bytes) remaining read limit most old new has is limit_is empty given =
    let all : read ≡ Some (take most bytes) =
    is ∙ ap (λ (r : Option (List ℕ)). option_map (take limit) r) has ∙ ap (λ (n : ℕ). option_map (take n) (Some bytes)) limit_is in
    let whole : new ≡ old ++ take most bytes = subst (λ (o : Option (List ℕ)). IfSome o (λ xs. new ≡ old ++ xs)) all given in
    whole ∙ ap (λ (t : List ℕ). t ++ take most bytes) empty
