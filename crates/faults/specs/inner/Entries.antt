-- The entries of the manual, each beside its number.
use Rattle.std.specs.Prelude.{ℕ, Bool, true, false, ◌&&◌, nat_eq, List, [], ◌∷◌, length, take}
use Rattle.std.specs.Borrow.{Bor}
use Rattle.std.specs.Cmp.Lexicographic.{pointwise}
use Rattle.faults.specs.Manual.{heading}

-- whether an entry begins with this heading
abbrev pub begins_with : List ℕ → List ℕ → Bool
begins_with entry title = pointwise nat_eq (take (length title) entry) title

-- whether these are the numbers of these refusals, each with an entry that begins with the refusal's heading
abbrev pub are_entries : (listed : List (ℕ × List ℕ)) (entries : List (ℕ × Bor (List ℕ))) → Bool
are_entries [] [] = true
are_entries [] (e ∷ entries) = false
are_entries (r ∷ listed) [] = false
are_entries (r ∷ listed) (e ∷ entries) = nat_eq e.0 r.0 && begins_with e.1.now (heading r.0 r.1) && are_entries listed entries
