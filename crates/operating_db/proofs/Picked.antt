-- What a walk over a list has picked so far.
use Rattle.std.proofs.Common.{◌≡◌, ◌∙◌, ◌+◌, ◌<◌, ℕ, Option, Some, None, List, [], ◌∷◌, ◌++◌, length, get_or, take, sym, ap, append-nil}
use Rattle.std.specs.List.{cons_option, filter_map}
use Rattle.std.proofs.lemmas.List.{take_more}
use Rattle.std.proofs.lemmas.List.Elements.{filter_map-append}

module _ {X Y : Type 0} (pick : X → Option Y) (xs : List X) (k : ℕ) (x : X) (within : k < length xs) (at : x ≡ get_or xs k x) where
  more : filter_map pick (take (k + 1) xs) ≡ filter_map pick (take k xs) ++ cons_option (pick x) []
  more = ap (filter_map pick) (take_more xs k x within ∙ ap (λ y. take k xs ++ y ∷ []) (sym at)) ∙ filter_map-append pick (take k xs) (x ∷ [])

  pub picked : (y : Y) → pick x ≡ Some y → filter_map pick (take (k + 1) xs) ≡ filter_map pick (take k xs) ++ y ∷ []
  picked y h = more ∙ ap (λ o. filter_map pick (take k xs) ++ cons_option o []) h

  pub passed : pick x ≡ None → filter_map pick (take (k + 1) xs) ≡ filter_map pick (take k xs)
  passed h = more ∙ ap (λ o. filter_map pick (take k xs) ++ cons_option o []) h ∙ append-nil (filter_map pick (take k xs))
