-- A field that isn't as its rule asks, by its texts.
use Rattle.std.specs.Prelude.{ℕ, List, Option, option_map}
use Rattle.std.specs.Borrow.{Bor}

-- its name, its text, and what that isn't
abbrev pub unfit_texts : Option (Bor (List ℕ) × Bor (List ℕ) × Bor (List ℕ)) → Option (List ℕ × List ℕ × List ℕ)
unfit_texts unfit = option_map (λ (texts : Bor (List ℕ) × Bor (List ℕ) × Bor (List ℕ)). (texts.0.now, texts.1.now, texts.2.now)) unfit
