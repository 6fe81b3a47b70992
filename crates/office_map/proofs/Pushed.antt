-- A text to which parts are added one after the other.
use Rattle.std.proofs.Common.{◌≡◌, ℕ, List, ◌++◌, ap, ◌∙◌, append_assoc}

-- one part behind those that were added
pub pushed : (old parts part text more : List ℕ) → text ≡ old ++ parts → more ≡ text ++ part → more ≡ old ++ (parts ++ part)
pushed old parts part text more so_far is = is ∙ ap (λ (t : List ℕ). t ++ part) so_far ∙ append_assoc old parts part
