-- Texts that are joined one after the other.
use Rattle.std.specs.Prelude.{ℕ, ◌==◌, if◌then◌else◌, List, ◌∷◌}

-- text k, behind the byte that parts it from those before it
abbrev pub next_part : (byte k : ℕ) → (text : List ℕ) → List ℕ
next_part byte k text = if k == 0 then text else byte ∷ text
