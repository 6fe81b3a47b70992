-- Writing all of a text in pieces.
use Rattle.std.proofs.Common.{◌≡◌, ℕ, List, [], ◌++◌, refl, sym, ap, ◌∙◌, take, drop, append_assoc}
use Rattle.std.specs.Prelude.{Option}
use Rattle.std.proofs.lemmas.List.{take-append-drop}
use Rattle.std.specs.Io.KnownBytes.{Appends}
use Rattle.std.proofs.KnownBytes.{Appends-trans, Appends-nil}

-- a part of the bytes is written, and the rest isn't yet
pub record WrittenSoFar (before now : Option (List ℕ)) (bytes rest : List ℕ) : Type 0 where
  pub part : List ℕ
  pub parts : bytes ≡ part ++ rest
  pub written : Appends before now part

pub none_written : (before : Option (List ℕ)) (bytes : List ℕ) → WrittenSoFar before before bytes bytes
none_written before bytes = record { part = []; parts = refl; written = Appends-nil before }

pub writes_on : (a b c : Option (List ℕ)) (bytes rest : List ℕ) (n : ℕ) → WrittenSoFar a b bytes rest → Appends b c (take n rest) → WrittenSoFar a c bytes (drop n rest)
writes_on a b c bytes rest n so more = record {
  part = so.part ++ take n rest;
  parts = so.parts ∙ ap (λ (xs : List ℕ). so.part ++ xs) (sym (take-append-drop n rest)) ∙ sym (append_assoc so.part (take n rest) (drop n rest));
  written = Appends-trans a b c so.part (take n rest) so.written more;
}
