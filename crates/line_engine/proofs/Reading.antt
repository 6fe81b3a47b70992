-- Reading one line in pieces.
use Rattle.std.proofs.Common.{◌≡◌, ℕ, ◌+◌, ◌<◌, false, List, ◌++◌, length, refl, sym, ap, ◌∙◌, arith, append_assoc}
use Rattle.std.specs.Prelude.{Option}
use Rattle.std.proofs.lemmas.List.{length-append}
use Rattle.std.specs.Io.KnownBytes.{Consumes}
use Rattle.std.proofs.KnownBytes.{Consumes-trans}
use Rattle.line_engine.specs.Lines.{has_feed, first_line}
use Rattle.line_engine.specs.inner.Cutting.{Moves}
use Rattle.line_engine.proofs.Feeds.{has_feed-append, first_line-within}

-- what was taken off the reader so far is in the line and the window
pub record ReadSoFar (before now : Option (List ℕ)) (first taken line window : List ℕ) : Type 0 where
  pub consumed : Consumes before now taken
  pub whole : first ++ taken ≡ line ++ window
  pub free : has_feed line ≡ false

-- the window had no line feed, and more was read into it
pub reads_on : (a b c : Option (List ℕ)) (first taken line window emptied grown more filled : List ℕ) → ReadSoFar a b first taken line window
    → Moves window emptied line grown false → Consumes b c more → filled ≡ emptied ++ more → ReadSoFar a c first (taken ++ more) grown filled
reads_on a b c first taken line window emptied grown more filled so moved consumed is =
    let is_more : filled ≡ more = is ∙ ap (λ (xs : List ℕ). xs ++ more) moved.0 in
    record {
      consumed = Consumes-trans a b c taken more so.consumed consumed;
      whole = sym (append_assoc first taken more) ∙ ap (λ (xs : List ℕ). xs ++ more) so.whole ∙ rw (is_more, moved.2) refl;
      free = rw moved.2 (has_feed-append line window so.free moved.1);
    }

-- the line is longer than it may be
pub is_overlong : (a b : Option (List ℕ)) (first taken line window front rest : List ℕ) (most : ℕ) → ReadSoFar a b first taken line window
    → window ≡ front ++ rest → has_feed front ≡ false → most < length line + length front → most < length (first_line (first ++ taken))
is_overlong a b first taken line window front rest most so parts free long =
    let whole : first ++ taken ≡ (line ++ front) ++ rest = so.whole ∙ ap (λ (xs : List ℕ). line ++ xs) parts ∙ sym (append_assoc line front rest) in
    let within = first_line-within (line ++ front) rest (has_feed-append line front so.free free) in
    let len = length-append line front in
    let same : length (first_line (first ++ taken)) ≡ length (first_line ((line ++ front) ++ rest)) = ap (λ (xs : List ℕ). length (first_line xs)) whole in
    omega (arith, long, within, len, same)
