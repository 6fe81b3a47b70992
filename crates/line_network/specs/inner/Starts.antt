-- Where the lines from each place begin in a list of lines.
use Rattle.std.specs.Prelude.{ℕ, ◌<◌, ◌≤◌, List, length, slice_index}
use Rattle.std.specs.List.{AllWithin}
use Rattle.line_network.specs.declared.line.Line.{Line}

-- the lines in order of their origins, and for each place where its lines begin
pub record AreStarts (lines : List Line) (starts : List ℕ) : Type 0 where
  pub within : (k : ℕ) → k < length starts → slice_index starts k ≤ length lines
  pub before : (k : ℕ) → k < length starts → AllWithin (λ l. l.from < k) lines 0 (slice_index starts k)
  pub behind : (k : ℕ) → k < length starts → AllWithin (λ l. k ≤ l.from) lines (slice_index starts k) (length lines)
