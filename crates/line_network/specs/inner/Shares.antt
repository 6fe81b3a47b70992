-- How the origins are shared out over workers.
use Rattle.std.specs.Prelude.{◌≡◌, ℕ, ◌+◌, ◌%◌, ◌<◌, ◌≤◌, ◌==◌, List, All, Result, IfOk, filter, fold, length, map, slice_index_or, slice_set}
use Rattle.std.specs.List.{range_with_len}
use Rattle.std.specs.declared.alloc.AllocError.{AllocError}
use Rattle.std.specs.declared.alloc.Global.{Global}
use Rattle.std.specs.declared.vec.Vec.{Vec}
use Rattle.line_network.specs.NetworkLimits.{IsLine, max_places}
use Rattle.line_network.specs.declared.line.Line.{Line}
use Rattle.line_network.specs.declared.length.Length.{Length}
use Rattle.line_network.specs.declared.share.OriginRow.{OriginRow}
use Rattle.line_network.specs.declared.share.Share.{Share}
use Rattle.line_network.specs.declared.share.Work.{Work}
use Rattle.line_network.specs.inner.Lengths.{known}
use Rattle.line_network.specs.inner.Rows.{IsRow}

-- lines between so many places, indexed by their origins, and a worker at least
pub record IsWork (lines : List Line) (starts : List ℕ) (places workers : ℕ) : Type 0 where
  pub few : places ≤ max_places
  pub indexed : length starts ≡ places + 1
  pub each_line : All (IsLine places) lines
  pub some : 0 < workers

-- origin k goes to worker k mod workers
abbrev pub origins_of : ℕ → ℕ → ℕ → List ℕ
origins_of places workers worker = filter (λ k. k % workers == worker) (range_with_len 0 places)

-- the part of a worker
abbrev pub share_of : Work → (worker : ℕ) → Share
share_of work worker = record { work = work; worker = worker }

-- what a worker answers: a row for each of its origins, none left out, none twice and no other
pub record IsShare (lines : List Line) (places workers worker : ℕ) (rows : List OriginRow) : Type 0 where
  pub origins : map (λ r. r.origin) rows ≡ origins_of places workers worker
  pub distances : All (λ r. IsRow lines places r.origin (known r.row.items)) rows

-- what all workers answer, in their order
pub record AreShares (lines : List Line) (places workers : ℕ) (answers : List (Result (Vec OriginRow Global) AllocError)) : Type 0 where
  pub full : length answers ≡ workers
  pub each : (k : ℕ) (d : Result (Vec OriginRow Global) AllocError) → k < workers → IfOk (slice_index_or answers k d) (λ rows. IsShare lines places workers k rows.items)

-- the rows after those of a worker are put in their places
abbrev pub put_rows : List (Vec Length Global) → List OriginRow → List (Vec Length Global)
put_rows rows share = fold (λ before r. slice_set before r.origin r.row) rows share
