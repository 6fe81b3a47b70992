-- How often a reader of records was asked for one.
use Rattle.std.proofs.Common.{◌+◌, ◌≤◌, ℕ, List, Option, arith}
use Rattle.csv.specs.declared.reader.Reader.{Reader}
use Rattle.csv_records.specs.Requests.{IsRequest, AreRequests, none_yet, one_more, AsksAtMost}

module _ {R : Type 0} (remaining : R → Option (List ℕ)) (before : Reader R) where
  asks_none : (most : ℕ) → AsksAtMost remaining before most before
  asks_none most = record { count = 0; few = omega arith; requests = none_yet }

  -- one request more
  pub asks_more : (most more : ℕ) (between after : Reader R) → most + 1 ≤ more → AsksAtMost remaining before most between → IsRequest remaining between after → AsksAtMost remaining before more after
  asks_more most more between after enough h asked = record {
    count = h.count + 1;
    few = omega (arith, h.few);
    requests = one_more h.count between after h.requests asked;
  }

  -- the first request
  pub asks_once : (more : ℕ) (after : Reader R) → 1 ≤ more → IsRequest remaining before after → AsksAtMost remaining before more after
  asks_once more after enough asked = asks_more 0 more before after enough (asks_none 0) asked

-- requests that follow one request
requests_after : {R : Type 0} (remaining : R → Option (List ℕ)) (before first : Reader R) (count : ℕ) (after : Reader R) → IsRequest remaining before first → AreRequests remaining first count after → AreRequests remaining before (count + 1) after
requests_after remaining before first count after asked none_yet = one_more 0 before first none_yet asked
requests_after remaining before first count after asked (one_more n between last h more) = one_more (n + 1) between last (requests_after remaining before first n between asked h) more

pub asks_after : {R : Type 0} (remaining : R → Option (List ℕ)) (before first : Reader R) (most more : ℕ) (after : Reader R) → most + 1 ≤ more → IsRequest remaining before first → AsksAtMost remaining first most after → AsksAtMost remaining before more after
asks_after remaining before first most more after enough asked h = record {
  count = h.count + 1;
  few = omega (arith, h.few);
  requests = requests_after remaining before first h.count after asked h.requests;
}
