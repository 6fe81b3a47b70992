-- The line of a commit: a JSON object whose members ascend by name.
use Rattle.std.specs.Prelude.{◌≡◌, ℕ, List, map, codes}
use Rattle.serde_json.specs.Data.{Data, string, object, no_members, member}
use Rattle.serde_json.specs.Written.{compact_text}
use Rattle.rail_codes.specs.Moment.{IsMomentText}
use Rattle.line_fields.specs.Written.{list_data, number_data, pair_data}
use Rattle.move_messages.specs.declared.commit_text.CommitText.{CommitText}
use Rattle.cost_table.specs.Problem.{ProblemValue}
use Rattle.price_checker.specs.declared.prices.Prices.{Prices}
use Rattle.price_checker.specs.Snap.{SnapValue, named_pair}

-- the commit of a plan and its prices: the snapshot's version and moment, the plan's pairs by name
abbrev pub commit_of : SnapValue → List (ℕ × ℕ) → (u v : List ℕ) → CommitText
commit_of snap plan u v =
    record { version = snap.version; at = snap.problem.at; pairs = map (named_pair snap.problem) plan; u = u; v = v }

-- the same with prices as they are handed in
abbrev pub commit_with : SnapValue → List (ℕ × ℕ) → Prices → CommitText
commit_with snap plan prices = commit_of snap plan prices.u.items prices.v.items

-- the pairs at these positions, each a list of its wagon and its order
abbrev pub pairs_data : ProblemValue → List (ℕ × ℕ) → Data
pairs_data problem positions = list_data pair_data (map (named_pair problem) positions)

-- a commit, with the text of its moment
abbrev pub commit_data : CommitText → (at : List ℕ) → Data
commit_data commit at =
    object (member (codes "at") (string at)
    (member (codes "pairs") (list_data pair_data commit.pairs)
    (member (codes "type") (string (codes "commit"))
    (member (codes "u") (list_data number_data commit.u)
    (member (codes "v") (list_data number_data commit.v)
    (member (codes "version") (number_data commit.version) no_members))))))

-- the JSON of a commit with no space in it, where `at` is the text of its moment; the line feed is not part of it
pub record IsCertificateLine (commit : CommitText) (line : List ℕ) : Type 0 where
  pub at : List ℕ
  pub moment : IsMomentText commit.at at
  pub text : line ≡ compact_text (commit_data commit at)
