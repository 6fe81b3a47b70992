-- What a book keeps, call by call, and what it says of a commit of a kept problem.
use Rattle.std.proofs.Common.{◌≡◌, ◌∙◌, ◌+◌, ◌≤◌, ℕ, Bool, true, false, cond, ◌||◌, List, [], ◌∷◌, ◌++◌, length, drop, map, set, refl, sym, ap, arith, subst, length-append}
use Rattle.std.specs.Prelude.{◌==◌, nat_le, nat_lt, Option, Some, None, IfSome, is_some, All}
use Rattle.cost_table.specs.Table.{Table}
use Rattle.std.specs.List.{find}
use Rattle.std.proofs.lemmas.Bool.Decides.{nat_tests}
use Rattle.std.proofs.lemmas.List.{length-map}
use Rattle.std.proofs.lemmas.List.Elements.{All-drop, All-head, All-nil, All-push, All-set, All-tail, All-weaker}
use Rattle.std.proofs.lemmas.Option.{IfSome_then}
use Rattle.move_messages.specs.declared.commit_text.CommitText.{CommitText}
use Rattle.cost_table.specs.Problem.{ProblemValue}
use Rattle.operating_db.specs.Commits.{CanPromise}
use Rattle.operating_db.specs.Office.{Office}
use Rattle.move_messages.specs.declared.event.Event.{Event}
use Rattle.commit_book.specs.BookStep.{IsJudged, accepted_unless, is_kept, is_this, kept_after, refusal_in}
use Rattle.commit_book.specs.History.{IsLeast, IsTableAt, problem_at, replay}
use Rattle.commit_book.specs.inner.Kept.{IsBook, IsInSpan, IsKeptAt, IsMade, IsTabled, covers, is_covered, is_covering, made_of, which_of, with_kept}
use Rattle.commit_book.specs.Setting.{Setting}
use Rattle.commit_book.specs.declared.kept_problems.KeptProblem.{KeptProblem}
use Rattle.commit_book.specs.declared.made_problem.MadeProblem.{MadeProblem}
use Rattle.faults.specs.declared.faults.Refusal.{Refusal}
use Rattle.commit_book.proofs.CommitLaws.{both_true, commit_owed, same_number}
use Rattle.commit_book.proofs.Histories.{empty_legal, problem_kept, table_kept, version_kept}
use Rattle.commit_book.proofs.Runs.{IsLegalEntry, entered_legal}

pub empty_book : (setting : Setting) → IsBook setting [] []
empty_book setting = record { legal = empty_legal setting; problems = All-nil (IsKeptAt setting []) }

-- ---- one more entry

made_kept : (setting : Setting) (history : List Event) (event : Event) (version : ℕ) (made : MadeProblem) → version ≤ length history → IsMade setting history version made → IsMade setting (history ++ event ∷ []) version made
made_kept setting history event version made had h = record {
  is_problem = h.is_problem ∙ sym (problem_kept setting history event version made.problem.at had);
  is_table = λ m span. table_kept setting history event version m made.timed.cells had (h.is_table m span);
  lasting = h.lasting;
}

tabled_kept : (setting : Setting) (history : List Event) (event : Event) (version at : ℕ) (made : MadeProblem) → version ≤ length history → IsTabled setting history version at made → IsTabled setting (history ++ event ∷ []) version at made
tabled_kept setting history event version at made had h = record { is_made = made_kept setting history event version made had h.is_made; in_span = h.in_span }

still_kept : (setting : Setting) (history : List Event) (event : Event) (kept : KeptProblem) → IsKeptAt setting history kept → IsKeptAt setting (history ++ event ∷ []) kept
still_kept setting history event kept h = record {
  had = let longer = length-append history (event ∷ []) in let had = h.had in omega (arith, longer, had);
  is_problem = h.is_problem ∙ sym (problem_kept setting history event kept.version kept.problem.at h.had);
  network = record { in_force = ap (λ (o : Office). o.network) (version_kept setting history event kept.version h.had) ∙ h.network.in_force; known = h.network.known };
  made = IfSome_then (made_of kept) h.made (λ made. tabled_kept setting history event kept.version kept.problem.at made h.had);
}

pub book_push : (setting : Setting) (history : List Event) (event : Event) (kept : List KeptProblem) → IsBook setting history kept → IsLegalEntry setting history event → IsBook setting (history ++ event ∷ []) kept
book_push setting history event kept book entry = record {
  legal = entered_legal setting history event book.legal entry;
  problems = All-weaker (IsKeptAt setting history) (IsKeptAt setting (history ++ event ∷ [])) (still_kept setting history event) kept book.problems;
}

-- ---- one more kept problem

all_kept : (P : KeptProblem → Type 0) (room : Bool) (kept : List KeptProblem) (one : KeptProblem) → All P kept → P one → All P (cond room (kept ++ one ∷ []) (drop 1 kept ++ one ∷ []))
all_kept P true kept one all here = All-push P kept one all here
all_kept P false kept one all here = All-push P (drop 1 kept) one (All-drop P 1 kept all) here

pub book_keep : (setting : Setting) (history : List Event) (most : ℕ) (kept : List KeptProblem) (one : KeptProblem) → IsBook setting history kept → IsKeptAt setting history one → IsBook setting history (with_kept most kept one)
book_keep setting history most kept one book here = record {
  legal = book.legal;
  problems = all_kept (IsKeptAt setting history) (nat_lt (length kept) most) kept one book.problems here;
}

-- another in the place of one
pub book_put : (setting : Setting) (history : List Event) (kept : List KeptProblem) (index : ℕ) (new : KeptProblem) → IsBook setting history kept → IsKeptAt setting history new → IsBook setting history (set kept index new)
book_put setting history kept index new book here = record { legal = book.legal; problems = All-set (IsKeptAt setting history) kept index new here book.problems }

map-push : (kept : List KeptProblem) (one : KeptProblem) → map which_of (kept ++ one ∷ []) ≡ map which_of kept ++ which_of one ∷ []
map-push [] one = refl
map-push (first ∷ kept) one = ap (λ rest. which_of first ∷ rest) (map-push kept one)

map-drop_one : (kept : List KeptProblem) → map which_of (drop 1 kept) ≡ drop 1 (map which_of kept)
map-drop_one [] = refl
map-drop_one (first ∷ kept) = refl

which_by : (room : Bool) (kept : List KeptProblem) (one : KeptProblem)
    → map which_of (cond room (kept ++ one ∷ []) (drop 1 kept ++ one ∷ [])) ≡ cond room (map which_of kept ++ which_of one ∷ []) (drop 1 (map which_of kept) ++ which_of one ∷ [])
which_by true kept one = map-push kept one
which_by false kept one = map-push (drop 1 kept) one ∙ ap (λ rest. rest ++ which_of one ∷ []) (map-drop_one kept)

-- which problems are kept then
pub which_kept : (most : ℕ) (kept : List KeptProblem) (one : KeptProblem)
    → map which_of (with_kept most kept one) ≡ cond (nat_lt (length (map which_of kept)) most) (map which_of kept ++ which_of one ∷ []) (drop 1 (map which_of kept) ++ which_of one ∷ [])
which_kept most kept one =
    which_by (nat_lt (length kept) most) kept one
    ∙ ap (λ (n : ℕ). cond (nat_lt n most) (map which_of kept ++ which_of one ∷ []) (drop 1 (map which_of kept) ++ which_of one ∷ [])) (sym (length-map kept which_of))

-- a problem that isn't kept goes last
pub keeps_new : (setting : Setting) (kept : List KeptProblem) (one : KeptProblem) → is_kept (map which_of kept) (which_of one) ≡ false → map which_of (with_kept setting.kept kept one) ≡ kept_after setting (map which_of kept) (which_of one)
keeps_new setting kept one new = which_kept setting.kept kept one ∙ sym (ap (λ is. cond is (map which_of kept) (cond (nat_lt (length (map which_of kept)) setting.kept) (map which_of kept ++ which_of one ∷ []) (drop 1 (map which_of kept) ++ which_of one ∷ []))) new)

-- one that is kept stays
pub keeps_known : (setting : Setting) (kept : List (ℕ × ℕ)) (which : ℕ × ℕ) → is_kept kept which ≡ true → kept_after setting kept which ≡ kept
keeps_known setting kept which known = ap (λ is. cond is kept (cond (nat_lt (length kept) setting.kept) (kept ++ which ∷ []) (drop 1 kept ++ which ∷ []))) known

-- ---- looking for a kept problem

-- the kept problem of a version and a moment
abbrev pub kept_as : List KeptProblem → ℕ × ℕ → Option KeptProblem
kept_as kept which = find (λ one. is_this which (which_of one)) kept

found_by : (this : Bool) (one : KeptProblem) (rest : Option KeptProblem) (any : Bool) → any ≡ is_some rest → (this || any) ≡ is_some (cond this (Some one) rest)
found_by true one rest any h = refl
found_by false one rest any h = h

pub kept_is_found : (kept : List KeptProblem) (which : ℕ × ℕ) → is_kept (map which_of kept) which ≡ is_some (kept_as kept which)
kept_is_found [] which = refl
kept_is_found (first ∷ kept) which = found_by (is_this which (which_of first)) first (kept_as kept which) (is_kept (map which_of kept) which) (kept_is_found kept which)

same_which : (which kept : ℕ × ℕ) → is_this which kept ≡ true → kept ≡ which
same_which which kept h =
    let f = both_true (kept.0 == which.0) (kept.1 == which.1) h in
    let version = same_number kept.0 which.0 f.0 in
    let at = same_number kept.1 which.1 f.1 in
    let parts : ◌≡◌ {A = ℕ × ℕ} (kept.0, kept.1) (which.0, which.1) = cc in
    parts

same_problem : (a b : KeptProblem) → let o : Option KeptProblem = Some a in o ≡ Some b → a ≡ b
same_problem a b h = cc

-- what is found passes the test, and is kept
pub record IsFound (P : KeptProblem → Type 0) (test : KeptProblem → Bool) (one : KeptProblem) : Type 0 where
  pub holds : P one
  pub passes : test one ≡ true

found_step : (P : KeptProblem → Type 0) (test : KeptProblem → Bool) (first one : KeptProblem) (rest : Option KeptProblem) (this : Bool) → test first ≡ this → P first → (rest ≡ Some one → IsFound P test one) → cond this (Some first) rest ≡ Some one → IsFound P test one
found_step P test first one rest true is here later h = subst (IsFound P test) (same_problem first one h) (record { holds = here; passes = is })
found_step P test first one rest false is here later h = later h

pub found_kept : (P : KeptProblem → Type 0) (test : KeptProblem → Bool) (kept : List KeptProblem) (one : KeptProblem) → All P kept → find test kept ≡ Some one → IsFound P test one
found_kept P test [] one all h = absurd cc
found_kept P test (first ∷ kept) one all h =
    found_step P test first one (find test kept) (test first) refl (All-head P first kept all) (found_kept P test kept one (All-tail P first kept all)) h

which_step : (which : ℕ × ℕ) (first one : KeptProblem) (rest : Option KeptProblem) (this : Bool) → is_this which (which_of first) ≡ this → (rest ≡ Some one → which_of one ≡ which) → cond this (Some first) rest ≡ Some one → which_of one ≡ which
which_step which first one rest true is later h = subst (λ (k : KeptProblem). which_of k ≡ which) (same_problem first one h) (same_which which (which_of first) is)
which_step which first one rest false is later h = later h

-- what is found of a version and a moment is of these
pub kept_which : (kept : List KeptProblem) (which : ℕ × ℕ) (one : KeptProblem) → kept_as kept which ≡ Some one → which_of one ≡ which
kept_which [] which one h = absurd cc
kept_which (first ∷ kept) which one h = which_step which first one (kept_as kept which) (is_this which (which_of first)) refl (kept_which kept which one) h

-- ---- what is shared

span_of : (made : MadeProblem) (at : ℕ) → covers made at ≡ true → IsInSpan made at
span_of made at h =
    let f = both_true (nat_le made.problem.at at) (nat_le at made.timed.until) h in
    record { first = grind (arith, nat_tests, f.0); last = grind (arith, nat_tests, f.1) }

pub covering_tabled : (setting : Setting) (history : List Event) (kept : List KeptProblem) (version at : ℕ) (one : KeptProblem) (made : MadeProblem) → IsBook setting history kept → find (is_covering version at) kept ≡ Some one → made_of one ≡ Some made
    → IsTabled setting history version at made
covering_tabled setting history kept version at one made book h has =
    let found = found_kept (IsKeptAt setting history) (is_covering version at) kept one book.problems h in
    let f = both_true (one.version == version) (is_covered at (made_of one)) found.passes in
    let covered : covers made at ≡ true = subst (λ (o : Option MadeProblem). is_covered at o ≡ true) has f.1 in
    let tabled : IsTabled setting history one.version one.problem.at made = subst (λ (o : Option MadeProblem). IfSome o (IsTabled setting history one.version one.problem.at)) has found.holds.made in
    record {
      is_made = subst (λ (n : ℕ). IsMade setting history n made) (same_number one.version version f.0) tabled.is_made;
      in_span = span_of made at covered;
    }

-- ---- a commit of a kept problem

-- what the tests of a commit find is what it is answered
pub commit_judged : (setting : Setting) (history : List Event) (commit : CommitText) (problem : ProblemValue) (table : Table) (refusal : Option Refusal) → problem ≡ problem_at setting history commit.version commit.at → IsTableAt setting history commit.version commit.at table
    → refusal_in problem (replay setting history) commit table ≡ refusal → IsJudged setting history commit (accepted_unless (length history + 1) refusal)
commit_judged setting history commit problem table refusal is is_table h = record {
  table = table;
  is_table = is_table;
  answered = ap (accepted_unless (length history + 1)) (sym (ap (λ (p : ProblemValue). refusal_in p (replay setting history) commit table) (sym is) ∙ h));
}

-- where they find nothing, it pays what it owes, and can be promised
pub commit_passed : (setting : Setting) (history : List Event) (commit : CommitText) (problem : ProblemValue) (table : Table) → commit.version ≤ length history → problem ≡ problem_at setting history commit.version commit.at → IsTableAt setting history commit.version commit.at table
    → refusal_in problem (replay setting history) commit table ≡ None → IsLeast setting history commit × CanPromise (replay setting history) commit.pairs
commit_passed setting history commit problem table had is is_table h =
    commit_owed setting history commit table had is_table (ap (λ (p : ProblemValue). refusal_in p (replay setting history) commit table) (sym is) ∙ h)
