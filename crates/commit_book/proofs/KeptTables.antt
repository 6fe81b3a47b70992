-- Kept problems of which some have lost their tables.
use Rattle.std.proofs.Common.{◌≡◌, ◌≢◌, ◌∙◌, ◌+◌, ◌<◌, ◌≤◌, ◌⊎◌, inl, inr, ℕ, Bool, true, false, zero, suc, get_or, set, List, [], ◌∷◌, length, map, Option, Some, None, refl, sym, ap, arith, subst}
use Rattle.std.specs.Prelude.{IfSome, IsSome, All, is_some, option_map, slice_get}
use Rattle.std.proofs.lemmas.Option.{same_Some, slice_get_read, slice_get_within}
use Rattle.std.specs.declared.alloc.Global.{Global}
use Rattle.std.specs.declared.sync.Arc.{Arc}
use Rattle.std.proofs.lemmas.List.Elements.{All-cons, All-head, All-nil, All-tail}
use Rattle.line_network.specs.Network.{NetworkValue}
use Rattle.price_checker.specs.Limits.{LimitNumbers}
use Rattle.commit_book.specs.inner.Ledger.{LedgerValue}
use Rattle.commit_book.proofs.BookParts.{shown}
use Rattle.cost_table.specs.Problem.{ProblemValue}
use Rattle.move_messages.specs.declared.event.Event.{Event}
use Rattle.commit_book.specs.inner.Kept.{HaveFewerTables, HaveTwoTables, IsBook, IsKeptAt, IsKeptStill, IsLastOther, IsTabled, book_of, made_of, setting_of, which_of}
use Rattle.commit_book.specs.Setting.{Setting}
use Rattle.commit_book.specs.declared.kept_problems.KeptProblem.{KeptProblem}
use Rattle.commit_book.specs.declared.made_problem.MadeProblem.{MadeProblem}

its_own : (o : Option MadeProblem) → IfSome o (λ made. o ≡ Some made)
its_own None = tt
its_own (Some made) = refl

-- none is forgotten
pub all_tables : (kept : List KeptProblem) → HaveFewerTables kept kept
all_tables [] = tt
all_tables (one ∷ kept) = (record { version = refl; network = refl; problem = refl; made = its_own (made_of one) }, all_tables kept)

-- a problem that stays, without its table
without_table : (old one new : KeptProblem) → IsKeptStill old one → new.version ≡ one.version → new.network ≡ one.network → new.problem ≡ one.problem → made_of new ≡ None → IsKeptStill old new
without_table old one new h same_version same_network same_problem none = record {
  version = same_version ∙ h.version;
  network = same_network ∙ h.network;
  problem = same_problem ∙ h.problem;
  made = rw none tt;
}

-- one more table is forgotten
pub one_fewer : (old now : List KeptProblem) (k : ℕ) (d new : KeptProblem) → k < length now → new.version ≡ (get_or now k d).version → new.network ≡ (get_or now k d).network → new.problem ≡ (get_or now k d).problem → made_of new ≡ None
    → HaveFewerTables old now → HaveFewerTables old (set now k new)
one_fewer [] [] k d new within same_version same_network same_problem none h = let no : ⊥ = omega (arith, within) in absurd no
one_fewer [] (y ∷ now) k d new within same_version same_network same_problem none h = absurd h
one_fewer (x ∷ old) [] k d new within same_version same_network same_problem none h = absurd h
one_fewer (x ∷ old) (y ∷ now) zero d new within same_version same_network same_problem none h = (without_table x y new h.0 same_version same_network same_problem none, h.1)
one_fewer (x ∷ old) (y ∷ now) (suc k) d new within same_version same_network same_problem none h =
    (h.0, one_fewer old now k d new (omega (arith, within)) same_version same_network same_problem none h.1)

-- the same versions and moments are kept
pub fewer_which : (old new : List KeptProblem) → HaveFewerTables old new → map which_of new ≡ map which_of old
fewer_which [] [] h = refl
fewer_which [] (y ∷ new) h = absurd h
fewer_which (x ∷ old) [] h = absurd h
fewer_which (x ∷ old) (y ∷ new) h =
    ap (λ (n : ℕ). (n, y.problem.at) ∷ map which_of new) h.0.version
    ∙ ap (λ (at : ℕ). (x.version, at) ∷ map which_of new) (ap (λ (p : ProblemValue). p.at) h.0.problem)
    ∙ ap (λ (rest : List (ℕ × ℕ)). which_of x ∷ rest) (fewer_which old new h.1)

-- a table that is still there is as right as before
made_still : (P : MadeProblem → Type 0) (old new : Option MadeProblem) → IfSome new (λ made. old ≡ Some made) → IfSome old P → IfSome new P
made_still P old None same h = tt
made_still P old (Some made) same h = subst (λ (o : Option MadeProblem). IfSome o P) same h

still_at : (setting : Setting) (history : List Event) (old new : KeptProblem) → IsKeptStill old new → IsKeptAt setting history old → IsKeptAt setting history new
still_at setting history old new same h = record {
  had = rw same.version h.had;
  is_problem = rw (same.version, same.problem) h.is_problem;
  network = rw (same.version, same.network) h.network;
  made = rw (same.version, same.problem) (made_still (IsTabled setting history old.version old.problem.at) (made_of old) (made_of new) same.made h.made);
}

all_at : (setting : Setting) (history : List Event) (old new : List KeptProblem) → HaveFewerTables old new → All (IsKeptAt setting history) old → All (IsKeptAt setting history) new
all_at setting history [] [] same h = All-nil (IsKeptAt setting history)
all_at setting history [] (y ∷ new) same h = absurd same
all_at setting history (x ∷ old) [] same h = absurd same
all_at setting history (x ∷ old) (y ∷ new) same h =
    All-cons (IsKeptAt setting history) y new (still_at setting history x y same.0 (All-head (IsKeptAt setting history) x old h)) (all_at setting history old new same.1 (All-tail (IsKeptAt setting history) x old h))

-- a book keeps its promise with fewer tables
pub book_fewer : (setting : Setting) (history : List Event) (old new : List KeptProblem) → IsBook setting history old → HaveFewerTables old new → IsBook setting history new
book_fewer setting history old new book same = record { legal = book.legal; problems = all_at setting history old new same book.problems }

-- so a book shows the same
pub shows_fewer : (ledger : LedgerValue) (networks : List NetworkValue) (limits : LimitNumbers) (old new : List KeptProblem) → HaveFewerTables old new → book_of ledger networks limits new ≡ book_of ledger networks limits old
shows_fewer ledger networks limits old new same = ap (shown (setting_of ledger networks limits) ledger.events) (fewer_which old new same)

-- ---- the tables that stay

before_or_at : (k n : ℕ) → k < n + 1 → (k < n) ⊎ (k ≡ n)
before_or_at k n before = grind (arith, before)

-- among the first n none has a table, but for two indices
abbrev pub AreBare : (kept : List KeptProblem) (index other n : ℕ) → Type 0
AreBare kept index other n = (k : ℕ) (one : KeptProblem) → k < n → slice_get kept k ≡ Some one → k ≢ index → k ≢ other → made_of one ≡ None

pub none_yet : (kept : List KeptProblem) (index other : ℕ) → AreBare kept index other 0
none_yet kept index other k one before there = let no : ⊥ = omega (arith, before) in absurd no

put_here : (kept : List KeptProblem) (k : ℕ) (new one : KeptProblem) → slice_get (set kept k new) k ≡ Some one → one ≡ new
put_here [] k new one h = absurd cc
put_here (x ∷ kept) zero new one h = sym (same_Some new one h)
put_here (x ∷ kept) (suc k) new one h = put_here kept k new one h

pub put_there : (kept : List KeptProblem) (k j : ℕ) (new : KeptProblem) → j ≢ k → slice_get (set kept k new) j ≡ slice_get kept j
put_there [] k j new other = refl
put_there (x ∷ kept) zero zero new other = absurd (other refl)
put_there (x ∷ kept) zero (suc j) new other = refl
put_there (x ∷ kept) (suc k) zero new other = refl
put_there (x ∷ kept) (suc k) (suc j) new other = put_there kept k j new (λ same. other (ap suc same))

-- one more is without its table
pub one_bare : (kept : List KeptProblem) (index other n : ℕ) (new : KeptProblem) → made_of new ≡ None → AreBare kept index other n → AreBare (set kept n new) index other (n + 1)
one_bare kept index other n new none h k one before there not_index not_other = elim (before_or_at k n before) [
  | inl earlier ↦ h k one earlier (sym (put_there kept n k new (λ same. omega (arith, earlier, same))) ∙ there) not_index not_other
  | inr same ↦ ap made_of (put_here kept n new one (subst (λ (j : ℕ). slice_get (set kept n new) j ≡ Some one) same there)) ∙ none
]

-- one of the two is passed over
pub passed : (kept : List KeptProblem) (index other n : ℕ) → ((n ≢ index) × (n ≡ other)) ⊎ (n ≡ index) → AreBare kept index other n → AreBare kept index other (n + 1)
passed kept index other n (inl at_other) h k one before there not_index not_other = elim (before_or_at k n before) [
  | inl earlier ↦ h k one earlier there not_index not_other
  | inr same ↦ absurd (not_other (same ∙ at_other.1))
]
passed kept index other n (inr at_index) h k one before there not_index not_other = elim (before_or_at k n before) [
  | inl earlier ↦ h k one earlier there not_index not_other
  | inr same ↦ absurd (not_index (same ∙ at_index))
]

-- all are looked at
pub two_tables : (old new : List KeptProblem) (index other n : ℕ) → IsLastOther old index other → length new ≤ n → AreBare new index other n → slice_get new index ≡ slice_get old index → slice_get new other ≡ slice_get old other → HaveTwoTables old new index
two_tables old new index other n last all h keeps keeps_other = record {
  other = other;
  last = last;
  few = λ k one there. let within = slice_get_within new k one there in h k one (omega (arith, within, all)) there;
  keeps = keeps;
  keeps_other = keeps_other;
}

-- ---- the last one with a table

-- from n on none has a table, but for one index
abbrev pub AreBareFrom : (kept : List KeptProblem) (index n : ℕ) → Type 0
AreBareFrom kept index n = (k : ℕ) (one : KeptProblem) → n ≤ k → slice_get kept k ≡ Some one → k ≢ index → made_of one ≡ None

pub none_behind : (kept : List KeptProblem) (index n : ℕ) → length kept ≤ n → AreBareFrom kept index n
none_behind kept index n end k one from there = let within = slice_get_within kept k one there in let no : ⊥ = omega (arith, within, from, end) in absurd no

at_or_behind : (k n : ℕ) → n ≤ k → (n ≡ k) ⊎ (n + 1 ≤ k)
at_or_behind k n from = grind (arith, from)

-- one more is looked at, from the end
pub one_before : (kept : List KeptProblem) (index n m : ℕ) → m ≡ n + 1 → (n ≢ index → (one : KeptProblem) → slice_get kept n ≡ Some one → made_of one ≡ None) → AreBareFrom kept index m → AreBareFrom kept index n
one_before kept index n m next here h k one from there not_index = elim (at_or_behind k n from) [
  | inl same ↦ here (λ is. not_index (sym same ∙ is)) one (ap (slice_get kept) same ∙ there)
  | inr behind ↦ h k one (omega (arith, next, behind)) there not_index
]

-- whether there is a table is whether something was made
some_table : (o : Option (Arc MadeProblem Global)) → is_some o ≡ true → IsSome (option_map (λ made. made.value) o)
some_table None h = absurd cc
some_table (Some made) h = refl

no_table : (o : Option (Arc MadeProblem Global)) → is_some o ≡ false → option_map (λ made. made.value) o ≡ None
no_table None h = refl
no_table (Some made) h = absurd cc

-- what was read at an index, and whether it has a table
pub bare_there : (kept : List KeptProblem) (n : ℕ) (one other : KeptProblem) (is : Bool) → n < length kept → one ≡ get_or kept n one → is ≡ is_some (get_or kept n one).made → is ≡ false → slice_get kept n ≡ Some other → made_of other ≡ None
bare_there kept n one other is within read test none there =
    let same : one ≡ other = same_Some one other (sym (slice_get_read kept (length kept) n one refl within read) ∙ there) in
    subst (λ (k : KeptProblem). made_of k ≡ None) same (no_table one.made (ap (λ (k : KeptProblem). is_some k.made) read ∙ sym test ∙ none))

-- so it stands here
pub last_there : (kept : List KeptProblem) (index n m : ℕ) (one : KeptProblem) (is : Bool) → m ≡ n + 1 → n < length kept → n ≢ index → one ≡ get_or kept n one → is ≡ is_some (get_or kept n one).made → is ≡ true → AreBareFrom kept index m → IsLastOther kept index n
last_there kept index n m one is next within not_index read test has h = record {
  has = λ not. (one, slice_get_read kept (length kept) n one refl within read, some_table one.made (ap (λ (k : KeptProblem). is_some k.made) read ∙ sym test ∙ has));
  last = λ k other at not behind. h k other (omega (arith, next, behind)) at not;
  none = λ k other at not is. absurd (not_index is);
}

-- or nowhere
pub no_other : (kept : List KeptProblem) (index n : ℕ) → n ≡ 0 → AreBareFrom kept index n → IsLastOther kept index index
no_other kept index n first h = record {
  has = λ not. absurd (not refl);
  last = λ k one at not behind. h k one (omega (arith, first)) at not;
  none = λ k one at not is. h k one (omega (arith, first)) at not;
}
