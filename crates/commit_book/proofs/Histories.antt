-- A history with one more entry: when it is legal, and that it has the versions that it had.
use Rattle.std.proofs.Common.{◌≡◌, ◌+◌, ◌<◌, ◌≤◌, ℕ, zero, suc, List, [], ◌∷◌, ◌++◌, length, take, refl, sym, ◌∙◌, ap, arith, subst, inl, inr, length-append}
use Rattle.std.specs.Prelude.{Option, Some, slice_get}
use Rattle.std.proofs.lemmas.List.{take-append-le}
use Rattle.std.proofs.lemmas.Option.{slice_get_within}
use Rattle.std.proofs.Math.Nat.{eq-or-lt_of_le}
use Rattle.std.proofs.Math.Seq.{take-append_seam}
use Rattle.cost_table.specs.Table.{Table}
use Rattle.operating_db.specs.Office.{Office}
use Rattle.operating_db.specs.Problem.{problem_of}
use Rattle.move_messages.specs.declared.event.Event.{Event}
use Rattle.commit_book.specs.History.{IsEntry, IsLegal, IsTableAt, problem_at, replay, version}
use Rattle.commit_book.specs.Setting.{Setting}

get_left : {A : Type 0} (xs ys : List A) (n : ℕ) → n < length xs → slice_get (xs ++ ys) n ≡ slice_get xs n
get_left [] ys n h = absurd (omega arith)
get_left (x ∷ xs) ys zero h = refl
get_left (x ∷ xs) ys (suc n) h = get_left xs ys n (omega arith)

pub get_last : {A : Type 0} (xs : List A) (y : A) → slice_get (xs ++ y ∷ []) (length xs) ≡ Some y
get_last [] y = refl
get_last (x ∷ xs) y = get_last xs y

same_event : (a b : Event) → let o : Option Event = Some a in o ≡ Some b → a ≡ b
same_event a b h = cc

nothing_there : (n : ℕ) (event : Event) → let none : List Event = [] in slice_get none n ≡ Some event → ⊥
nothing_there n event h = cc

pub empty_legal : (setting : Setting) → IsLegal setting []
empty_legal setting = record { within = omega arith; entries = λ n event is. absurd (nothing_there n event is) }

-- one more entry that is one behind a legal history
pub legal_push : (setting : Setting) (history : List Event) (event : Event) → IsLegal setting history → IsEntry setting history event → length history + 1 ≤ setting.entries → IsLegal setting (history ++ event ∷ [])
legal_push setting history event legal entry room = record {
  within = let l = length-append history (event ∷ []) in omega (arith, l, room);
  entries = λ n other is.
      let short = slice_get_within (history ++ event ∷ []) n other is in
      let l = length-append history (event ∷ []) in
      let le : n ≤ length history = omega (arith, short, l) in
      elim (eq-or-lt_of_le le) [
        | inl at ↦
            let one = same_event event other (sym (get_last history event) ∙ (ap (slice_get (history ++ event ∷ [])) (sym at) ∙ is)) in
            let before : take n (history ++ event ∷ []) ≡ history = ap (λ (k : ℕ). take k (history ++ event ∷ [])) at ∙ take-append_seam history (event ∷ []) in
            subst (λ (past : List Event). IsEntry setting past other) (sym before) (subst (IsEntry setting history) one entry)
        | inr less ↦
            let there = sym (get_left history (event ∷ []) n less) ∙ is in
            subst (λ (past : List Event). IsEntry setting past other) (sym (take-append-le n history (event ∷ []) le)) (legal.entries n other there)
      ];
}

-- a version that a history has is the same with one more entry
pub version_kept : (setting : Setting) (history : List Event) (event : Event) (n : ℕ) → n ≤ length history → version setting (history ++ event ∷ []) n ≡ version setting history n
version_kept setting history event n le = ap (replay setting) (take-append-le n history (event ∷ []) le)

pub problem_kept : (setting : Setting) (history : List Event) (event : Event) (n at : ℕ) → n ≤ length history → problem_at setting (history ++ event ∷ []) n at ≡ problem_at setting history n at
problem_kept setting history event n at le = ap (λ (office : Office). problem_of office at) (version_kept setting history event n le)

pub table_kept : (setting : Setting) (history : List Event) (event : Event) (n at : ℕ) (table : Table) → n ≤ length history → IsTableAt setting history n at table → IsTableAt setting (history ++ event ∷ []) n at table
table_kept setting history event n at table le is = record {
  network = is.network;
  in_force = rw (version_kept setting history event n le) is.in_force;
  of_problem = rw (problem_kept setting history event n at le) is.of_problem;
}
