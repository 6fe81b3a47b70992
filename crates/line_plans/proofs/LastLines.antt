-- The last line of a journal that isn't blank.
use Rattle.std.proofs.Common.{◌≡◌, ◌⊎◌, ◌∙◌, ℕ, ◌+◌, Bool, true, false, true≢false, List, [], ◌∷◌, ◌++◌, refl, sym, ap, arith, subst, inl, inr}
use Rattle.std.specs.Prelude.{MatchBool, All}
use Rattle.std.proofs.lemmas.List.Elements.{All-cons, All-nil}
use Rattle.line_engine.specs.Lines.{is_blank}
use Rattle.line_engine.specs.Replies.{ServesLine, refusal_count}
use Rattle.line_plans.specs.Laws.{EndsWithLine, IsBlank, IsLastLine, LastLineIsTaken}
use Rattle.line_plans.specs.PlanLines.{BeginsPlans, IsTaken, LinesValue, TakesWhere}

-- what holds behind some lines
abbrev IsDone : ℕ → LinesValue → List (List ℕ) → LinesValue → Type 0
IsDone n old lines new = ((new ≡ old) × All IsBlank lines) ⊎ EndsWithLine n old lines new

-- one more line before the others
one_before : (n : ℕ) (old mid new : LinesValue) (line : List ℕ) (lines : List (List ℕ)) (text : List ℕ) (refused : Bool) → ServesLine BeginsPlans n old line text refused mid → EndsWithLine (n + 1) mid lines new → EndsWithLine n old (line ∷ lines) new
one_before n old mid new line lines text refused serves ends =
    let last : IsLastLine n (line ∷ lines) new.line ends.bytes = record {
      before = line ∷ ends.last.before;
      after = ends.last.after;
      whole = ap (λ (rest : List (List ℕ)). line ∷ rest) ends.last.whole;
      number_is = omega (arith, ends.last.number_is);
      not_blank = ends.last.not_blank;
      blank = ends.last.blank;
    } in
    record {
      bytes = ends.bytes;
      last = last;
      mid = ends.mid;
      output = text ++ ends.output;
      refusals = refusal_count refused + ends.refusals;
      led = (text, ends.output, refused, ends.refusals, mid, serves, ends.led, refl, refl);
      taken = ends.taken;
    }

-- a line with blank ones behind it
line_last : (n : ℕ) (old mid new : LinesValue) (line : List ℕ) (lines : List (List ℕ)) → is_blank line ≡ false → IsTaken n old line mid → new ≡ mid → All IsBlank lines → EndsWithLine n old (line ∷ lines) new
line_last n old mid new line lines not_blank taken same blank =
    let number : new.line ≡ n = ap (λ (at : LinesValue). at.line) same ∙ taken.number in
    let last : IsLastLine n (line ∷ lines) new.line line = record {
      before = [];
      after = lines;
      whole = refl;
      number_is = omega (arith, number);
      not_blank = not_blank;
      blank = blank;
    } in
    record {
      bytes = line;
      last = last;
      mid = old;
      output = [];
      refusals = 0;
      led = (refl, refl, refl);
      taken = subst (λ (k : ℕ). IsTaken k old line new) (sym number) (subst (IsTaken n old line) (sym same) taken);
    }

not_partial : (new mid : LinesValue) (P : Type 0) → new ≡ mid → mid.partial ≡ true → new.partial ≡ false → P
not_partial new mid P same partial whole = absurd (true≢false (sym partial ∙ ap (λ (at : LinesValue). at.partial) (sym same) ∙ whole))

taken_last : (partial : Bool) (n : ℕ) (old mid new : LinesValue) (line : List ℕ) (lines : List (List ℕ)) → old.partial ≡ partial → is_blank line ≡ false → TakesWhere partial n old line mid → new ≡ mid → All IsBlank lines → new.partial ≡ false → IsDone n old (line ∷ lines) new
taken_last true n old mid new line lines is not_blank takes same blank whole =
    not_partial new mid (IsDone n old (line ∷ lines) new) same (ap (λ (at : LinesValue). at.partial) takes ∙ is) whole
taken_last false n old mid new line lines is not_blank takes same blank whole = elim takes [
  | inl taken ↦ inr (line_last n old mid new line lines not_blank taken same blank)
  | inr cut ↦ not_partial new mid (IsDone n old (line ∷ lines) new) same (ap (λ (at : LinesValue). at.partial) cut) whole
]

by_blank : (blank : Bool) (n : ℕ) (old mid new : LinesValue) (line : List ℕ) (lines : List (List ℕ)) (text : List ℕ) (refused : Bool) → is_blank line ≡ blank → MatchBool blank ((text ≡ []) × (refused ≡ false) × (mid ≡ old)) (BeginsPlans n old line text refused mid) → new ≡ mid → All IsBlank lines
    → new.partial ≡ false → IsDone n old (line ∷ lines) new
by_blank true n old mid new line lines text refused is serves same blank whole = inl (same ∙ serves.2, All-cons IsBlank line lines is blank)
by_blank false n old mid new line lines text refused is serves same blank whole = taken_last old.partial n old mid new line lines refl is serves.2 same blank whole

one_more : (n : ℕ) (old mid new : LinesValue) (line : List ℕ) (lines : List (List ℕ)) (text : List ℕ) (refused : Bool) → ServesLine BeginsPlans n old line text refused mid → new.partial ≡ false → IsDone (n + 1) mid lines new → IsDone n old (line ∷ lines) new
one_more n old mid new line lines text refused serves whole done = elim done [
  | inl all ↦ by_blank (is_blank line) n old mid new line lines text refused refl serves all.0 all.1 whole
  | inr ends ↦ inr (one_before n old mid new line lines text refused serves ends)
]

pub last_taken : LastLineIsTaken
last_taken n old new [] output refusals serves whole = inl (serves.2, All-nil IsBlank)
last_taken n old new (line ∷ lines) output refusals (text, rest, refused, others, mid, first, later, is, count) whole =
    one_more n old mid new line lines text refused first whole (last_taken (n + 1) mid new lines rest others later whole)
