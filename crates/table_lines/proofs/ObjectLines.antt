-- What a run prints that solves tables: one JSON object for each line that isn't blank.
use Rattle.std.proofs.Common.{◌≡◌, ◌⊎◌, ℕ, ◌+◌, ◌^◌, ◌<◌, ◌≤◌, Bool, true, false, cond, not, List, [], ◌∷◌, ◌++◌, length, Result, Ok, Err, inl, inr, refl, sym, ap, ◌∙◌, subst, append-nil, arith}
use Rattle.std.specs.Prelude.{MatchBool}
use Rattle.std.specs.List.{AllByRecursion, count_by}
use Rattle.std.proofs.lemmas.List.Concat.{flat_map-cons}
use Rattle.std.proofs.lemmas.List.Sums.{sum_by-cons}
use Rattle.serde_json.specs.Data.{Data}
use Rattle.line_engine.specs.Lines.{has_feed, is_blank, is_unended, line_feed, lines_of, with_feeds}
use Rattle.line_engine.specs.Replies.{ServesLines}
use Rattle.line_engine.proofs.Running.{is_unended-with_feeds, lines_of-with_feeds}
use Rattle.line_fields.specs.Line.{object_of}
use Rattle.line_fields.specs.Values.{◌>>=◌}
use Rattle.line_fields.specs.declared.fault.LineFault.{LineFault}
use Rattle.table_lines.specs.JsonLines.{IsLineOf, refusal_data}
use Rattle.table_lines.specs.JsonReplies.{json_refused_text}
use Rattle.table_lines.specs.Laws.{OutputsAreObjects, RefusalsAreRead, RepliesAreObjects}
use Rattle.table_lines.specs.SolvedText.{solved_data}
use Rattle.table_lines.specs.Solving.{IsSolved, Solves, SolvesLine, ToTables}
use Rattle.table_lines.specs.StatedTable.{stated_line}
use Rattle.table_lines.specs.TableLine.{TableText, table_line_of, table_text_of, with_plan}
use Rattle.table_lines.specs.declared.table_refusal.TableRefusal.{TableRefusal}
use Rattle.table_lines.specs.declared.table_refusal.TableRefusal.TheVariants.{OutOfMemory, PlanTooLong}
use Rattle.table_lines.proofs.OneLine.{text_free}
use Rattle.table_lines.proofs.RefusalLines.{refusal_line}
use Rattle.table_lines.proofs.Said.{SaysClean, refused_line_says}

-- ---- a reply

-- a solved table, with its line feed
record SolvedReply (text : List ℕ) (refused : Bool) : Type 0 where
  t : TableText
  line : List ℕ
  solved : IsSolved t line
  whole : text ≡ line ++ line_feed ∷ []
  passed : refused ≡ false

-- a refusal whose words need no escape
record RefusedReply (n : ℕ) (text : List ℕ) : Type 0 where
  refusal : TableRefusal
  whole : text ≡ json_refused_text n refusal
  says : SaysClean refusal

of_solved : (n most : ℕ) (r : Result TableText TableRefusal) (text : List ℕ) (refused : Bool) → ((refusal : TableRefusal) → r ≡ Err refusal → SaysClean refusal)
    → Solves n most r text refused → SolvedReply text refused ⊎ RefusedReply n text
of_solved n most (Ok t) text refused says h = elim h.2 [
  | inl printed ↦ inl (record { t = t; line = h.0; solved = h.1; whole = printed.1; passed = printed.2 })
  | inr long ↦ inr (record { refusal = PlanTooLong; whole = long.1; says = refl })
]
of_solved n most (Err refusal) text refused says h = inr (record { refusal = refusal; whole = h.0; says = says refusal refl })

of_line : (n most after : ℕ) (line text : List ℕ) (refused : Bool) → SolvesLine n most line text refused after → SolvedReply text refused ⊎ RefusedReply n text
of_line n most after line text refused h = elim h.0 [
  | inl solves ↦ of_solved n most (stated_line line) text refused (refused_line_says line) solves
  | inr none ↦ inr (record { refusal = OutOfMemory; whole = none.0; says = refl })
]

object_by : (r : Result Data LineFault) (t : TableText) → (r >>= table_text_of) ≡ Ok t → (d : Data) × (r ≡ Ok d)
object_by (Ok d) t h = (d, refl)
object_by (Err e) t h = absurd cc

object_read : (line : List ℕ) (t : TableText) → table_line_of line ≡ Ok t → (d : Data) × (object_of line ≡ Ok d)
unfolding table_line_of
object_read line t h = object_by (object_of line) t h

solved_reply : (text : List ℕ) (refused : Bool) → SolvedReply text refused → (d : Data) × IsLineOf d text
solved_reply text refused reply =
    let solved = reply.solved in
    let t = with_plan reply.t solved.pairs solved.u solved.v in
    let object = object_read reply.line t solved.reads in
    (object.0, record { line = reply.line; whole = reply.whole; reads = object.1; one = ap has_feed solved.whole ∙ text_free (solved_data t solved.cost) })

refused_reply : (n : ℕ) (text : List ℕ) → n < 2 ^ 64 → (reply : RefusedReply n text) → IsLineOf (refusal_data n reply.refusal) text
refused_reply n text small reply = subst (IsLineOf (refusal_data n reply.refusal)) (sym reply.whole) (refusal_line n reply.refusal small reply.says)

pub replies_are_objects : RepliesAreObjects
replies_are_objects n most after line text refused small h = elim (of_line n most after line text refused h) [
  | inl solved ↦ solved_reply text refused solved
  | inr reply ↦ (refusal_data n reply.refusal, refused_reply n text small reply)
]

pub refusals_are_read : RefusalsAreRead
refusals_are_read n most after line text small h = elim (of_line n most after line text true h) [
  | inl solved ↦ let wrong = solved.passed in absurd cc
  | inr reply ↦ (reply.refusal, reply.whole, refused_reply n text small reply)
]

-- ---- replies, one after the other

record ObjectLines (count : ℕ) (output : List ℕ) : Type 0 where
  lines : List (List ℕ)
  whole : output ≡ with_feeds lines
  objects : AllByRecursion (λ line. (d : Data) × (object_of line ≡ Ok d)) lines
  free : AllByRecursion (λ line. has_feed line ≡ false) lines
  number : length lines ≡ count

one_more : (text rest : List ℕ) (count : ℕ) (d : Data) → IsLineOf d text → ObjectLines count rest → ObjectLines (1 + count) (text ++ rest)
one_more text rest count d one more = record {
  lines = one.line ∷ more.lines;
  whole = ap (λ (xs : List ℕ). xs ++ rest) one.whole ∙ ap (λ (xs : List ℕ). (one.line ++ line_feed ∷ []) ++ xs) more.whole
      ∙ sym (flat_map-cons (λ (line : List ℕ). line ++ line_feed ∷ []) one.line more.lines);
  objects = ((d, one.reads), more.objects);
  free = (one.one, more.free);
  number = omega (arith, more.number);
}

served : (blank : Bool) (n most after : ℕ) (line text rest : List ℕ) (refused : Bool) (count : ℕ) → n < 2 ^ 64
    → MatchBool blank ((text ≡ []) × (refused ≡ false) × (after ≡ most)) (SolvesLine n most line text refused after) → ObjectLines count rest
    → ObjectLines (cond (not blank) 1 0 + count) (text ++ rest)
served true n most after line text rest refused count small h more =
    let none : text ++ rest ≡ rest = ap (λ (xs : List ℕ). xs ++ rest) h.0 in
    subst (ObjectLines (0 + count)) (sym none) (subst (λ (k : ℕ). ObjectLines k rest) (omega arith) more)
served false n most after line text rest refused count small h more =
    let reply = replies_are_objects n most after line text refused small h in one_more text rest count reply.0 reply.1 more

outputs : (n most after : ℕ) (lines : List (List ℕ)) (output : List ℕ) (refusals : ℕ) → n + length lines ≤ 2 ^ 64 → ServesLines ToTables n most lines output refusals after
    → ObjectLines (count_by (λ line. not (is_blank line)) lines) output
outputs n most after [] output refusals few h = record { lines = []; whole = h.0; objects = tt; free = tt; number = refl }
outputs n most after (line ∷ lines) output refusals few h =
    let more = outputs (n + 1) h.4 after lines h.1 h.3 (omega (arith, few)) h.6 in
    let counted : cond (not (is_blank line)) 1 0 + count_by (λ line. not (is_blank line)) lines ≡ count_by (λ line. not (is_blank line)) (line ∷ lines)
    = sym (sum_by-cons (λ (line : List ℕ). cond (not (is_blank line)) 1 0) line lines) in
    subst (ObjectLines (count_by (λ line. not (is_blank line)) (line ∷ lines))) (sym h.7)
    (subst (λ (k : ℕ). ObjectLines k (h.0 ++ h.1)) counted (served (is_blank line) n most h.4 line h.0 h.1 h.2 (count_by (λ line. not (is_blank line)) lines) (omega (arith, few)) h.5 more))

pub outputs_are_objects : OutputsAreObjects
outputs_are_objects n most after lines output refusals few h =
    let printed = outputs n most after lines output refusals few h in
    let cut : lines_of output ≡ printed.lines
    = ap lines_of (printed.whole ∙ sym (append-nil (with_feeds printed.lines))) ∙ lines_of-with_feeds printed.lines [] printed.free ∙ append-nil printed.lines in
    record {
      objects = subst (AllByRecursion (λ line. (d : Data) × (object_of line ≡ Ok d))) (sym cut) printed.objects;
      count = ap length cut ∙ printed.number;
      ended = ap is_unended printed.whole ∙ is_unended-with_feeds printed.lines;
    }
