-- How a run goes on from line to line.
use Rattle.std.proofs.Common.{◌≡◌, ◌⊎◌, ℕ, ◌+◌, ◌<◌, ◌≤◌, Bool, true, false, List, [], ◌∷◌, ◌++◌, length, refl, sym, ap, ◌∙◌, subst, inl, inr, arith, append_assoc}
use Rattle.std.specs.Prelude.{Option, Ok, Err}
use mir.Val.{bool_byte}
use Rattle.std.specs.List.{AllByRecursion}
use Rattle.std.proofs.Math.Nat.{eq-or-lt_of_le}
use Rattle.std.proofs.lemmas.List.{length-append, append-nil}
use Rattle.std.proofs.lemmas.List.Concat.{flat_map-cons, flat_map-append}
use Rattle.std.specs.Io.KnownBytes.{Consumes, Appends, IsAtEnd}
use Rattle.std.proofs.KnownBytes.{Consumes-nil, Consumes-trans, Appends-nil, Appends-trans}
use Rattle.line_engine.specs.Lines.{line_feed, has_feed, is_unended, lines_of, first_line, max_input_lines, with_feeds, IsWithin}
use Rattle.line_engine.specs.inner.Cutting.{CutsLine, StopsLine}
use Rattle.line_engine.specs.Replies.{Replying, ServesLine, ServesLines, refusal_count}
use Rattle.line_engine.specs.Runs.{Failures, Run, IsLineOrNext, RunEnds, RunStandsAt, RunStops, Runs}
use Rattle.line_engine.specs.RunFault.{fault_at}
use Rattle.line_engine.specs.declared.run.RunCount.{RunCount}
use Rattle.line_engine.specs.declared.run.RunFault.{RunFault}
use Rattle.line_engine.specs.declared.run.RunFault.TheVariants.{ReadFailed, WriteFailed}
use Rattle.line_engine.specs.declared.window.LineEnd.{LineEnd}
use Rattle.line_engine.specs.declared.window.LineEnd.TheVariants.{Feed, Input}
use Rattle.line_engine.specs.declared.window.LineStop.{LineStop}
use Rattle.line_engine.specs.declared.window.LineStop.TheVariants as stop
use Rattle.line_engine.proofs.Feeds.{lines_of-feed, lines_of-last, has_feed-feed, is_unended-feed, is_unended-behind, is_unended-last}
use Rattle.line_engine.proofs.Answering.{ServesLines-push}

-- ---- lines at the front of an input

with_feeds-cons : (line : List ℕ) (lines : List (List ℕ)) (rest : List ℕ) → with_feeds (line ∷ lines) ++ rest ≡ line ++ line_feed ∷ (with_feeds lines ++ rest)
with_feeds-cons line lines rest =
    ap (λ (xs : List ℕ). xs ++ rest) (flat_map-cons (λ (l : List ℕ). l ++ line_feed ∷ []) line lines)
    ∙ append_assoc (line ++ line_feed ∷ []) (with_feeds lines) rest ∙ append_assoc line (line_feed ∷ []) (with_feeds lines ++ rest)

-- the lines of an input that begins with these
pub lines_of-with_feeds : (lines : List (List ℕ)) (rest : List ℕ) → AllByRecursion (λ line. has_feed line ≡ false) lines → lines_of (with_feeds lines ++ rest) ≡ lines ++ lines_of rest
lines_of-with_feeds [] rest free = refl
lines_of-with_feeds (line ∷ lines) rest free =
    ap lines_of (with_feeds-cons line lines rest) ∙ lines_of-feed line (with_feeds lines ++ rest) free.0
    ∙ ap (λ (ls : List (List ℕ)). line ∷ ls) (lines_of-with_feeds lines rest free.1)

with_feeds-some : (line : List ℕ) (lines : List (List ℕ)) → 0 < length (with_feeds (line ∷ lines))
with_feeds-some line lines =
    let whole = ap length (with_feeds-cons line lines []) in
    omega (arith, whole, ap length (append-nil (with_feeds (line ∷ lines))), length-append line (line_feed ∷ (with_feeds lines ++ [])))

with_feeds-push : (lines : List (List ℕ)) (line rest : List ℕ) → with_feeds (lines ++ line ∷ []) ++ rest ≡ with_feeds lines ++ (line ++ line_feed ∷ rest)
with_feeds-push lines line rest =
    ap (λ (xs : List ℕ). xs ++ rest) (flat_map-append (λ (l : List ℕ). l ++ line_feed ∷ []) lines (line ∷ []))
    ∙ append_assoc (with_feeds lines) (with_feeds (line ∷ [])) rest
    ∙ ap (λ (xs : List ℕ). with_feeds lines ++ xs) (with_feeds-cons line [] rest)

-- lines that all end with a line feed
pub is_unended-with_feeds : (lines : List (List ℕ)) → is_unended (with_feeds lines) ≡ false
unfolding is_unended
is_unended-with_feeds [] = refl
is_unended-with_feeds (line ∷ []) = ap is_unended (append-nil (line ++ line_feed ∷ [])) ∙ is_unended-feed line
is_unended-with_feeds (line ∷ next ∷ lines) =
    is_unended-behind (line ++ line_feed ∷ []) (with_feeds (next ∷ lines)) (with_feeds-some next lines) ∙ is_unended-with_feeds (next ∷ lines)

all-push : (P : List ℕ → Type 0) (lines : List (List ℕ)) (line : List ℕ) → AllByRecursion P lines → P line → AllByRecursion P (lines ++ line ∷ [])
all-push P [] line all one = (one, tt)
all-push P (first ∷ lines) line all one = (all.0, all-push P lines line all.1 one)

-- ---- a run before a line

abbrev pub run_of : {H : Type 0} → (most : ℕ) → (from to held holds : Option (List ℕ)) (old new : H) → Run H
run_of most from to held holds old new = record { most = most; from = from; to = to; held = held; holds = holds; old = old; new = new }

-- The run stands before line n, and what it read behind the lines before it is in the window.
pub record StandsHere {H : Type 0} (replying : Replying H) (most : ℕ) (from to held holds : Option (List ℕ)) (old new : H) (n : ℕ) (window : List ℕ) (refused : ℕ) : Type 0 where
  pub at : RunStandsAt replying (run_of most from to held holds old new) n
  pub here : at.rest ≡ window
  pub counted : at.refusals ≡ refused

is_line_or_next : (n : ℕ) (rest : List ℕ) → n ≤ max_input_lines + 1 → rest ≡ [] → IsLineOrNext n rest
is_line_or_next n rest few none = elim (eq-or-lt_of_le few) [ inl next ↦ inr (next, none) | inr within ↦ inl (omega (arith, within)) ]

module _ {H : Type 0} (replying : Replying H) (most : ℕ) where
  pub begins_run : (from held : Option (List ℕ)) (old : H) → StandsHere replying most from from held held old old 1 [] 0
  begins_run from held old = record {
    at = record {
      input = [];
      lines = [];
      rest = [];
      output = [];
      refusals = 0;
      consumed = Consumes-nil from;
      begins = record { bytes = refl; free = tt };
      number = refl;
      short = tt;
      replies = (refl, refl, refl);
      written = Appends-nil held;
    };
    here = refl;
    counted = refl;
  }

  -- more was read
  pub reads_more : (from to then held holds : Option (List ℕ)) (old new : H) (n : ℕ) (window more filled : List ℕ) (refused : ℕ) → StandsHere replying most from to held holds old new n window refused
      → filled ≡ window ++ more → Consumes to then more → StandsHere replying most from then held holds old new n filled refused
  reads_more from to then held holds old new n window more filled refused so is consumed =
      let at = so.at in
      record {
        at = record {
          input = at.input ++ more;
          lines = at.lines;
          rest = filled;
          output = at.output;
          refusals = at.refusals;
          consumed = Consumes-trans from to then at.input more at.consumed consumed;
          begins = record {
            bytes = ap (λ (xs : List ℕ). xs ++ more) at.begins.bytes ∙ append_assoc (with_feeds at.lines) at.rest more
                ∙ ap (λ (xs : List ℕ). with_feeds at.lines ++ xs) (ap (λ (xs : List ℕ). xs ++ more) so.here ∙ sym is);
            free = at.begins.free;
          };
          number = at.number;
          short = at.short;
          replies = at.replies;
          written = at.written;
        };
        here = refl;
        counted = so.counted;
      }

  replied : (from to held holds : Option (List ℕ)) (old mid new : H) (n : ℕ) (window line text : List ℕ) (refused : ℕ) (flag : Bool) → (so : StandsHere replying most from to held holds old mid n window refused)
      → ServesLine replying n mid line text flag new
      → ServesLines replying 1 old (so.at.lines ++ line ∷ []) (so.at.output ++ text) (refused + refusal_count flag) new
  replied from to held holds old mid new n window line text refused flag so reply =
      let at = so.at in
      let number : n ≡ 1 + length at.lines = omega (arith, at.number) in
      let one = subst (λ (k : ℕ). ServesLine replying k mid line text flag new) number reply in
      let all = ServesLines-push replying 1 old at.lines line at.output text at.refusals flag mid new at.replies one in
      subst (λ (k : ℕ). ServesLines replying 1 old (at.lines ++ line ∷ []) (at.output ++ text) (k + refusal_count flag) new) so.counted all

  -- a line that a line feed ends was read and answered
  pub passes_line : (from to then held holds holding : Option (List ℕ)) (old mid new : H) (n : ℕ) (window taken line left text : List ℕ) (refused : ℕ) (flag : Bool)
      → StandsHere replying most from to held holds old mid n window refused → Consumes to then taken → CutsLine window taken line left Feed → IsWithin most line
      → ServesLine replying n mid line text flag new → Appends holds holding text
      → StandsHere replying most from then held holding old new (n + 1) left (refused + refusal_count flag)
  passes_line from to then held holds holding old mid new n window taken line left text refused flag so consumed cut within reply wrote =
      let more = reads_more from to then held holds old mid n window taken (window ++ taken) refused so refl consumed in
      let at = more.at in
      record {
        at = record {
          input = at.input;
          lines = at.lines ++ line ∷ [];
          rest = left;
          output = at.output ++ text;
          refusals = refused + refusal_count flag;
          consumed = at.consumed;
          begins = record {
            bytes = at.begins.bytes ∙ ap (λ (xs : List ℕ). with_feeds at.lines ++ xs) (more.here ∙ cut.0) ∙ sym (with_feeds-push at.lines line left);
            free = all-push (λ (l : List ℕ). has_feed l ≡ false) at.lines line at.begins.free cut.1;
          };
          number = omega (arith, at.number, length-append at.lines (line ∷ []));
          short = all-push (IsWithin most) at.lines line at.short within;
          replies = replied from then held holds old mid new n (window ++ taken) line text refused flag more reply;
          written = Appends-trans held holds holding at.output text at.written wrote;
        };
        here = refl;
        counted = refl;
      }

  -- the reader was at its end behind a line feed, or before anything
  pub ends_run : (from to held holds : Option (List ℕ)) (old new : H) (n : ℕ) (window : List ℕ) (count : RunCount) → StandsHere replying most from to held holds old new n window count.refused
      → n ≡ count.lines + 1 → count.lines ≤ max_input_lines → count.unended ≡ false → window ≡ [] → IsAtEnd to → RunEnds replying (run_of most from to held holds old new) count
  ends_run from to held holds old new n window count so number few whole none ended =
      let at = so.at in
      let input : at.input ≡ with_feeds at.lines ++ [] = at.begins.bytes ∙ ap (λ (xs : List ℕ). with_feeds at.lines ++ xs) (so.here ∙ none) in
      let lines : lines_of at.input ≡ at.lines = ap lines_of input ∙ lines_of-with_feeds at.lines [] at.begins.free ∙ append-nil at.lines in
      record {
        input = at.input;
        output = at.output;
        consumed = at.consumed;
        ended = ended;
        replies = subst (λ (ls : List (List ℕ)). ServesLines replying 1 old ls at.output count.refused new) (sym lines)
            (subst (λ (k : ℕ). ServesLines replying 1 old at.lines at.output k new) so.counted at.replies);
        lines = omega (arith, number, at.number, ap length lines);
        unended = whole ∙ sym (ap is_unended (input ∙ append-nil (with_feeds at.lines)) ∙ is_unended-with_feeds at.lines);
        few = few;
        short = subst (AllByRecursion (IsWithin most)) (sym lines) at.short;
        written = at.written;
      }

  -- the last line was ended by the input
  pub ends_line : (from to then held holds holding : Option (List ℕ)) (old mid new : H) (n : ℕ) (window taken line left text : List ℕ) (refused : ℕ) (flag : Bool) (count : RunCount)
      → StandsHere replying most from to held holds old mid n window refused → Consumes to then taken → CutsLine window taken line left Input → IsWithin most line
      → ServesLine replying n mid line text flag new → Appends holds holding text → IsAtEnd then
      → count.lines ≡ n → n ≤ max_input_lines → count.refused ≡ refused + refusal_count flag → count.unended ≡ true → RunEnds replying (run_of most from then held holding old new) count
  ends_line from to then held holds holding old mid new n window taken line left text refused flag count so consumed cut within reply wrote ended number few counted unended =
      let more = reads_more from to then held holds old mid n window taken (window ++ taken) refused so refl consumed in
      let at = more.at in
      let input : at.input ≡ with_feeds at.lines ++ line = at.begins.bytes ∙ ap (λ (xs : List ℕ). with_feeds at.lines ++ xs) (more.here ∙ cut.0) in
      let lines : lines_of at.input ≡ at.lines ++ line ∷ [] = ap lines_of input ∙ lines_of-with_feeds at.lines line at.begins.free ∙ ap (λ (ls : List (List ℕ)). at.lines ++ ls) (lines_of-last line cut.2 cut.3) in
      record {
        input = at.input;
        output = at.output ++ text;
        consumed = at.consumed;
        ended = ended;
        replies = subst (λ (ls : List (List ℕ)). ServesLines replying 1 old ls (at.output ++ text) count.refused new) (sym lines)
            (subst (λ (k : ℕ). ServesLines replying 1 old (at.lines ++ line ∷ []) (at.output ++ text) k new) (sym counted)
            (replied from then held holds old mid new n (window ++ taken) line text refused flag more reply));
        lines = omega (arith, number, at.number, ap length lines, length-append at.lines (line ∷ []));
        unended = unended ∙ sym (ap is_unended input ∙ is_unended-behind (with_feeds at.lines) line cut.3 ∙ is_unended-last line cut.2 cut.3);
        few = omega (arith, number, few);
        short = subst (AllByRecursion (IsWithin most)) (sym lines) (all-push (IsWithin most) at.lines line at.short within);
        written = Appends-trans held holds holding at.output text at.written wrote;
      }

  -- the reader failed before a line of which nothing was read
  pub stops_before : (from to then held holds : Option (List ℕ)) (write_failed : Bool) (old new : H) (n : ℕ) (window taken : List ℕ) (refused : ℕ)
      → StandsHere replying most from to held holds old new n window refused → Consumes to then taken → window ++ taken ≡ [] → n ≤ max_input_lines + 1
      → RunStops replying (run_of most from then held holds old new) (record { reader = true; writer = write_failed }) (ReadFailed n)
  stops_before from to then held holds write_failed old new n window taken refused so consumed none few =
      let more = reads_more from to then held holds old new n window taken (window ++ taken) refused so refl consumed in
      (more.at, is_line_or_next n more.at.rest few (more.here ∙ none), ap has_feed (more.here ∙ none), refl)

  -- a line was too long, or the reader failed in it
  pub stops_reading : (from to then held holds : Option (List ℕ)) (read_failed write_failed : Bool) (old new : H) (n : ℕ) (window taken : List ℕ) (refused : ℕ) (s : LineStop)
      → StandsHere replying most from to held holds old new n window refused → Consumes to then taken → StopsLine most (window ++ taken) read_failed s → n ≤ max_input_lines
      → RunStops replying (run_of most from then held holds old new) (record { reader = read_failed; writer = write_failed }) (fault_at s n)
  stops_reading from to then held holds read_failed write_failed old new n window taken refused stop.TooLong so consumed stopped few =
      let more = reads_more from to then held holds old new n window taken (window ++ taken) refused so refl consumed in
      (more.at, few, subst (λ (xs : List ℕ). most < length (first_line xs)) (sym more.here) stopped)
  stops_reading from to then held holds read_failed write_failed old new n window taken refused stop.ReadFailed so consumed stopped few =
      let more = reads_more from to then held holds old new n window taken (window ++ taken) refused so refl consumed in
      (more.at, inl few, ap has_feed more.here ∙ stopped.0, stopped.1)

  -- the writer failed in the reply to a line
  pub stops_writing : (from to then held holds holding : Option (List ℕ)) (read_failed write_failed : Bool) (old mid new : H) (n : ℕ) (window taken line text part unwritten : List ℕ) (refused : ℕ) (flag : Bool)
      → StandsHere replying most from to held holds old mid n window refused → Consumes to then taken
      → (after : List ℕ) → lines_of (window ++ taken) ≡ line ∷ lines_of after → (has_feed (window ++ taken) ≡ true) ⊎ IsAtEnd then → IsWithin most line
      → ServesLine replying n mid line text flag new → text ≡ part ++ unwritten → Appends holds holding part → write_failed ≡ true → n ≤ max_input_lines
      → RunStops replying (run_of most from then held holding old new) (record { reader = read_failed; writer = write_failed }) (WriteFailed n)
  stops_writing from to then held holds holding read_failed write_failed old mid new n window taken line text part unwritten refused flag so consumed after front whole within reply parts wrote failed few =
      let more = reads_more from to then held holds old mid n window taken (window ++ taken) refused so refl consumed in (
        mid,
        holds,
        more.at,
        few,
        record {
          line = line;
          after = after;
          front = ap lines_of more.here ∙ front;
          whole = subst (λ (xs : List ℕ). (has_feed xs ≡ true) ⊎ IsAtEnd then) (sym more.here) whole;
          short = within;
          text = text;
          refused = flag;
          reply = reply;
          part = part;
          unwritten = unwritten;
          parts = parts;
          written = wrote;
        },
        failed,
      )

-- what a run has done where it came to its end, and where it stopped
module _ {H : Type 0} (replying : Replying H) where
  pub has_ended : (run : Run H) (failed : Failures) (count : RunCount) → RunEnds replying run count → failed.reader ≡ false → failed.writer ≡ false → Runs replying run failed (Ok count)
  has_ended run failed count ends reader writer = record { ok = ends; err = tt; healthy = (reader, writer) }

  pub has_stopped : (run : Run H) (failed : Failures) (fault : RunFault) → RunStops replying run failed fault → Runs replying run failed (Err fault)
  has_stopped run failed fault stops = record { ok = tt; err = stops; healthy = tt }

-- the line that was cut off stands at the front
pub front_line : (window taken line left : List ℕ) (end : LineEnd) → CutsLine window taken line left end → (after : List ℕ) × (lines_of (window ++ taken) ≡ line ∷ lines_of after)
front_line window taken line left Feed cut = (left, ap lines_of cut.0 ∙ lines_of-feed line left cut.1)
front_line window taken line left Input cut = ([], ap lines_of cut.0 ∙ lines_of-last line cut.2 cut.3)

-- the line that was cut off is whole
pub whole_line : (window taken line left : List ℕ) (end : LineEnd) (to : Option (List ℕ)) → CutsLine window taken line left end → (end ≡ Input → IsAtEnd to)
    → (has_feed (window ++ taken) ≡ true) ⊎ IsAtEnd to
whole_line window taken line left Feed to cut ended = inl (ap has_feed cut.0 ∙ has_feed-feed line left)
whole_line window taken line left Input to cut ended = inr (ended refl)

-- a mark as a number
pub bool_byte_count : (b : Bool) → bool_byte b ≡ refusal_count b
bool_byte_count true = refl
bool_byte_count false = refl

pub at_most_one : (b : Bool) → refusal_count b ≤ 1
at_most_one true = omega arith
at_most_one false = omega arith
