use Rattle.std.proofs.Common.{◌≡◌, ℕ, ◌+◌, ◌<◌, List, ◌++◌, [], length, Ok, refl, sym, ap, ◌∙◌, subst, arith}
use Rattle.line_engine.specs.Lines.{IsWithin}
use Rattle.line_engine.specs.inner.Cutting.{CutsLine, StopsLine}
use Rattle.line_engine.specs.Replies.{ServesLine, refusal_count}
use Rattle.line_engine.proofs.Running.{begins_run, stops_before, reads_more, passes_line, ends_run, ends_line, stops_reading, stops_writing, front_line, whole_line, bool_byte_count, at_most_one, has_ended, has_stopped}
use Rattle.line_engine.proofs.run.run_replies.Goals as goal

pub lines-init : goal.lines-init
lines-init g c = record {
  here = rw c.in_ok-window.ensures (begins_run g.H.Responder.replies c.args.limit (g.R.Source.remaining c.args.reader.now) (g.W.Sink.contents c.args.writer.now) c.args.state.now);
  lines = omega arith;
  most = c.in_ok-line.ensures.1;
  refusals = omega arith;
  unended = refl;
  reader = c.requires.reader;
  writer = c.requires.writer;
}

pub returns-in-Ok-false : goal.returns-in-Ok-false
returns-in-Ok-false g c =
    let taken = c.in-Ok-false.ensures.taken in
    let ended = c.in-Ok-false.ensures.end (ap Ok c.in-Ok-false.field-0-test) in
    let more = reads_more g.H.Responder.replies _ _ _ _ _ _ _ _ _ _ _ _ _ c.lines.invariant.here taken.1 taken.2 in
    has_ended g.H.Responder.replies _ _ _ (ends_run g.H.Responder.replies _ _ _ _ _ _ _ _ c.fill.new.self c.lines.count more refl c.lines.invariant.lines c.lines.invariant.unended ended.0 ended.1)
    (c.in-Ok-false.ensures.failure ∙ c.lines.invariant.reader) c.lines.invariant.writer

pub returns-in-Err : goal.returns-in-Err
returns-in-Err g c =
    let taken = c.in-Err.ensures.taken in
    let err = c.in-Err.ensures.err in
    let none : c.lines.window ++ taken.0 ≡ [] = sym taken.1 ∙ err.2 in
    has_stopped g.H.Responder.replies _ _ _ (rw (c.at_line.ensures, err.0, c.in-Err.ensures.failure)
    (stops_before g.H.Responder.replies _ _ _ _ _ _ (g.W.Sink.has_failed c.lines.writer) _ _ _ _ _ _ c.lines.invariant.here taken.2 none (omega (arith, c.lines.invariant.lines))))

pub returns-then-number-gt-MAX_INPUT_LINES : goal.returns-then-number-gt-MAX_INPUT_LINES
returns-then-number-gt-MAX_INPUT_LINES g c =
    let taken = c.in-Ok-true.ensures.taken in
    let some = c.in-Ok-true.ensures.more (ap Ok c.in-Ok-true.field-0-test) in
    let more = reads_more g.H.Responder.replies _ _ _ _ _ _ _ _ _ _ _ _ _ c.lines.invariant.here taken.1 taken.2 in
    has_stopped g.H.Responder.replies _ _ _ (more.at, omega arith, subst (λ (xs : List ℕ). 0 < length xs) (sym more.here) some)

pub returns-in-Err-read_line : goal.returns-in-Err-read_line
returns-in-Err-read_line g c =
    let taken = c.in-Ok-true.ensures.taken in
    let more = reads_more g.H.Responder.replies _ _ _ _ _ _ _ _ _ _ _ _ _ c.lines.invariant.here taken.1 taken.2 in
    let cut = c.in-Err-read_line.ensures.cut in
    has_stopped g.H.Responder.replies _ _ _ (rw c.at_line-in-Err-read_line.ensures (stops_reading g.H.Responder.replies _ _ _ _ _ _ _ _ _ _ _ _ _ _ _ more cut.1 (subst (λ (most : ℕ). StopsLine most (c.fill.new.self ++ cut.0) (g.R.Source.has_failed c.read_line.new.reader) c.in-Err-read_line.stop) c.lines.invariant.most cut.2) (omega arith)))

pub returns-in-Err-served : goal.returns-in-Err-served
returns-in-Err-served g c =
    let taken = c.in-Ok-true.ensures.taken in
    let more = reads_more g.H.Responder.replies _ _ _ _ _ _ _ _ _ _ _ _ _ c.lines.invariant.here taken.1 taken.2 in
    let cut = c.in-Ok.ensures.cut in
    let within : IsWithin c.args.limit c.read_line.new.line.bytes = omega (arith, c.as_slice-text.ensures.within, c.in-Ok.ensures.most, c.lines.invariant.most) in
    let front = front_line c.fill.new.self cut.0 c.read_line.new.line.bytes c.read_line.new.self c.in-Ok.end cut.2.0 in
    let whole = whole_line c.fill.new.self cut.0 c.read_line.new.line.bytes c.read_line.new.self c.in-Ok.end (g.R.Source.remaining c.read_line.new.reader) cut.2.0 cut.2.1 in
    let served = c.in-Err-served.ensures.err in
    let part = served.3 in
    let reply = subst (λ (line : List ℕ). ServesLine g.H.Responder.replies (c.lines.count.lines + 1) c.lines.state line served.0 served.1 c.serve-served.new.state) c.as_slice-text.ensures.value served.2 in
    has_stopped g.H.Responder.replies _ _ _ (stops_writing g.H.Responder.replies _ _ _ _ _ _ _ (g.R.Source.has_failed c.read_line.new.reader) (g.W.Sink.has_failed c.serve-served.new.writer) _ _ _ _ _ _ c.read_line.new.line.bytes served.0 part.0 part.1 c.lines.count.refused served.1 more cut.1 front.0 front.1 whole within reply part.2 part.3 part.4 (omega arith))

pub returns-in-Input : goal.returns-in-Input
returns-in-Input g c =
    let taken = c.in-Ok-true.ensures.taken in
    let more = reads_more g.H.Responder.replies _ _ _ _ _ _ _ _ _ _ _ _ _ c.lines.invariant.here taken.1 taken.2 in
    let cut = c.in-Ok.ensures.cut in
    let within : IsWithin c.args.limit c.read_line.new.line.bytes = omega (arith, c.as_slice-text.ensures.within, c.in-Ok.ensures.most, c.lines.invariant.most) in
    let served = c.in-Ok-served.ensures.ok in
    let reply = subst (λ (line : List ℕ). ServesLine g.H.Responder.replies (c.lines.count.lines + 1) c.lines.state line served.0 c.in-Ok-served.refused c.serve-served.new.state) c.as_slice-text.ensures.value served.1 in
    let last = subst (CutsLine c.fill.new.self cut.0 c.read_line.new.line.bytes c.read_line.new.self) c.in-Input.is cut.2.0 in
    has_ended g.H.Responder.replies _ _ _ (ends_line g.H.Responder.replies _ _ _ _ _ _ _ _ _ _ _ _ _ _ _ _ _ _ _ more cut.1 last within reply served.2 (cut.2.1 c.in-Input.is) refl (omega arith) (ap (λ (n : ℕ). c.lines.count.refused + n) (c.from.ensures ∙ bool_byte_count c.in-Ok-served.refused)) refl)
    (c.in-Ok.ensures.failure (c.in-Ok-true.ensures.failure ∙ c.lines.invariant.reader) refl) (c.in-Ok-served.ensures.failure ∙ c.lines.invariant.writer)

pub lines-preserved : goal.lines-preserved
lines-preserved g c =
    let taken = c.in-Ok-true.ensures.taken in
    let more = reads_more g.H.Responder.replies _ _ _ _ _ _ _ _ _ _ _ _ _ c.lines.invariant.here taken.1 taken.2 in
    let cut = c.in-Ok.ensures.cut in
    let within : IsWithin c.args.limit c.read_line.new.line.bytes = omega (arith, c.as_slice-text.ensures.within, c.in-Ok.ensures.most, c.lines.invariant.most) in
    let served = c.in-Ok-served.ensures.ok in
    let counted : c.from.result ≡ refusal_count c.in-Ok-served.refused = c.from.ensures ∙ bool_byte_count c.in-Ok-served.refused in
    let reply = subst (λ (line : List ℕ). ServesLine g.H.Responder.replies (c.lines.count.lines + 1) c.lines.state line served.0 c.in-Ok-served.refused c.serve-served.new.state) c.as_slice-text.ensures.value served.1 in
    let next = subst (CutsLine c.fill.new.self cut.0 c.read_line.new.line.bytes c.read_line.new.self) c.in-Feed.is cut.2.0 in
    let here = passes_line g.H.Responder.replies _ _ _ _ _ _ _ _ _ _ _ _ _ _ _ _ _ _ more cut.1 next within reply served.2 in
    record {
      here = rw counted here;
      lines = omega arith;
      most = c.in-Ok.ensures.most ∙ c.lines.invariant.most;
      refusals = omega (arith, counted, at_most_one c.in-Ok-served.refused, c.lines.invariant.refusals);
      unended = c.lines.invariant.unended;
      reader = c.in-Ok.ensures.failure (c.in-Ok-true.ensures.failure ∙ c.lines.invariant.reader) refl;
      writer = c.in-Ok-served.ensures.failure ∙ c.lines.invariant.writer;
    }
