-- A run whose states have a part that goes its own way: what is replied by the whole states is replied by their parts.
use Rattle.std.proofs.Common.{◌≡◌, ℕ, ◌+◌, Bool, true, false, List, [], ◌∷◌, ap}
use Rattle.std.specs.Prelude.{MatchBool}
use Rattle.line_engine.specs.Lines.{is_blank}
use Rattle.line_engine.specs.Replies.{Replying, ServesLine, ServesLines}
use Rattle.line_engine.specs.Runs.{Failures, Run, RunEnds, RunStandsAt, RunStops, RunWritesPart}
use Rattle.line_engine.specs.declared.run.RunCount.{RunCount}
use Rattle.line_engine.specs.declared.run.RunFault.{RunFault}
use Rattle.line_engine.specs.declared.run.RunFault.TheVariants.{OutOfMemory, TooManyLines, LineTooLong, ReadFailed, WriteFailed}

-- each reply by whole states is one by their parts
abbrev pub Follows : {H B : Type 0} → (part : H → B) → Replying H → Replying B → Type 0
Follows {H = H} part whole parts = (n : ℕ) (old : H) (line text : List ℕ) (refused : Bool) (new : H) → whole n old line text refused new → parts n (part old) line text refused (part new)

line_of : {H B : Type 0} (part : H → B) (whole : Replying H) (parts : Replying B) → Follows part whole parts → (n : ℕ) (old : H) (line text : List ℕ) (refused : Bool) (new : H) (blank : Bool)
    → MatchBool blank ((text ≡ []) × (refused ≡ false) × (new ≡ old)) (whole n old line text refused new)
    → MatchBool blank ((text ≡ []) × (refused ≡ false) × (part new ≡ part old)) (parts n (part old) line text refused (part new))
line_of part whole parts follows n old line text refused new true (nothing, none, same) = (nothing, none, ap part same)
line_of part whole parts follows n old line text refused new false served = follows n old line text refused new served

pub serves_line : {H B : Type 0} (part : H → B) (whole : Replying H) (parts : Replying B) → Follows part whole parts → (n : ℕ) (old : H) (line text : List ℕ) (refused : Bool) (new : H)
    → ServesLine whole n old line text refused new → ServesLine parts n (part old) line text refused (part new)
serves_line part whole parts follows n old line text refused new served = line_of part whole parts follows n old line text refused new (is_blank line) served

pub serves_lines : {H B : Type 0} (part : H → B) (whole : Replying H) (parts : Replying B) → Follows part whole parts → (lines : List (List ℕ)) (n : ℕ) (old : H) (output : List ℕ) (refusals : ℕ) (new : H)
    → ServesLines whole n old lines output refusals new → ServesLines parts n (part old) lines output refusals (part new)
serves_lines part whole parts follows [] n old output refusals new (nothing, none, same) = (nothing, none, ap part same)
serves_lines part whole parts follows (line ∷ lines) n old output refusals new (text, rest, refused, others, mid, first, later, written, counted) = (
  text,
  rest,
  refused,
  others,
  part mid,
  serves_line part whole parts follows n old line text refused mid first,
  serves_lines part whole parts follows lines (n + 1) mid rest others new later,
  written,
  counted,
)

-- a run over the parts of its states
abbrev pub part_run : {H B : Type 0} → (part : H → B) → Run H → Run B
part_run part run = record { most = run.most; from = run.from; to = run.to; held = run.held; holds = run.holds; old = part run.old; new = part run.new }

pub ends : {H B : Type 0} (part : H → B) (whole : Replying H) (parts : Replying B) → Follows part whole parts → (run : Run H) (count : RunCount) → RunEnds whole run count → RunEnds parts (part_run part run) count
ends part whole parts follows run count e = record {
  input = e.input;
  output = e.output;
  consumed = e.consumed;
  ended = e.ended;
  replies = serves_lines part whole parts follows _ 1 run.old e.output count.refused run.new e.replies;
  lines = e.lines;
  unended = e.unended;
  few = e.few;
  short = e.short;
  written = e.written;
}

abbrev stands : {H B : Type 0} (part : H → B) (whole : Replying H) (parts : Replying B) → Follows part whole parts → (run : Run H) (n : ℕ) → RunStandsAt whole run n → RunStandsAt parts (part_run part run) n
stands part whole parts follows run n at = record {
  input = at.input;
  lines = at.lines;
  rest = at.rest;
  output = at.output;
  refusals = at.refusals;
  consumed = at.consumed;
  begins = at.begins;
  number = at.number;
  short = at.short;
  replies = serves_lines part whole parts follows at.lines 1 run.old at.output at.refusals run.new at.replies;
  written = at.written;
}

writes : {H B : Type 0} (part : H → B) (whole : Replying H) (parts : Replying B) → Follows part whole parts → (run : Run H) (rest : List ℕ) (n : ℕ) → RunWritesPart whole run rest n → RunWritesPart parts (part_run part run) rest n
writes part whole parts follows run rest n w = record {
  line = w.line;
  after = w.after;
  front = w.front;
  whole = w.whole;
  short = w.short;
  text = w.text;
  refused = w.refused;
  reply = serves_line part whole parts follows n run.old w.line w.text w.refused run.new w.reply;
  part = w.part;
  unwritten = w.unwritten;
  parts = w.parts;
  written = w.written;
}

pub stops : {H B : Type 0} (part : H → B) (whole : Replying H) (parts : Replying B) → Follows part whole parts → (run : Run H) (failed : Failures) (fault : RunFault) → RunStops whole run failed fault → RunStops parts (part_run part run) failed fault
stops part whole parts follows run failed OutOfMemory (kept, held, same) = (kept, held, ap part same)
stops part whole parts follows run failed (TooManyLines n) (at, is, more) = (stands part whole parts follows run n at, is, more)
stops part whole parts follows run failed (LineTooLong n) (at, few, long) = (stands part whole parts follows run n at, few, long)
stops part whole parts follows run failed (ReadFailed n) (at, number, open_end, reader) = (stands part whole parts follows run n at, number, open_end, reader)
stops part whole parts follows run failed (WriteFailed n) (mid, between, at, few, written, writer) = (
  part mid,
  between,
  stands part whole parts follows (record run { holds = between; new = mid }) n at,
  few,
  writes part whole parts follows (record run { held = between; old = mid }) at.rest n written,
  writer,
)
