-- What the lines of a file do at its seat, by a run over them.
use Rattle.std.proofs.Common.{◌≡◌, ◌+◌, ◌<◌, ◌≤◌, ◌^◌, ◌∷◌, ℕ, Bool, true, false, cond, List, [], ◌++◌, length, append_assoc, refl, sym, ap, ◌∙◌, subst, arith, inl, inr}
use Rattle.std.specs.Prelude.{Option, Some, None, Result, Ok, Err, IfOk, IfErr, IfSome, if◌then◌else◌}
use Rattle.std.specs.List.{count_by}
use Rattle.std.specs.Io.KnownBytes.{Consumes, Keeps}
use Rattle.std.proofs.lemmas.List.{length-append}
use Rattle.std.proofs.lemmas.List.Sums.{sum_by-cons}
use Rattle.line_fields.specs.declared.fault.LineFault.{LineFault}
use Rattle.line_engine.specs.Lines.{first_line, has_feed, is_blank, lines_of, max_input_lines, max_line_bytes}
use Rattle.line_engine.specs.Replies.{Replying, ServesLine, ServesLines}
use Rattle.line_engine.specs.RunFault.{number_of}
use Rattle.line_engine.specs.Runs.{Failures, IsLineOrNext, Run, RunEnds, RunStandsAt, RunStops}
use Rattle.line_engine.specs.declared.run.RunCount.{RunCount}
use Rattle.line_engine.specs.declared.run.RunFault.{RunFault}
use Rattle.line_engine.specs.declared.run.RunFault.TheVariants.{OutOfMemory, TooManyLines, LineTooLong, ReadFailed, WriteFailed}
use Rattle.line_fields.specs.Commands.{command_of}
use Rattle.line_fields.specs.declared.command.Command.{Command}
use Rattle.line_fields.specs.declared.command.Command.TheVariants as command
use Rattle.move_messages.specs.declared.event.Event.{Event}
use Rattle.commit_book.specs.Setting.{Setting}
use Rattle.commit_book.specs.declared.reply.Reply.{Reply}
use Rattle.commit_book.specs.declared.reply.Reply.TheVariants as reply
use Rattle.faults.specs.declared.faults.Refusal.{Refusal}
use Rattle.sessions.specs.declared.receipt.Receipt.{Receipt}
use Rattle.sessions.specs.Seat.{IsAnswered, SeatValue, count_of, new_seat}
use Rattle.sessions.specs.FedLines.{AreDone, AreTaken, IsLineTaken, IsReadIn, IsSeatFed, IsStoppedAt, IsSubmitted, IsTakenIn, IsTurnedAway, blank_line, counted_by, counted_of, is_accepted, is_refused, is_repeated, is_step, no_line, one_line, refused_as, wagon_of}
use Rattle.sessions.specs.FeedCounts.{IsStopNumber, is_counted, is_command_counted}
use Rattle.sessions.specs.inner.Fed.{stop_number}
use Rattle.sessions.specs.inner.FeedLines.{Adds, AreEventsFed, IsFedBehind, IsLineBrought, IsReadFed, Waits}
use Rattle.sessions.specs.declared.feed_lines.Counted.{Counted}
use Rattle.sessions.specs.declared.feed_lines.Counted.TheVariants.{OutOfStep, Refused, Nowhere}
use Rattle.sessions.specs.inner.RefusedWagons.{AreNotedBy, RefusedWagonsValue, no_wagon}
use Rattle.sessions.proofs.Noted.{noted_more, noted_none}
use Rattle.sessions.specs.declared.feed_lines.FileLines.{FileLines}
use Rattle.sessions.specs.declared.file_seat.FileSeat.{FileSeat}
use Rattle.sessions.specs.declared.book_ledger.BookLedger.{Ghosts}

-- ---- receipts

-- a seat has one receipt more where a line counts as accepted, and else as many
abbrev Gains : (old new : SeatValue) → Counted → Type 0
Gains old new counted = count_of new ≡ count_of old + cond (is_accepted counted) 1 0

by_step : (wagon : List ℕ) (step : Bool) → let counted : Counted = if step then OutOfStep wagon else Refused in (is_accepted counted ≡ false) × (counted ≡ Nowhere → ⊥)
by_step wagon true = (refl, λ nowhere. absurd cc)
by_step wagon false = (refl, λ nowhere. absurd cc)

-- what is refused isn't accepted, and counts somewhere
refused_somewhere : (wagon : Option (List ℕ)) (why : Refusal) → (is_accepted (refused_as wagon why) ≡ false) × (refused_as wagon why ≡ Nowhere → ⊥)
refused_somewhere None why = (refl, λ nowhere. absurd cc)
refused_somewhere (Some wagon) why = by_step wagon (is_step why)

gains_by : (old new : SeatValue) (event : Event) (result : Result Reply Refusal) → IsAnswered old new event result → Gains old new (counted_by event result)
gains_by old new event (Ok (reply.Accepted n)) answered = omega (arith, ap count_of answered.0, length-append old.receipts (record { entry = n; event = event } ∷ []))
gains_by old new event (Ok (reply.Repeated n)) answered = omega (arith, ap count_of answered)
gains_by old new event (Err why) answered = rw ((refused_somewhere (wagon_of event) why).0) (omega (arith, ap count_of answered))

submitted_gains : (setting : Setting) (old new : SeatValue) (event : Event) (counted : Counted) → IsSubmitted setting old new event counted → Gains old new counted
submitted_gains setting old new event counted submitted = rw submitted.counts (gains_by old new event submitted.result submitted.answered.seat)

-- a line that leaves the seat as it was, and doesn't count as accepted
same_gains : (old new : SeatValue) (counted : Counted) → new ≡ old → is_accepted counted ≡ false → Gains old new counted
same_gains old new counted same none = rw none (omega (arith, ap count_of same))

away_gains : (old new : SeatValue) (counted : Counted) → IsTurnedAway old new counted → Gains old new counted
away_gains old new counted away = same_gains old new counted away.0 (ap is_accepted away.1)

taken_gains : (setting : Setting) (old new : SeatValue) (asked : Command) (counted : Counted) → IsTakenIn setting old new asked counted → Gains old new counted
taken_gains setting old new (command.Event event) counted taken = submitted_gains setting old new event counted taken
taken_gains setting old new (command.Begin at) counted taken =
    same_gains old new counted taken.0 (elim taken.1 [
      | inl refused ↦ ap is_accepted refused
      | inr begun ↦ ap is_accepted begun.0
    ])
taken_gains setting old new (command.Plan at) counted taken = elim taken [
  | inl committed ↦ submitted_gains setting old new _ counted committed.submitted
  | inr away ↦ away_gains old new counted away
]
taken_gains setting old new command.Sheet counted taken = same_gains old new counted taken.0 (ap is_accepted taken.1)

read_gains : (setting : Setting) (old new : SeatValue) (read : Result Command LineFault) (counted : Counted) → IsReadIn setting old new read counted → Gains old new counted
read_gains setting old new (Ok asked) counted is = elim is [
  | inl taken ↦ taken_gains setting old new asked counted taken
  | inr away ↦ away_gains old new counted away
]
read_gains setting old new (Err fault) counted away = away_gains old new counted away

-- a line that isn't read may be any
pub turned_away : (setting : Setting) (seat : SeatValue) (read : Result Command LineFault) → IsReadIn setting seat seat read Refused
turned_away setting seat (Ok asked) = inr (refl, refl)
turned_away setting seat (Err fault) = (refl, refl)

-- ---- lines that must count

answer_counts : (wagon : Option (List ℕ)) (result : Result Reply Refusal) → counted_of wagon result ≡ Nowhere → ⊥
answer_counts wagon (Ok (reply.Accepted n)) nowhere = cc
answer_counts wagon (Ok (reply.Repeated n)) nowhere = cc
answer_counts wagon (Err why) nowhere = (refused_somewhere wagon why).1 nowhere

submitted_counts : (setting : Setting) (old new : SeatValue) (event : Event) (counted : Counted) → IsSubmitted setting old new event counted → counted ≡ Nowhere → ⊥
submitted_counts setting old new event counted submitted nowhere = answer_counts (wagon_of event) submitted.result (sym submitted.counts ∙ nowhere)

away_counts : (old new : SeatValue) (counted : Counted) → IsTurnedAway old new counted → counted ≡ Nowhere → ⊥
away_counts old new counted away nowhere = let both : Refused ≡ Nowhere = sym away.1 ∙ nowhere in cc

-- what counts nowhere is a begin or a sheet
taken_nowhere : (setting : Setting) (old new : SeatValue) (asked : Command) (counted : Counted) → IsTakenIn setting old new asked counted → counted ≡ Nowhere → is_command_counted asked ≡ false
taken_nowhere setting old new (command.Event event) counted taken nowhere = absurd (submitted_counts setting old new event counted taken nowhere)
taken_nowhere setting old new (command.Begin at) counted taken nowhere = refl
taken_nowhere setting old new (command.Plan at) counted taken nowhere = elim taken [
  | inl committed ↦ absurd (submitted_counts setting old new _ counted committed.submitted nowhere)
  | inr away ↦ absurd (away_counts old new counted away nowhere)
]
taken_nowhere setting old new command.Sheet counted taken nowhere = refl

pub read_nowhere : (setting : Setting) (old new : SeatValue) (read : Result Command LineFault) (counted : Counted) → IsReadIn setting old new read counted → counted ≡ Nowhere → is_counted read ≡ false
read_nowhere setting old new (Ok asked) counted is nowhere = elim is [
  | inl taken ↦ taken_nowhere setting old new asked counted taken nowhere
  | inr away ↦ absurd (away_counts old new counted away nowhere)
]
read_nowhere setting old new (Err fault) counted away nowhere = absurd (away_counts old new counted away nowhere)

-- ---- lines, one after the other

-- by one line with room for one more
added : (more : Bool) (old new : ℕ) → Adds more old new → old + 1 < 2 ^ 64 → new ≡ old + cond more 1 0
added true old new adds room = adds.exact room
added false old new same room = omega arith

at_most_one : (more : Bool) (old new : ℕ) → Adds more old new → new ≤ old + 1
at_most_one true old new adds = adds.little
at_most_one false old new same = omega arith

-- What a run over lines leads to, where 64 bits hold the counts.
record AreFedLines {L : Type 0} {g : Ghosts L} (old : FileSeat L g) (lines : List (List ℕ)) (new : FileSeat L g) : Type 0 where
  counts : List Counted
  taken : AreTaken g.setting old.seat new.seat lines counts
  accepted : count_of new.seat ≡ count_of old.seat + count_by is_accepted counts
  repeated : old.repeated + length lines < 2 ^ 64 → new.repeated ≡ old.repeated + count_by is_repeated counts
  refused : old.refused + length lines < 2 ^ 64 → new.refused ≡ old.refused + count_by is_refused counts
  out_of_step : AreNotedBy counts old.out_of_step new.out_of_step

module _ {L : Type 0} {g : Ghosts L} where
  nothing_fed : (old new : FileSeat L g) → new ≡ old → AreFedLines old [] new
  nothing_fed old new same = record {
    counts = [];
    taken = subst (λ (file : FileSeat L g). AreTaken g.setting old.seat file.seat [] []) (sym same) no_line;
    accepted = omega (arith, ap (λ (file : FileSeat L g). count_of file.seat) same);
    repeated = λ room. omega (arith, ap (λ (file : FileSeat L g). file.repeated) same);
    refused = λ room. omega (arith, ap (λ (file : FileSeat L g). file.refused) same);
    out_of_step = noted_none old.out_of_step new.out_of_step (ap (λ (file : FileSeat L g). file.out_of_step) same);
  }

  blank_fed : (old new : FileSeat L g) (line : List ℕ) (lines : List (List ℕ)) → is_blank line ≡ true → AreFedLines old lines new → AreFedLines old (line ∷ lines) new
  blank_fed old new line lines blank rest = record {
    counts = rest.counts;
    taken = blank_line blank rest.taken;
    accepted = rest.accepted;
    repeated = λ room. rest.repeated (omega (arith, room));
    refused = λ room. rest.refused (omega (arith, room));
    out_of_step = rest.out_of_step;
  }

  line_fed : (old mid new : FileSeat L g) (line : List ℕ) (lines : List (List ℕ)) → is_blank line ≡ false → IsReadFed old (command_of line) mid → AreFedLines mid lines new
      → AreFedLines old (line ∷ lines) new
  line_fed old mid new line lines filled fed rest =
      let counted = fed.counted in
      let gains = read_gains g.setting old.seat mid.seat (command_of line) counted fed.taken in
      record {
        counts = counted ∷ rest.counts;
        taken = one_line mid.seat counted filled fed.taken rest.taken;
        accepted = omega (arith, gains, rest.accepted, sum_by-cons (λ (c : Counted). cond (is_accepted c) 1 0) counted rest.counts);
        repeated = λ room.
            let one = added (is_repeated counted) old.repeated mid.repeated fed.repeated (omega (arith, room)) in
            let few = at_most_one (is_repeated counted) old.repeated mid.repeated fed.repeated in
            let others = rest.repeated (omega (arith, room, few)) in
            omega (arith, one, others, sum_by-cons (λ (c : Counted). cond (is_repeated c) 1 0) counted rest.counts);
        refused = λ room.
            let one = added (is_refused counted) old.refused mid.refused fed.refused (omega (arith, room)) in
            let few = at_most_one (is_refused counted) old.refused mid.refused fed.refused in
            let others = rest.refused (omega (arith, room, few)) in
            omega (arith, one, others, sum_by-cons (λ (c : Counted). cond (is_refused c) 1 0) counted rest.counts);
        out_of_step = noted_more counted rest.counts old.out_of_step mid.out_of_step new.out_of_step fed.out_of_step rest.out_of_step;
      }

-- ---- lines that wait

-- Lines that were read, and whose events wait: blank ones, and events.
data AreHeld : (lines : List (List ℕ)) → List Event → Type 0 where
  none_held : AreHeld [] []
  blank_held : {line : List ℕ} {lines : List (List ℕ)} {events : List Event} → is_blank line ≡ true → AreHeld lines events → AreHeld (line ∷ lines) events
  event_held : {line : List ℕ} {lines : List (List ℕ)} {event : Event} {events : List Event} → is_blank line ≡ false → command_of line ≡ Ok (command.Event event) → AreHeld lines events
      → AreHeld (line ∷ lines) (event ∷ events)

blank_held_last : {lines : List (List ℕ)} {events : List Event} (line : List ℕ) → is_blank line ≡ true → AreHeld lines events → AreHeld (lines ++ line ∷ []) events
blank_held_last line blank none_held = blank_held blank none_held
blank_held_last line blank (blank_held first held) = blank_held first (blank_held_last line blank held)
blank_held_last line blank (event_held filled read held) = event_held filled read (blank_held_last line blank held)

event_held_last : {lines : List (List ℕ)} {events : List Event} (line : List ℕ) (event : Event) → is_blank line ≡ false → command_of line ≡ Ok (command.Event event) → AreHeld lines events
    → AreHeld (lines ++ line ∷ []) (events ++ event ∷ [])
event_held_last line event filled read none_held = event_held filled read none_held
event_held_last line event filled read (blank_held first held) = blank_held first (event_held_last line event filled read held)
event_held_last line event filled read (event_held first its held) = event_held first its (event_held_last line event filled read held)

module _ {L : Type 0} {g : Ghosts L} where
  abbrev pub Brings : Replying (FileLines L g)
  Brings n old line text refused new = IsLineBrought old line new

  -- the number of the line before changes nothing
  pub numbered : (old new : FileLines L g) (number : ℕ) (line : List ℕ) → IsLineBrought (record old { number = number }) line new → IsLineBrought old line new
  numbered old new number line (inl waits) = inl (record { event = waits.event; is_event = waits.is_event; file = waits.file; pending = waits.pending })
  numbered old new number line (inr behind) = inr (record { mid = behind.mid; before = behind.before; fed = behind.fed; pending = behind.pending })

  -- lines whose events waited and were submitted, and the lines behind them
  held_fed : {held : List (List ℕ)} {events : List Event} (lines : List (List ℕ)) (old mid new : FileSeat L g) → AreHeld held events → AreEventsFed events old mid
      → AreFedLines mid lines new → AreFedLines old (held ++ lines) new
  held_fed lines old mid new none_held fed rest = subst (λ (file : FileSeat L g). AreFedLines file lines new) fed rest
  held_fed lines old mid new (blank_held {line = line} {lines = held} blank others) fed rest =
      blank_fed old new line (held ++ lines) blank (held_fed lines old mid new others fed rest)
  held_fed lines old mid new (event_held {line = line} {lines = held} filled read others) fed rest =
      line_fed old fed.0 new line (held ++ lines) filled (rw read fed.1) (held_fed lines fed.0 mid new others fed.2 rest)

  -- all lines of a run, where what waited at its end was submitted: they are done from the file before the lines that wait
  abbrev AreAllFed : (old : FileLines L g) → (lines : List (List ℕ)) → (end : FileSeat L g) → Type 0
  AreAllFed old lines end = (held : List (List ℕ)) → AreHeld held old.pending.items → AreFedLines old.file (held ++ lines) end

  blank_brought : (old : FileLines L g) (line : List ℕ) (lines : List (List ℕ)) (end : FileSeat L g) → is_blank line ≡ true → AreAllFed old lines end → AreAllFed old (line ∷ lines) end
  blank_brought old line lines end blank rest held are =
      subst (λ (all : List (List ℕ)). AreFedLines old.file all end) (append_assoc held (line ∷ []) lines) (rest (held ++ line ∷ []) (blank_held_last line blank are))

  line_waits : (old mid : FileLines L g) (line : List ℕ) (lines : List (List ℕ)) (end : FileSeat L g) → is_blank line ≡ false → Waits old (command_of line) mid → AreAllFed mid lines end
      → AreAllFed old (line ∷ lines) end
  line_waits old mid line lines end filled waits rest held are =
      let behind : AreHeld (held ++ line ∷ []) mid.pending.items = subst (AreHeld (held ++ line ∷ [])) (sym waits.pending) (event_held_last line waits.event filled waits.is_event are) in
      let fed : AreFedLines mid.file ((held ++ line ∷ []) ++ lines) end = rest (held ++ line ∷ []) behind in
      subst (λ (all : List (List ℕ)). AreFedLines old.file all end) (append_assoc held (line ∷ []) lines)
      (subst (λ (file : FileSeat L g). AreFedLines file ((held ++ line ∷ []) ++ lines) end) waits.file fed)

  line_behind : (old mid : FileLines L g) (line : List ℕ) (lines : List (List ℕ)) (end : FileSeat L g) → is_blank line ≡ false → (fed : IsFedBehind old (command_of line) mid)
      → AreAllFed mid lines end → AreAllFed old (line ∷ lines) end
  line_behind old mid line lines end filled fed rest held are =
      let others : AreFedLines mid.file lines end = rest [] (subst (AreHeld []) (sym fed.pending) none_held) in
      held_fed (line ∷ lines) old.file fed.mid end are fed.before
      (line_fed fed.mid mid.file end line lines filled fed.fed others)

  one_brought : (old mid : FileLines L g) (line : List ℕ) (lines : List (List ℕ)) (end : FileSeat L g) → is_blank line ≡ false → IsLineBrought old line mid
      → AreAllFed mid lines end → AreAllFed old (line ∷ lines) end
  one_brought old mid line lines end filled (inl waits) rest = line_waits old mid line lines end filled waits rest
  one_brought old mid line lines end filled (inr fed) rest = line_behind old mid line lines end filled fed rest

  one_fed : (n : ℕ) (old mid : FileLines L g) (line text : List ℕ) (refused : Bool) (lines : List (List ℕ)) (end : FileSeat L g) (blank : Bool) → is_blank line ≡ blank
      → ServesLine Brings n old line text refused mid → AreAllFed mid lines end → AreAllFed old (line ∷ lines) end
  one_fed n old mid line text refused lines end true is answers rest =
      let same : mid ≡ old = (rw is at answers).2 in
      blank_brought old line lines end is (subst (λ (state : FileLines L g). AreAllFed state lines end) same rest)
  one_fed n old mid line text refused lines end false is answers rest =
      one_brought old mid line lines end is (rw is at answers) rest

  lines_brought : (n : ℕ) (old new : FileLines L g) (lines : List (List ℕ)) (output : List ℕ) (refusals : ℕ) (end : FileSeat L g)
      → ServesLines Brings n old lines output refusals new → AreEventsFed new.pending.items new.file end → AreAllFed old lines end
  lines_brought n old new [] output refusals end replies fed = λ held are.
      let last : AreEventsFed old.pending.items old.file end = subst (λ (state : FileLines L g). AreEventsFed state.pending.items state.file end) replies.2 fed in
      held_fed [] old.file end end are last (nothing_fed end end refl)
  lines_brought n old new (line ∷ lines) output refusals end replies fed =
      one_fed n old replies.4 line replies.0 replies.2 lines end (is_blank line) refl replies.5
      (lines_brought (n + 1) replies.4 new lines replies.1 replies.3 end replies.6 fed)

  -- the same from a file none of whose lines waits
  lines_fed : (n : ℕ) (old new : FileLines L g) (lines : List (List ℕ)) (output : List ℕ) (refusals : ℕ) (end : FileSeat L g) → old.pending.items ≡ []
      → ServesLines Brings n old lines output refusals new → AreEventsFed new.pending.items new.file end → AreFedLines old.file lines end
  lines_fed n old new lines output refusals end none replies fed =
      lines_brought n old new lines output refusals end replies fed [] (subst (AreHeld []) (sym none) none_held)

-- ---- a file's run

-- a seat with no receipt is new
fresh_by : (number : ℕ) (receipts : List Receipt) → length receipts ≡ 0 → let seat : SeatValue = record { number = number; receipts = receipts } in seat ≡ new_seat number
fresh_by number [] none = refl
fresh_by number (receipt ∷ receipts) none = absurd (omega arith)

fresh_seat : (seat : SeatValue) → count_of seat ≡ 0 → seat ≡ new_seat seat.number
fresh_seat seat none = fresh_by seat.number seat.receipts none

-- bytes that stay as they were lose none
pub consumes_none : (from to : Option (List ℕ)) → Keeps from to → Consumes from to []
consumes_none None to keeps = tt
consumes_none (Some xs) None keeps = absurd keeps
consumes_none (Some xs) (Some ys) keeps = sym keeps

module _ {L : Type 0} {g : Ghosts L} (run : Run (FileLines L g)) (failed : Failures) (end : FileSeat L g) (new : count_of run.old.file.seat ≡ 0) (no_repeated : run.old.file.repeated ≡ 0)
    (no_refused : run.old.file.refused ≡ 0) (none_noted : run.old.file.out_of_step ≡ no_wagon) (none_waits : run.old.pending.items ≡ []) (standard : run.most ≡ max_line_bytes) (last : AreEventsFed run.new.pending.items run.new.file end) where
  -- what the lines count as, what they did at the seat, and the wagons that were noted
  pub record Fed (stop : Option ℕ) : Type 0 where
    pub counts : List Counted
    pub lines : IsSeatFed g.setting run.from run.to stop counts end.seat end.repeated end.refused
    pub out_of_step : AreNotedBy counts no_wagon end.out_of_step

  fed_by : (stop : Option ℕ) (lines : List (List ℕ)) → AreDone run.from run.to stop lines → AreFedLines run.old.file lines end → Fed stop
  fed_by stop lines done fed = record {
    counts = fed.counts;
    lines = record {
      lines = lines;
      done = done;
      number = run.old.file.seat.number;
      taken = subst (λ (seat : SeatValue). AreTaken g.setting seat end.seat lines fed.counts) (fresh_seat run.old.file.seat new) fed.taken;
      counts_accepted = omega (arith, fed.accepted, new);
      counts_repeated = let is = fed.repeated (omega (arith, no_repeated, done.few)) in omega (arith, is, no_repeated);
      counts_refused = let is = fed.refused (omega (arith, no_refused, done.few)) in omega (arith, is, no_refused);
    };
    out_of_step = subst (λ (none : RefusedWagonsValue). AreNotedBy fed.counts none end.out_of_step) none_noted fed.out_of_step;
  }

  fed_to_end : (count : RunCount) → RunEnds Brings run count → Fed None
  fed_to_end count ends =
      fed_by None (lines_of ends.input) (record { read = ends.input; consumed = ends.consumed; which = (ends.ended, refl); few = omega (arith, ends.lines, ends.few) })
      (lines_fed 1 run.old run.new (lines_of ends.input) ends.output count.refused end none_waits ends.replies last)

  fed_to_stop : (n code : ℕ) (at : RunStandsAt Brings run n) → IsStoppedAt code at.input at.lines → n ≤ max_input_lines + 1 → Fed (Some code)
  fed_to_stop n code at stopped few =
      fed_by (Some code) at.lines (record { read = at.input; consumed = at.consumed; which = stopped; few = omega (arith, few, at.number) })
      (lines_fed 1 run.old run.new at.lines at.output at.refusals end none_waits at.replies last)

  -- a stop behind some lines, by what each number says of it
  stopped_at : (n code : ℕ) (at : RunStandsAt Brings run n) → 1 < code → (code ≡ 91 → (length at.lines ≡ max_input_lines) × (0 < length at.rest)) → (code ≡ 92 → max_line_bytes < length (first_line at.rest))
      → (code ≡ 93 → has_feed at.rest ≡ false) → n ≤ max_input_lines + 1 → Fed (Some code)
  stopped_at n code at later many long unread few =
      fed_to_stop n code at (record { rest = at.rest; begins = at.begins; memory = λ e. absurd (omega (arith, later, e)); many = many; long = long; unread = unread }) few

  few_by : (n : ℕ) (rest : List ℕ) → IsLineOrNext n rest → n ≤ max_input_lines + 1
  few_by n rest (inl line) = omega (arith, line)
  few_by n rest (inr next) = omega (arith, next.0)

  fed_until : (fault : RunFault) → failed.writer ≡ false → RunStops Brings run failed fault → Fed (Some (number_of fault))
  fed_until OutOfMemory quiet stops =
      fed_by (Some 1) [] (record {
        read = [];
        consumed = consumes_none run.from run.to stops.0;
        which = record {
          rest = [];
          begins = record { bytes = refl; free = tt };
          memory = λ e. (refl, refl);
          many = λ e. absurd (omega arith);
          long = λ e. absurd (omega arith);
          unread = λ e. refl;
        };
        few = omega arith;
      })
      (lines_fed 1 run.old run.new [] [] 0 end none_waits (refl, refl, stops.2) last)
  fed_until (TooManyLines n) quiet stops =
      stopped_at n 91 stops.0 (omega arith) (λ e. (omega (arith, stops.0.number, stops.1), stops.2)) (λ e. absurd (omega arith)) (λ e. absurd (omega arith)) (omega (arith, stops.1))
  fed_until (LineTooLong n) quiet stops =
      stopped_at n 92 stops.0 (omega arith) (λ e. absurd (omega arith)) (λ e. omega (arith, stops.2, standard)) (λ e. absurd (omega arith)) (omega (arith, stops.1))
  fed_until (ReadFailed n) quiet stops =
      stopped_at n 93 stops.0 (omega arith) (λ e. absurd (omega arith)) (λ e. absurd (omega arith)) (λ e. stops.2) (few_by n stops.0.rest stops.1)
  fed_until (WriteFailed n) quiet stops = absurd (let wrote : failed.writer ≡ true = stops.5 in cc)

  stop_is : (fault : RunFault) → failed.writer ≡ false → RunStops Brings run failed fault → IsStopNumber (number_of fault)
  stop_is OutOfMemory quiet stops = inl refl
  stop_is (TooManyLines n) quiet stops = inr (inl refl)
  stop_is (LineTooLong n) quiet stops = inr (inr (inl refl))
  stop_is (ReadFailed n) quiet stops = inr (inr (inr refl))
  stop_is (WriteFailed n) quiet stops = absurd (let wrote : failed.writer ≡ true = stops.5 in cc)

  stop_number_is : (result : Result RunCount RunFault) → failed.writer ≡ false → IfErr result (λ fault. RunStops Brings run failed fault) → IfSome (stop_number result) IsStopNumber
  stop_number_is (Ok count) quiet stops = tt
  stop_number_is (Err fault) quiet stops = stop_is fault quiet stops

  unread_by : (fault : RunFault) → RunStops Brings run failed fault → number_of fault ≡ 93 → failed.reader ≡ true
  unread_by OutOfMemory stops is = absurd (omega arith)
  unread_by (TooManyLines n) stops is = absurd (omega arith)
  unread_by (LineTooLong n) stops is = absurd (omega arith)
  unread_by (ReadFailed n) stops is = stops.3
  unread_by (WriteFailed n) stops is = absurd (omega arith)

  reader_failed : (result : Result RunCount RunFault) → IfErr result (λ fault. RunStops Brings run failed fault) → stop_number result ≡ Some 93 → failed.reader ≡ true
  reader_failed (Ok count) stops is = absurd cc
  reader_failed (Err fault) stops is = unread_by fault stops (let same : number_of fault ≡ 93 = cc in same)

  lines_by : (result : Result RunCount RunFault) → failed.writer ≡ false → IfOk result (λ count. RunEnds Brings run count) → IfErr result (λ fault. RunStops Brings run failed fault) → Fed (stop_number result)
  lines_by (Ok count) quiet ends stops = fed_to_end count ends
  lines_by (Err fault) quiet ends stops = fed_until fault quiet stops

  -- what a file's lines did at its seat, however the run ended; the number of what stopped it; its reader has failed at 93
  pub seat_fed : (result : Result RunCount RunFault) → failed.writer ≡ false → IfOk result (λ count. RunEnds Brings run count) → IfErr result (λ fault. RunStops Brings run failed fault)
      → Fed (stop_number result) × IfSome (stop_number result) IsStopNumber × (stop_number result ≡ Some 93 → failed.reader ≡ true)
  seat_fed result quiet ends stops = (lines_by result quiet ends stops, stop_number_is result quiet stops, reader_failed result stops)
