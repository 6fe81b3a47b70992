-- What a file's run is by what its lines did at a seat: how many were counted, and what stopped it.
use Rattle.std.proofs.Common.{◌≡◌, ◌+◌, ◌<◌, ◌≤◌, ◌∷◌, ℕ, suc, Bool, true, false, cond, List, [], ◌++◌, length, refl, sym, ap, ◌∙◌, subst, arith, append_assoc}
use Rattle.std.specs.Prelude.{◌&&◌, ◌==◌, not, Any, Option, Some, None, IfSome}
use Rattle.std.specs.List.{count_by}
use Rattle.std.specs.Io.KnownBytes.{Consumes, IsAtEnd}
use Rattle.std.proofs.lemmas.List.{length-append, append-nil}
use Rattle.std.proofs.lemmas.List.Sums.{sum_by-cons}
use Rattle.line_engine.specs.Lines.{BeginsWith, line_feed, lines_of, first_line, begin_with, is_blank, max_input_lines, max_line_bytes, with_feeds}
use Rattle.line_engine.proofs.Running.{lines_of-with_feeds}
use Rattle.commit_book.specs.Setting.{Setting}
use Rattle.line_fields.specs.Commands.{command_of}
use Rattle.sessions.specs.Seat.{SeatValue, count_of}
use Rattle.sessions.specs.FedLines.{AreTaken, IsSeatFed, blank_line, is_accepted, is_refused, is_repeated, no_line, one_line}
use Rattle.sessions.specs.FeedCounts.{IsFileRun, IsStopNumber, is_counted, may_count, must_count}
use Rattle.sessions.specs.declared.feed_lines.Counted.{Counted}
use Rattle.sessions.specs.declared.feed_lines.Counted.TheVariants.{Accepted, Repeated, OutOfStep, Refused, Nowhere}
use Rattle.sessions.proofs.FedSeats.{read_nowhere}

-- ---- lines

abbrev one_if : Bool → ℕ
one_if b = cond b 1 0

abbrev accepted_one : Counted → ℕ
accepted_one c = one_if (is_accepted c)

abbrev repeated_one : Counted → ℕ
repeated_one c = one_if (is_repeated c)

abbrev refused_one : Counted → ℕ
refused_one c = one_if (is_refused c)

abbrev must_one : List ℕ → ℕ
must_one line = one_if (must_count line)

abbrev may_one : List ℕ → ℕ
may_one line = one_if (may_count line)

-- how many lines count somewhere
abbrev tally_of : List Counted → ℕ
tally_of counts = count_by is_accepted counts + count_by is_repeated counts + count_by is_refused counts

-- what counts somewhere counts once
once : (kind : Bool) (counted : Counted) → (counted ≡ Nowhere → kind ≡ false) → (one_if kind ≤ accepted_one counted + repeated_one counted + refused_one counted) × (accepted_one counted + repeated_one counted + refused_one counted ≤ 1)
once false Accepted nowhere = (omega arith, omega arith)
once false Repeated nowhere = (omega arith, omega arith)
once false (OutOfStep wagon) nowhere = (omega arith, omega arith)
once false Refused nowhere = (omega arith, omega arith)
once false Nowhere nowhere = (omega arith, omega arith)
once true Accepted nowhere = (omega arith, omega arith)
once true Repeated nowhere = (omega arith, omega arith)
once true (OutOfStep wagon) nowhere = (omega arith, omega arith)
once true Refused nowhere = (omega arith, omega arith)
once true Nowhere nowhere = absurd (let never : true ≡ false = nowhere refl in cc)

blank_ones : (blank kind : Bool) → blank ≡ true → (one_if (not blank && kind) ≡ 0) × (one_if (not blank) ≡ 0)
blank_ones true kind is = (refl, refl)
blank_ones false kind is = absurd cc

filled_ones : (blank kind : Bool) → blank ≡ false → (one_if (not blank && kind) ≡ one_if kind) × (one_if (not blank) ≡ 1)
filled_ones true kind is = absurd cc
filled_ones false kind is = (refl, refl)

-- Each line that must be counted is, and none but those that may.
record Tallied (lines : List (List ℕ)) (counts : List Counted) : Type 0 where
  all : count_by must_count lines ≤ tally_of counts
  only : tally_of counts ≤ count_by may_count lines

tallied_blank : (line : List ℕ) (lines : List (List ℕ)) (counts : List Counted) → is_blank line ≡ true → Tallied lines counts → Tallied (line ∷ lines) counts
tallied_blank line lines counts blank rest =
    let ones = blank_ones (is_blank line) (is_counted (command_of line)) blank in
    record { all = omega (arith, rest.all, ones.0, sum_by-cons must_one line lines); only = omega (arith, rest.only, ones.1, sum_by-cons may_one line lines) }

tallied_line : (line : List ℕ) (lines : List (List ℕ)) (counted : Counted) (counts : List Counted) → is_blank line ≡ false → (counted ≡ Nowhere → is_counted (command_of line) ≡ false) → Tallied lines counts → Tallied (line ∷ lines) (counted ∷ counts)
tallied_line line lines counted counts filled nowhere rest =
    let ones = filled_ones (is_blank line) (is_counted (command_of line)) filled in
    let one = once (is_counted (command_of line)) counted nowhere in
    let accepted = sum_by-cons accepted_one counted counts in
    let repeated = sum_by-cons repeated_one counted counts in
    let refused = sum_by-cons refused_one counted counts in
    record {
      all = omega (arith, rest.all, ones.0, one.0, accepted, repeated, refused, sum_by-cons must_one line lines);
      only = omega (arith, rest.only, ones.1, one.1, accepted, repeated, refused, sum_by-cons may_one line lines);
    }

tallied : {setting : Setting} {old new : SeatValue} {lines : List (List ℕ)} {counts : List Counted} → AreTaken setting old new lines counts → Tallied lines counts
tallied no_line = record { all = omega arith; only = omega arith }
tallied (blank_line {line = line} {lines = lines} {counts = counts} blank rest) = tallied_blank line lines counts blank (tallied rest)
tallied {setting} (one_line {old = old} {line = line} {lines = lines} {counts = counts} between counted filled taken rest) =
    tallied_line line lines counted counts filled (read_nowhere setting old between (command_of line) counted taken) (tallied rest)

-- ---- bytes

all_read : (to : Option (List ℕ)) (input bytes : List ℕ) → Consumes (Some bytes) to input → IsAtEnd to → bytes ≡ input
all_read None input bytes from ended = absurd from
all_read (Some left) input bytes from ended = from ∙ ap (λ (xs : List ℕ). input ++ xs) ended ∙ append-nil input

-- all bytes that a reader told were read
whole : (told to : Option (List ℕ)) (input bytes : List ℕ) → told ≡ Some bytes → Consumes told to input → IsAtEnd to → bytes ≡ input
whole told to input bytes is consumed ended = all_read to input bytes (subst (λ (o : Option (List ℕ)). Consumes o to input) is consumed) ended

-- what was read is at the front of the bytes that a reader told
front_by : (to : Option (List ℕ)) (input bytes : List ℕ) → Consumes (Some bytes) to input → (more : List ℕ) × (bytes ≡ input ++ more)
front_by None input bytes from = absurd from
front_by (Some left) input bytes from = (left, from)

front : (told to : Option (List ℕ)) (input bytes : List ℕ) → told ≡ Some bytes → Consumes told to input → (more : List ℕ) × (bytes ≡ input ++ more)
front told to input bytes is consumed = front_by to input bytes (subst (λ (o : Option (List ℕ)). Consumes o to input) is consumed)

-- the first of some lines, or no bytes
head_of : List (List ℕ) → List ℕ
head_of [] = []
head_of (line ∷ lines) = line

length-begin_with : (c : ℕ) (lines : List (List ℕ)) → 0 < length (begin_with c lines)
length-begin_with c [] = omega arith
length-begin_with c (line ∷ lines) = omega arith

some_line_by : (c : ℕ) (lines : List (List ℕ)) (feed : Bool) → 0 < length (cond feed ([] ∷ lines) (begin_with c lines))
some_line_by c lines true = omega arith
some_line_by c lines false = length-begin_with c lines

some_line : (bytes more : List ℕ) → 0 < length bytes → 0 < length (lines_of (bytes ++ more))
some_line [] more some = omega arith
some_line (c ∷ bytes) more some = some_line_by c (lines_of (bytes ++ more)) (c == line_feed)

head-begin_with : (c : ℕ) (lines : List (List ℕ)) → head_of (begin_with c lines) ≡ c ∷ head_of lines
unfolding head_of
head-begin_with c [] = refl
head-begin_with c (line ∷ lines) = refl

first_within_by : (c : ℕ) (first : List ℕ) (lines : List (List ℕ)) (feed : Bool) → length first ≤ length (head_of lines) → length (cond feed [] (c ∷ first)) ≤ length (head_of (cond feed ([] ∷ lines) (begin_with c lines)))
first_within_by c first lines true within = omega arith
first_within_by c first lines false within = rw head-begin_with (omega (arith, within))

-- the first line of what was read is at the front of the first line of all
first_within : (bytes more : List ℕ) → length (first_line bytes) ≤ length (head_of (lines_of (bytes ++ more)))
first_within [] more = omega arith
first_within (c ∷ bytes) more = first_within_by c (first_line bytes) (lines_of (bytes ++ more)) (c == line_feed) (first_within bytes more)

-- a long one behind others
abbrev IsLong : List ℕ → Type 0
IsLong line = max_line_bytes < length line

long_later : (line : List ℕ) (lines : List (List ℕ)) → Any IsLong lines → Any IsLong (line ∷ lines)
long_later line lines any = (suc any.0, any.1, omega (arith, any.2), any.3, any.4)

long_head : (lines : List (List ℕ)) → max_line_bytes < length (head_of lines) → Any IsLong lines
unfolding head_of
long_head [] long = absurd (omega arith)
long_head (line ∷ lines) long = (0, line, omega arith, refl, long)

long_behind : (lines more : List (List ℕ)) → max_line_bytes < length (head_of more) → Any IsLong (lines ++ more)
long_behind [] more long = long_head more long
long_behind (line ∷ lines) more long = long_later line (lines ++ more) (long_behind lines more long)

-- ---- stops

-- the lines of the bytes that a reader told: those before the line of a stop, and those from there on
stop_lines : (told left : Option (List ℕ)) (read bytes : List ℕ) (lines : List (List ℕ)) (rest : List ℕ) → BeginsWith read lines rest → told ≡ Some bytes → Consumes told left read → (more : List ℕ) × (lines_of bytes ≡ lines ++ lines_of (rest ++ more))
stop_lines told left read bytes lines rest begins is consumed =
    let f = front told left read bytes is consumed in (
      f.0,
      ap lines_of (f.1 ∙ ap (λ (xs : List ℕ). xs ++ f.0) begins.bytes ∙ append_assoc (with_feeds lines) rest f.0) ∙ lines_of-with_feeds lines (rest ++ f.0) begins.free,
    )

many_lines : (lines : List (List ℕ)) (rest more bytes : List ℕ) → lines_of bytes ≡ lines ++ lines_of (rest ++ more) → length lines ≡ max_input_lines → 0 < length rest → max_input_lines < length (lines_of bytes)
many_lines lines rest more bytes is many some =
    let next : 0 < length (lines_of (rest ++ more)) = some_line rest more some in
    omega (arith, next, many, ap length is, length-append lines (lines_of (rest ++ more)))

long_line : (lines : List (List ℕ)) (rest more bytes : List ℕ) → lines_of bytes ≡ lines ++ lines_of (rest ++ more) → max_line_bytes < length (first_line rest) → Any IsLong (lines_of bytes)
long_line lines rest more bytes is long =
    let within : length (first_line rest) ≤ length (head_of (lines_of (rest ++ more))) = first_within rest more in
    let head : max_line_bytes < length (head_of (lines_of (rest ++ more))) = omega (arith, long, within) in
    subst (Any IsLong) (sym is) (long_behind lines (lines_of (rest ++ more)) head)

-- ---- a file's run

not_none : {P : Type 0} (code : ℕ) → let o : Option ℕ = Some code in o ≡ None → P
not_none code h = absurd cc

-- what lines did at a seat, by how the file ended, makes the file's run
pub file_run : (setting : Setting) (told left : Option (List ℕ)) (failed : Option ℕ) (counts : List Counted) (seat : SeatValue) (repeated refused : ℕ) (has_failed : Bool) → IsSeatFed setting told left failed counts seat repeated refused
    → IfSome failed IsStopNumber → (failed ≡ Some 93 → has_failed ≡ true) → IsFileRun told left (count_of seat + repeated + refused) failed has_failed
file_run setting told left None counts seat repeated refused has_failed fed number unread =
    let t = tallied fed.taken in
    let ended = fed.done.which in
    let lines_are : (bytes : List ℕ) → told ≡ Some bytes → lines_of bytes ≡ fed.lines =
    λ bytes is. ap lines_of (whole told left fed.done.read bytes is fed.done.consumed ended.0) ∙ sym ended.1 in
    record {
      rest = (fed.done.read, fed.done.consumed);
      ended = λ none. ended.0;
      all = λ bytes is none. rw (lines_are bytes is) (omega (arith, t.all, fed.counts_accepted, fed.counts_repeated, fed.counts_refused));
      only = λ bytes is none. rw (lines_are bytes is) (omega (arith, t.only, fed.counts_accepted, fed.counts_repeated, fed.counts_refused));
      number = number;
      too_many = λ bytes is which. absurd cc;
      too_long = λ bytes is which. absurd cc;
      unread = unread;
    }
file_run setting told left (Some code) counts seat repeated refused has_failed fed number unread =
    let stop = fed.done.which in
    record {
      rest = (fed.done.read, fed.done.consumed);
      ended = λ none. not_none code none;
      all = λ bytes is none. not_none code none;
      only = λ bytes is none. not_none code none;
      number = number;
      too_many = λ bytes is which.
          let l = stop_lines told left fed.done.read bytes fed.lines stop.rest stop.begins is fed.done.consumed in
          let same : code ≡ 91 = cc in
          let many = stop.many same in
          many_lines fed.lines stop.rest l.0 bytes l.1 many.0 many.1;
      too_long = λ bytes is which.
          let l = stop_lines told left fed.done.read bytes fed.lines stop.rest stop.begins is fed.done.consumed in
          let same : code ≡ 92 = cc in
          long_line fed.lines stop.rest l.0 bytes l.1 (stop.long same);
      unread = unread;
    }
