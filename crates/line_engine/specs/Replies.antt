-- The replies to lines. A handler's stand behind the line's number: `answers old line body refused new` says what its
-- state, the reply's text behind the number, and the mark of a refusal may be, and `runs_out old line new` what its
-- state may become where the reply is refused for memory. A responder's are whole texts: `replies n old line text
-- refused new`.
use Rattle.std.specs.Prelude.{◌≡◌, ℕ, ◌+◌, Bool, true, false, ◌⊎◌, List, [], ◌∷◌, ◌++◌, codes, decimal, if◌then◌else◌, MatchBool, MatchResult, Result}
use Rattle.std.specs.declared.alloc.AllocError.{AllocError}
use Rattle.line_engine.specs.Lines.{is_blank}
use Rattle.line_engine.specs.Outcome.{is_refusal}
use Rattle.line_engine.specs.declared.handler.Outcome.{Outcome}

abbrev pub Answering : Type 0 → Type 1
Answering H = H → List ℕ → List ℕ → Bool → H → Type 0

abbrev pub RunningOut : Type 0 → Type 1
RunningOut H = H → List ℕ → H → Type 0

-- the most bytes of a line's number and the space behind it, as they stand in a reply before it is answered
abbrev pub max_head_bytes : ℕ
max_head_bytes = 41

-- a reply of so many bytes takes no memory
abbrev pub least_room : ℕ
least_room = 256

-- what is replied behind the line's number where memory was refused
abbrev pub out_of_memory_body : List ℕ
out_of_memory_body = codes "refused 1\n"

-- What answering a line, or what it was read as, has done to a reply and a state: a body was added, which is a refusal or
-- not; or memory was refused.
abbrev pub IsAnswered : {H L : Type 0} → (answers : H → L → List ℕ → Bool → H → Type 0) → (runs_out : H → L → H → Type 0) → L → (before after : List ℕ × H) → Result Outcome AllocError → Type 0
IsAnswered answers runs_out line before after result = MatchResult result
    (λ outcome. (body : List ℕ) × (after.0 ≡ before.0 ++ body) × answers before.1 line body (is_refusal outcome) after.1)
    (λ _. runs_out before.1 line after.1)

-- the reply to a line that isn't blank, behind the line's number
abbrev pub Responds : {H : Type 0} → Answering H → RunningOut H → H → List ℕ → List ℕ → Bool → H → Type 0
Responds answers runs_out old line body refused new =
    answers old line body refused new ⊎ (runs_out old line new × (body ≡ out_of_memory_body) × (refused ≡ true))

-- What a run may do with a line that isn't blank: the line's number, the state before, the line, the whole reply,
-- whether that is a refusal, and the state after.
abbrev pub Replying : Type 0 → Type 1
Replying H = ℕ → H → List ℕ → List ℕ → Bool → H → Type 0

-- a handler's replies, each behind its line's number and a space
abbrev pub Numbered : {H : Type 0} → Answering H → RunningOut H → Replying H
Numbered {H} answers runs_out n old line text refused new =
    (body : List ℕ) × (text ≡ decimal n ++ 32 ∷ body) × Responds answers runs_out old line body refused new

-- What line number n adds to the output: nothing where it is blank, else its reply.
abbrev pub ServesLine : {H : Type 0} → Replying H → ℕ → H → List ℕ → List ℕ → Bool → H → Type 0
ServesLine {H} replying n old line text refused new =
    MatchBool (is_blank line) ((text ≡ []) × (refused ≡ false) × (new ≡ old)) (replying n old line text refused new)

-- the same where replies stand behind their lines' numbers
abbrev pub AnswersLine : {H : Type 0} → Answering H → RunningOut H → ℕ → H → List ℕ → List ℕ → Bool → H → Type 0
AnswersLine {H} answers runs_out n old line text refused new = ServesLine (Numbered answers runs_out) n old line text refused new

abbrev pub refusal_count : Bool → ℕ
refusal_count refused = if refused then 1 else 0

-- The lines from number n on, one after the other, take the state from old to new, and give this output
-- with so many refusals in it.
abbrev pub ServesLines : {H : Type 0} → Replying H → ℕ → H → List (List ℕ) → List ℕ → ℕ → H → Type 0
ServesLines {H} replying n old [] output refusals new = (output ≡ []) × (refusals ≡ 0) × (new ≡ old)
ServesLines {H} replying n old (line ∷ lines) output refusals new =
    (text : List ℕ) × (rest : List ℕ) × (refused : Bool) × (others : ℕ) × (mid : H)
    × ServesLine replying n old line text refused mid
    × ServesLines replying (n + 1) mid lines rest others new
    × (output ≡ text ++ rest) × (refusals ≡ refusal_count refused + others)

-- the same where replies stand behind their lines' numbers
abbrev pub Replies : {H : Type 0} → Answering H → RunningOut H → ℕ → H → List (List ℕ) → List ℕ → ℕ → H → Type 0
Replies {H} answers runs_out n old lines output refusals new = ServesLines (Numbered answers runs_out) n old lines output refusals new
