-- The rows of a trace are chained.
use Rattle.std.proofs.Common.{◌≡◌, ◌+◌, ℕ, Bool, true, false, List, [], ◌∷◌, ◌++◌, Option, Some, None, refl, sym, ap, ◌∙◌, subst, inl, inr, true≢false, append_assoc, append-nil}
use Rattle.line_engine.specs.Lines.{is_blank}
use Rattle.line_engine.specs.Replies.{ServesLine, ServesLines}
use Rattle.traces.specs.Asked.{row_in}
use Rattle.traces.specs.Laws.{IsChained, LeadTo, RowsAreChained, row_now}
use Rattle.traces.specs.Steps.{office_of, with_step}
use Rattle.traces.specs.Traces.{Follows, FollowsWhere, IsFollowed, TraceValue}
use Rattle.traces.specs.declared.asked.Asked.{Asked}
use Rattle.traces.specs.declared.asked_row.AskedRow.{AskedRow}
use Rattle.traces.specs.declared.step.Step.{Step}
use Rattle.traces.proofs.Links.{IsLink, line_link}

-- ---- chains

lead_on : (first mid last : AskedRow) (steps more : List Step) → LeadTo first steps mid → LeadTo mid more last → LeadTo first (steps ++ more) last
lead_on first mid last [] more lead on = subst (λ (row : AskedRow). LeadTo row more last) (sym lead) on
lead_on first mid last (step ∷ steps) more lead on = (lead.0, lead_on step.after mid last steps more lead.1 on)

chained_on : (old mid new : TraceValue) → IsChained old mid → IsChained mid new → IsChained old new
chained_on old mid new first second = record {
  added = first.added ++ second.added;
  steps = second.steps ∙ ap (λ (steps : List Step). steps ++ second.added) first.steps ∙ append_assoc old.steps first.added second.added;
  lead = lead_on (row_now old) (row_now mid) (row_now new) first.added second.added first.lead second.lead;
}

chained_nowhere : (old new : TraceValue) → new ≡ old → IsChained old new
chained_nowhere old new same = record {
  added = [];
  steps = ap (λ (trace : TraceValue). trace.steps) same ∙ sym (append-nil old.steps);
  lead = ap row_now (sym same);
}

chained_by : (old new : TraceValue) (shown : Option Step) → new.steps ≡ with_step old.steps shown → IsLink (row_now old) (row_now new) shown → IsChained old new
chained_by old new None steps link = record { added = []; steps = steps ∙ sym (append-nil old.steps); lead = link }
chained_by old new (Some step) steps link = record { added = step ∷ []; steps = steps; lead = (link.0, link.1) }

-- ---- lines

followed_chained : (line : ℕ) (old : TraceValue) (bytes : List ℕ) (new : TraceValue) → IsFollowed line old bytes new → IsChained old new
followed_chained line old bytes new is =
    chained_by old new is.shown is.steps
    (subst (λ (asked : Asked). IsLink (row_now old) (row_in asked (office_of new.book)) is.shown) (sym is.asked) (line_link line old.asked old.book bytes is.shown new.book is.traces))

where_chained : (partial : Bool) (line : ℕ) (old : TraceValue) (bytes : List ℕ) (new : TraceValue) → FollowsWhere partial line old bytes new → new.partial ≡ false → IsChained old new
where_chained true line old bytes new follows whole = chained_nowhere old new follows
where_chained false line old bytes new follows whole = elim follows [
  | inl is ↦ followed_chained line old bytes new is
  | inr cut ↦ absurd (true≢false (sym cut.partial ∙ whole))
]

line_chained : (n : ℕ) (old : TraceValue) (line text : List ℕ) (refused : Bool) (new : TraceValue) (blank : Bool) → is_blank line ≡ blank → ServesLine Follows n old line text refused new
    → new.partial ≡ false → IsChained old new
line_chained n old line text refused new true is serves whole = chained_nowhere old new (rw is at serves).2
line_chained n old line text refused new false is serves whole =
    let follows = rw is at serves in
    where_chained old.partial n old line new follows.2 whole

-- ---- a partial trace stays

stays_at : (partial : Bool) (line : ℕ) (old : TraceValue) (bytes : List ℕ) (new : TraceValue) → partial ≡ true → FollowsWhere partial line old bytes new → new ≡ old
stays_at true line old bytes new is follows = follows
stays_at false line old bytes new is follows = absurd (true≢false (sym is))

stays_line : (n : ℕ) (old : TraceValue) (line text : List ℕ) (refused : Bool) (new : TraceValue) (blank : Bool) → is_blank line ≡ blank → old.partial ≡ true
    → ServesLine Follows n old line text refused new → new ≡ old
stays_line n old line text refused new true is partial serves = (rw is at serves).2
stays_line n old line text refused new false is partial serves =
    let follows = rw is at serves in
    stays_at old.partial n old line new partial follows.2

stays : (n : ℕ) (old new : TraceValue) (lines : List (List ℕ)) (output : List ℕ) (refusals : ℕ) → old.partial ≡ true → ServesLines Follows n old lines output refusals new → new ≡ old
stays n old new [] output refusals partial serves = serves.2
stays n old new (line ∷ lines) output refusals partial serves =
    let same = stays_line n old line serves.0 serves.2 serves.4 (is_blank line) refl partial serves.5 in
    stays (n + 1) serves.4 new lines serves.1 serves.3 (ap (λ (trace : TraceValue). trace.partial) same ∙ partial) serves.6 ∙ same

whole_before : (partial : Bool) (mid new : TraceValue) → mid.partial ≡ partial → (mid.partial ≡ true → new ≡ mid) → new.partial ≡ false → mid.partial ≡ false
whole_before true mid new is keeps whole = absurd (true≢false (sym is ∙ ap (λ (trace : TraceValue). trace.partial) (sym (keeps is)) ∙ whole))
whole_before false mid new is keeps whole = is

-- ---- all lines

pub chained : RowsAreChained
chained n old new [] output refusals serves whole = chained_nowhere old new serves.2
chained n old new (line ∷ lines) output refusals serves whole =
    let before = whole_before serves.4.partial serves.4 new refl (λ partial. stays (n + 1) serves.4 new lines serves.1 serves.3 partial serves.6) whole in
    chained_on old serves.4 new (line_chained n old line serves.0 serves.2 serves.4 (is_blank line) refl serves.5 before) (chained (n + 1) serves.4 new lines serves.1 serves.3 serves.6 whole)
