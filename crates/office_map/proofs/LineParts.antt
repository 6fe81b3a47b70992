-- A line that is drawn, its kilometres and minutes and then its way; and a line that is left out.
use Rattle.std.proofs.Common.{◌≡◌, ◌+◌, ℕ, List, [], ◌++◌, Bool, true, false, None, Some, refl, sym, ap, ◌∙◌, append_assoc, append-nil}
use Rattle.std.specs.Prelude.{slice_get, if◌then◌else◌, ◌||◌, not}
use Rattle.place_names.specs.declared.named_place.NamedPlace.{NamedPlace}
use Rattle.line_network.specs.Network.{NetworkValue}
use Rattle.line_network.specs.declared.line.Line.{Line}
use Rattle.office_map.specs.Lines.{has_shown_ends, is_second, line_edge, line_node, line_part, line_text, shows_line}

or_true : (b : Bool) → (b || true) ≡ true
or_true true = refl
or_true false = refl

module _ (named : List NamedPlace) (network : NetworkValue) (shown : List Bool) (i : ℕ) where
  -- what is drawn where a line isn't left out
  abbrev whole : List ℕ
  whole = line_text named network.places i (slice_get network.lines i) (is_second network.lines (i + 1))

  -- a line that is left out adds nothing
  nothing : (text : List ℕ) → (is_second network.lines i || not (shows_line shown (slice_get network.lines i))) ≡ true → text ≡ text ++ line_part named network shown i
  nothing text out = sym (append-nil text) ∙ ap (λ t. text ++ t) (sym (ap (λ (b : Bool). if b then [] else whole) out))

  pub line_missing : (text : List ℕ) → slice_get network.lines i ≡ None → text ≡ text ++ line_part named network shown i
  line_missing text here = nothing text (ap (λ o. is_second network.lines i || not (shows_line shown o)) here ∙ or_true (is_second network.lines i))

  module _ (line : Line) (here : slice_get network.lines i ≡ Some line) (drawn : Bool) (is_drawn : drawn ≡ is_second network.lines i) where
    -- the test, as it is made of the line
    tested : (is_second network.lines i || not (shows_line shown (slice_get network.lines i))) ≡ (drawn || not (has_shown_ends shown line))
    tested = ap (λ o. is_second network.lines i || not (shows_line shown o)) here ∙ ap (λ (b : Bool). b || not (has_shown_ends shown line)) (sym is_drawn)

    pub line_left_out : (text : List ℕ) → (drawn || not (has_shown_ends shown line)) ≡ true → text ≡ text ++ line_part named network shown i
    line_left_out text out = nothing text (tested ∙ out)

    -- a line that isn't left out
    part_is : (drawn || not (has_shown_ends shown line)) ≡ false → line_node named network.places i line ++ line_edge network.places i line (is_second network.lines (i + 1)) ≡ line_part named network shown i
    part_is first = sym (ap (λ (b : Bool). if b then [] else whole) (tested ∙ first) ∙ ap (λ o. line_text named network.places i o (is_second network.lines (i + 1))) here)

    pub line_drawn : (both : Bool) (old middle last : List ℕ) → (drawn || not (has_shown_ends shown line)) ≡ false → both ≡ is_second network.lines (i + 1)
        → middle ≡ old ++ line_node named network.places i line → last ≡ middle ++ line_edge network.places i line both → last ≡ old ++ line_part named network shown i
    line_drawn both old middle last first is node edge =
        edge ∙ ap (λ (t : List ℕ). t ++ line_edge network.places i line both) node ∙ append_assoc old (line_node named network.places i line) (line_edge network.places i line both)
        ∙ ap (λ (t : List ℕ). old ++ t) (ap (λ (b : Bool). line_node named network.places i line ++ line_edge network.places i line b) is ∙ part_is first)
