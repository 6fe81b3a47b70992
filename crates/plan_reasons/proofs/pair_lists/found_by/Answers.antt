use Rattle.std.proofs.Common.{◌≡◌, ◌∙◌, ◌+◌, ◌++◌, ◌∷◌, [], ℕ, List, ap, get_or, map, sym, take}
use Rattle.std.proofs.lemmas.List.{map-append, take_more}
use Rattle.std.proofs.lemmas.List.Elements.{All-push}
use Rattle.plan_reasons.specs.declared.fit.Fit.{Fit}
use Rattle.plan_reasons.specs.inner.AddedPairs.{IsFoundFit}
use Rattle.plan_reasons.proofs.pair_lists.found_by.Goals as goal

pub more_beside-requires-clause-fitting : goal.more_beside-requires-clause-fitting
more_beside-requires-clause-fitting c = c.requires.fitting c.loop-pair.pair-index (0, 0) c.loop-pair-test.true

pub more_beside-requires-clause-found : goal.more_beside-requires-clause-found
more_beside-requires-clause-found c = rw c.deref.ensures.value c.loop-pair.invariant.fitting

pub loop-pair-preserved : goal.loop-pair-preserved
loop-pair-preserved c =
    let i = c.loop-pair.pair-index in
    let pairs = c.args.fitting.now in
    let pair : ℕ × ℕ = get_or pairs i (0, 0) in
    let fit : Fit = record { pair = pair; more = c.in_ok-more.more } in
    let pair_of = λ (fit : Fit). fit.pair in
    let items = c.in_ok-push.ensures.items in
    let more : map pair_of (c.loop-pair.found.items ++ fit ∷ []) ≡ take (i + 1) pairs =
    map-append pair_of c.loop-pair.found.items (fit ∷ []) ∙ (ap (λ (ps : List (ℕ × ℕ)). ps ++ pair ∷ []) c.loop-pair.invariant.pairs ∙ sym (take_more pairs i (0, 0) c.loop-pair-test.true)) in
    let all = All-push (IsFoundFit c.args.numbers c.args.planned.now) c.loop-pair.found.items fit c.loop-pair.invariant.fitting (c.requires.fitting i (0, 0) c.loop-pair-test.true, c.in_ok-more.ensures) in
    rw items (record { pairs = more; fitting = all })
