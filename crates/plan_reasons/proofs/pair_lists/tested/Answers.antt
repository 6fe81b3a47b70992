use Rattle.std.proofs.Common.{◌≡◌, ◌∙◌, ◌+◌, ◌++◌, ◌∷◌, [], ℕ, List, ap, get_or, map, sym, take}
use Rattle.std.proofs.lemmas.List.{map-append, take_more}
use Rattle.std.proofs.lemmas.List.Elements.{All-push}
use Rattle.plan_reasons.specs.declared.failed.Failed.{Failed}
use Rattle.plan_reasons.specs.inner.AddedPairs.{IsFoundFailed}
use Rattle.plan_reasons.proofs.pair_lists.tested.Goals as goal

pub failed_test-test-requires : goal.failed_test-test-requires
failed_test-test-requires c = c.requires c.loop-pair.pair-index (0, 0) c.loop-pair-test.true

pub loop-pair-preserved : goal.loop-pair-preserved
loop-pair-preserved c =
    let i = c.loop-pair.pair-index in
    let pairs = c.args.failing.now in
    let pair : ℕ × ℕ = get_or pairs i (0, 0) in
    let failed : Failed = record { pair = pair; test = c.failed_test-test.result } in
    let pair_of = λ (failed : Failed). failed.pair in
    let items = c.in_ok-push.ensures.items in
    let more : map pair_of (c.loop-pair.tested.items ++ failed ∷ []) ≡ take (i + 1) pairs =
    map-append pair_of c.loop-pair.tested.items (failed ∷ []) ∙ (ap (λ (ps : List (ℕ × ℕ)). ps ++ pair ∷ []) c.loop-pair.invariant.pairs ∙ sym (take_more pairs i (0, 0) c.loop-pair-test.true)) in
    let all = All-push (IsFoundFailed c.args.planned.now) c.loop-pair.tested.items failed c.loop-pair.invariant.each ((c.requires i (0, 0) c.loop-pair-test.true).0, c.failed_test-test.ensures) in
    rw items (record { pairs = more; each = all })
