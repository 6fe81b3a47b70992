use Rattle.std.proofs.Common.{◌<◌, List, [], ◌∷◌, Option, Some, length, set, subst, sym, arith}
use Rattle.line_network.specs.inner.Turns.{Waiting, entry, waiting_of, waits}
use Rattle.std.specs.List.Sorted.{IsPermutation}
use Rattle.std.proofs.lemmas.Bool.{iff_false}
use Rattle.line_network.specs.declared.length.Length.{Length}
use Rattle.line_network.specs.inner.Lengths.{Distance, distance_of, length_of}
use Rattle.line_network.proofs.Numbering.{length_known, known_lower}
use Rattle.line_network.proofs.Searching.{IsSearch, IsSearch-start, IsSearch-stale, IsSearch-next, IsRow-search, place_in_range}
use Rattle.line_network.proofs.search.search.Goals as goal

pub loop-next-init : goal.loop-next-init
loop-next-init c =
    let P : List (Option Distance) → Type 0 = λ xs. IsSearch c.args.lines.now.lines.items (length c.args.labels.now) c.args.origin xs (waits c.push.new.self) in
    let Q : List (Option Distance) → Type 0 = λ xs. P (set xs c.args.origin (Some (record { km = 0; minutes = 0 }))) in
    let R : Waiting → Type 0 = λ w. IsPermutation (w ∷ []) (waits c.push.new.self) in
    let S : Length → Type 0 = λ l. R (entry (distance_of l) c.args.origin) in
    let moved = subst S c.new-start.ensures (subst R c.new.ensures (rw c.requires.none_waits at c.in_ok-push.ensures)) in
    rw c.new-start.ensures (subst P (sym (known_lower _ c.args.origin (length_of 0 0) (omega arith))) (subst Q (sym c.requires.unreached) (IsSearch-start _ _ _ c.requires.origin _ moved)))

pub is_label-requires : goal.is_label-requires
is_label-requires c =
    let within : (waiting_of c.in-Some.next).place < length c.args.labels.now = place_in_range _ _ _ (waiting_of c.in-Some.next).distance (waiting_of c.in-Some.next).place c.loop-next.invariant.in_range c.in-Some.ensures.next in
    omega (arith, c.loop-next.invariant.full, length_known c.loop-next.labels)

pub loop-next-preserved : goal.loop-next-preserved
loop-next-preserved c =
    IsSearch-next _ _ _ _ _ _ _ _ (waiting_of c.in-Some.next).distance (waiting_of c.in-Some.next).place c.loop-next.invariant c.in-Some.ensures.next c.in_ok-relax_lines.ensures.improves c.in_ok-relax_lines.ensures.bounded c.in_ok-relax_lines.ensures.label c.in_ok-relax_lines.ensures.relaxed

pub loop-next-preserved-then-not-is_label : goal.loop-next-preserved-then-not-is_label
loop-next-preserved-then-not-is_label c =
    IsSearch-stale _ _ _ _ _ _ (waiting_of c.in-Some.next).distance (waiting_of c.in-Some.next).place c.loop-next.invariant c.in-Some.ensures.next (iff_false c.is_label.ensures c.if-not-is_label.true)

pub returns : goal.returns
returns c = IsRow-search _ _ _ _ _ c.loop-next.invariant (omega (arith, c.in_default.ensures.none))
