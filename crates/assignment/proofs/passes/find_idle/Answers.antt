use Rattle.std.proofs.Common.{get_or, ap, arith, inl, inr}
use Rattle.std.proofs.lemmas.Bool.{cases_eq, cases_lt}
use Rattle.assignment.proofs.passes.find_idle.Goals as goal

pub groups-preserved : goal.groups-preserved
groups-preserved c =
    let h = c.groups.invariant in
    let found = c.in-Some.ensures.found in
    let before = found.before in
    let end = h.before in
    record {
      from = omega (arith, before, end);
      before = end;
      none = λ g l is has. elim (cases_lt g c.groups.span.start) [
        | inl earlier ↦ h.none g earlier is has
        | inr later ↦ elim (cases_eq g c.in-Some.group) [
          | inl same ↦ let at = ap (λ x. get_or c.args.idle.now x 0) same in has (omega (arith, at, c.if-idle-group.false))
          | inr other ↦ found.first g later (omega (arith, l, other)) is
        ]
      ];
    }
