use Rattle.std.proofs.Common.{◌∙◌, ◌≤◌, ap, arith, length, sym}
use Rattle.std.specs.BTreeMap.{get}
use Rattle.fleet_rows.specs.Kept.{compare_numbers, max_roster_wagons}
use Rattle.fleet_rows.proofs.Wagons.{IsWagonRows-roster}
use Rattle.operating_db.proofs.FleetChange.{IsChanged, changed_by, fleet_agrees, fleet_valid, leaving_refused, none_by, own_by}
use Rattle.operating_db.proofs.office_state.OfficeState.with_fleet.Goals as goal

pub returns-in-Some-leaving_fault-clause-refused : goal.returns-in-Some-leaving_fault-clause-refused
returns-in-Some-leaving_fault-clause-refused c =
    leaving_refused c.args.self.now.office.wagons c.args.added.now c.args.leaving.now (get compare_numbers c.in_ok-fleet.fleet) c.in-Some-leaving_fault.fault (sym c.adding_fault.ensures ∙ none_by c.adding_fault.result c.in_default.not-Some)
    (rw c.wagon_rows.ensures.rows at c.in_ok-fleet.ensures) (sym c.leaving_fault.ensures ∙ c.in-Some-leaving_fault.is)

pub rows_without-requires : goal.rows_without-requires
rows_without-requires c = own_by (get compare_numbers c.in_ok-fleet.fleet) c.wagon_rows.result.now c.args.added.now c.in_ok-fleet.ensures

changed : (c : goal.After-deref) → IsChanged c.args.self.now.office.wagons c.args.added.now c.args.leaving.now c.in_ok-rows.rows.items
changed c =
    changed_by c.args.self.now.office.wagons c.args.added.now c.args.leaving.now (get compare_numbers c.in_ok-fleet.fleet) c.in_ok-rows.rows.items (sym c.adding_fault.ensures ∙ none_by c.adding_fault.result c.in_default.not-Some)
    (rw c.wagon_rows.ensures.rows at c.in_ok-fleet.ensures) (sym c.leaving_fault.ensures ∙ none_by c.leaving_fault.result c.in_default-leaving_fault.not-Some) c.in_ok-rows.ensures

pub with_wagons-requires-clause-valid : goal.with_wagons-requires-clause-valid
with_wagons-requires-clause-valid c =
    let few : length c.in_ok-rows.rows.items ≤ max_roster_wagons = omega (arith, ap length c.deref.ensures.value) in
    rw c.deref.ensures.value (fleet_valid c.args.self.now.office.wagons c.args.added.now c.args.leaving.now c.in_ok-rows.rows.items c.wagon_rows.ensures.valid (IsWagonRows-roster c.args.added.now c.requires) (changed c).fleet few)

pub with_wagons-requires-clause-agree : goal.with_wagons-requires-clause-agree
with_wagons-requires-clause-agree c =
    rw c.deref.ensures.value (fleet_agrees c.args.self.now.office c.args.added.now c.args.leaving.now c.in_ok-rows.rows.items c.requires (changed c).no_fault (changed c).fleet c.wagon_rows.ensures.agree)
