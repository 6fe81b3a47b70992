use Rattle.std.proofs.Common.{◌≡◌, ◌+◌, ◌∙◌, ◌++◌, [], ◌∷◌, ap, arith, length, refl, rules}
use Rattle.std.proofs.lemmas.List.{length-append}
use Rattle.cost_table.specs.RowParts.{cells_in}
use Rattle.cost_table.specs.declared.table_rows.RowPlace.{RowPlace}
use Rattle.cost_table.proofs.AmongLemmas.{places_pushed, rows_pushed}
use Rattle.cost_table.proofs.table_rows.TableRows.push_behind.Goals as goal

pub returns-clause-pushed : goal.returns-clause-pushed
returns-clause-pushed c =
    let old = c.args.self.now in
    let more = cells_in c.args.first ++ c.args.rest.now in
    let place : RowPlace = record { shared = c.args.shared; count = c.args.count; own = c.len-own.result } in
    let own : c.push.new.self ≡ old.own ++ more ∷ [] = c.in_ok-push.ensures.pushed in
    let longer : length c.push.new.self ≡ length old.own + 1 = ap length own ∙ length-append old.own (more ∷ []) in
    let places : c.push_reserved-2.new.self.items ≡ old.places.items ++ place ∷ [] = search rules in
    record {
      shared = refl;
      rows = rw (places, own) (rows_pushed old.shared.value old.own more old.places.items place c.requires (c.len-own.ensures.value ∙ longer));
      placed = rw places (places_pushed old.own c.push.new.self old.places.items place c.requires (omega (arith, longer)) (omega (arith, c.len-own.ensures.value)));
    }
