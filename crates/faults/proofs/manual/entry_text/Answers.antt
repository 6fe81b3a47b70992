use Rattle.std.proofs.Common.{rules, tests, eqb}
use Rattle.std.proofs.lemmas.Iterator.{YieldsList-from_slice}
use Rattle.std.proofs.lemmas.Iterator.Search.{find_from_yields_List}
use Rattle.faults.proofs.EntryLemmas.{known_from, named_from}
use Rattle.faults.proofs.manual.entry_text.Goals as goal

pub returns-in_err-text-clause-known : goal.returns-in_err-text-clause-known
returns-in_err-text-clause-known c =
    let found = find_from_yields_List (λ t. eqb c.args.number t.0) _ _ c.find.result c.find.ensures.ran (YieldsList-from_slice c.entries-entries.result cc) (λ x b q k. search (rules, tests)) in
    rw c.from_residual.ensures (rw c.in_err-text.was at (known_from c.args.number c.entries-entries.result c.find.result c.entries-entries.ensures found))

pub returns-clause-known : goal.returns-clause-known
returns-clause-known c =
    let found = find_from_yields_List (λ t. eqb c.args.number t.0) _ _ c.find.result c.find.ensures.ran (YieldsList-from_slice c.entries-entries.result cc) (λ x b q k. search (rules, tests)) in
    rw c.in_ok-text.was at (known_from c.args.number c.entries-entries.result c.find.result c.entries-entries.ensures found)

pub returns-clause-named : goal.returns-clause-named
returns-clause-named c =
    let found = find_from_yields_List (λ t. eqb c.args.number t.0) _ _ c.find.result c.find.ensures.ran (YieldsList-from_slice c.entries-entries.result cc) (λ x b q k. search (rules, tests)) in
    named_from c.args.number c.entries-entries.result c.find.result c.in_ok-text.field-0 c.entries-entries.ensures found c.in_ok-text.was
