use Rattle.std.proofs.Common.{◌∙◌, ap, sym}
use Rattle.commit_book.specs.Books.{answer_of}
use Rattle.fleet_rows.proofs.Wagons.{numbers_distinct}
use Rattle.journal_notes.specs.Watches.{WatchValue}
use Rattle.journal_notes.proofs.Noted.{with_noted}
use Rattle.journal_notes.proofs.Watched.{watched}
use Rattle.journal_notes.proofs.events.notes_of.Goals as goal

pub returns-clause-notes : goal.returns-clause-notes
returns-clause-notes c =
    let old : WatchValue = record { streaks = c.watch.inside.streaks; newest = c.watch.inside.newest; calm_until = c.watch.inside.calm_until } in
    rw (← c.watch.view_is)
    (with_noted (λ notes. notes.items) c.args.before c.args.event.now (answer_of c.args.answer.now) c.args.state.now.office old c.advance.new.self c.said_of-said.new.streaks c.newest-from.result c.calm_until-bound.result c.newest.result c.order_rows.result.now
    c.said_of-said.result c.with_overdue_notes.result (numbers_distinct c.args.state.now.office.wagons c.for_the_prover.ensures.wagons.ascending) c.said_of-said.ensures.notes c.advance.ensures.watch
    (c.newest-from.ensures ∙ ap (λ (w : WatchValue). w.newest) (sym c.watch.view_is)) (c.calm_until-bound.ensures ∙ ap (λ (w : WatchValue). w.calm_until) (sym c.watch.view_is)) c.newest.ensures c.order_rows.ensures.rows c.with_overdue_notes.ensures.notes c.with_overdue_notes.ensures.said)

pub returns-clause-watch : goal.returns-clause-watch
returns-clause-watch c =
    let old : WatchValue = record { streaks = c.said_of-said.new.streaks; newest = c.watch.inside.newest; calm_until = c.watch.inside.calm_until } in
    rw (← c.watch.view_is) (λ networks office is led.
    watched c.args.event.now (answer_of c.args.answer.now) c.args.state.now.office old c.advance.new.self (numbers_distinct c.args.state.now.office.wagons c.for_the_prover.ensures.wagons.ascending) c.advance.ensures.watch
    networks office (record { newest = is.newest; calm = is.calm }) led)
