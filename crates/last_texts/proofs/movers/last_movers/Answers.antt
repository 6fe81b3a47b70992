use Rattle.std.proofs.Common.{◌∙◌, ℕ, List, Option, ap₂, arith, refl, sym}
use Rattle.std.specs.Option.{option_or}
use Rattle.move_messages.specs.declared.event.Event.{Event}
use Rattle.last_texts.specs.Movers.{mover_in}
use Rattle.last_texts.proofs.MoverLemmas.{all_entries, next_entry, one_more}
use Rattle.last_texts.proofs.movers.last_movers.Goals as goal

pub loop-n-preserved : goal.loop-n-preserved
loop-n-preserved c number =
    let history = c.args.book.now.state.history in
    c.in_ok-put_mover.ensures number ∙ ap₂ (λ (entry : Option Event) (before : Option (List ℕ)). option_or (mover_in entry number) before) (c.entry.ensures ∙ next_entry history _ c.loop-n.n refl) (c.loop-n.invariant number)
    ∙ sym (one_more history c.loop-n.n number (omega (arith, c.loop-n-test.true, c.len-n-end.ensures.value)))

pub returns : goal.returns
returns c number =
    c.loop-n.invariant number ∙ all_entries c.args.book.now.state.history c.loop-n.n number (omega (arith, c.loop-n-test.false, c.len-n-end.ensures.value))
