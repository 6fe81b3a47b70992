use Rattle.std.proofs.Common.{◌∙◌, ℕ, Option, ap, arith, sym}
use Rattle.std.specs.BTreeMap.{get}
use Rattle.std.specs.Option.{option_or}
use Rattle.fleet_rows.specs.Kept.{compare_numbers}
use Rattle.last_texts.specs.Fills.{fill_of}
use Rattle.last_texts.proofs.FillLemmas.{all_notes, one_more}
use Rattle.last_texts.proofs.fills.put_fills.Goals as goal

pub loop-note-preserved : goal.loop-note-preserved
loop-note-preserved c order =
    c.in_ok-put_fill.ensures order ∙ ap (λ (before : Option ℕ). option_or (fill_of c.note-item.result order) before) (c.loop-note.invariant order)
    ∙ sym (one_more c.args.notes.now c.loop-note.note-index c.note-item.result (get compare_numbers c.args.late_fills.now) order (omega arith) c.note-item.is)

pub returns : goal.returns
returns c order = c.loop-note.invariant order ∙ all_notes c.args.notes.now c.loop-note.note-index (get compare_numbers c.args.late_fills.now) order (omega arith)
