use Rattle.std.proofs.Common.{◌∙◌, ◌++◌, ap, string_bytes}
use Rattle.std.proofs.lemmas.Result.{on_ok_weaker}
use Rattle.text_tables.specs.Aligned.{aligned_text}
use Rattle.movements.proofs.Made.{IsTextOf-first}
use Rattle.movements.specs.Rows.{IsMovementRow, movement_titles}
use Rattle.movements.specs.TableText.{movement_sides}
use Rattle.movements.proofs.table.push_movements.Goals as goal

pub returns : goal.returns
returns c =
    on_ok_weaker c.push_aligned.result (λ added.
    IsTextOf-first (IsMovementRow c.args.places.now c.args.clock.now) movement_sides movement_titles c.args.movements.now c.in_ok-rows.rows.items (string_bytes c.args.text.now) (string_bytes c.push_aligned.new.text)
    c.in_ok-rows.ensures (added ∙ ap (λ rows. string_bytes c.args.text.now ++ aligned_text movement_sides rows) c.deref.ensures.value)) c.push_aligned.ensures
