use Rattle.std.proofs.Common.{◌∙◌, ◌++◌, ap, sym, string_bytes}
use Rattle.std.proofs.lemmas.Result.{on_ok_weaker}
use Rattle.text_tables.specs.Aligned.{aligned_text}
use Rattle.movements.proofs.Made.{IsTextOf-behind}
use Rattle.movements.specs.Rows.{IsSilentRow, silent_titles}
use Rattle.movements.specs.TableText.{silent_sides}
use Rattle.movements.proofs.table.push_silent.Goals as goal

pub returns : goal.returns
returns c =
    on_ok_weaker c.push_aligned.result (λ added.
    IsTextOf-behind (IsSilentRow c.args.places.now c.args.clock.now) silent_sides silent_titles c.args.silent.now c.in_ok-rows.rows.items (string_bytes c.args.text.now) (string_bytes c.push_str.new.self) (string_bytes c.push_aligned.new.text)
    (sym c.is_empty.ensures ∙ c.if-is_empty.false) c.in_ok-rows.ensures c.in_ok-push_str.ensures.bytes (added ∙ ap (λ rows. string_bytes c.push_str.new.self ++ aligned_text silent_sides rows) c.deref.ensures.value)) c.push_aligned.ensures
