use Rattle.std.proofs.Common.{◌≡◌, ℕ, List, ◌++◌, map, true, codes, sym, ap₂, ◌∙◌, string_bytes}
use Rattle.std.proofs.lemmas.Result.{on_ok_weaker}
use Rattle.dispatch_sheet.specs.Sheet.{list_word}
use Rattle.reply_texts.specs.Words.{next_word}
use Rattle.dispatch_sheet.proofs.Lists.{has_some, has_some-left, has_some-right, list-pushed}
use Rattle.dispatch_sheet.proofs.wagon_list.push_wagon_list.Goals as goal
use Rattle.dispatch_sheet.proofs.wagon_list.push_wagon_list.Goals.{else-is_empty-via-then-is_empty+else-is_empty-2, else-is_empty-via-else-is_empty}

pub returns : goal.returns
returns c =
    let promised = c.promised-promised.result.now in
    let filled = c.filled-filled.result.now in
    let marked = λ (number : List ℕ). number ++ codes "*" in
    let first = string_bytes c.args.text.now in
    let some : has_some (promised ++ map marked filled) ≡ true =
    elim c.else-is_empty.branch [
      | else-is_empty-via-then-is_empty+else-is_empty-2 w ↦ has_some-right marked promised filled (sym w.is_empty-then-is_empty.ensures ∙ w.if-is_empty-2.false)
      | else-is_empty-via-else-is_empty w ↦ has_some-left promised (map marked filled) (sym c.is_empty.ensures ∙ w.if-is_empty.false)
    ] in
    let middle = c.in_ok-push_wagons.ensures {u = tt} in
    on_ok_weaker c.push_wagons-2.result (λ e.
    list-pushed first (string_bytes c.push_wagons.new.text) (string_bytes c.push_wagons-2.new.text) promised (map marked filled) c.is_empty-2.result some c.is_empty-2.ensures middle e
    ∙ ap₂ (λ (ps fs : List (List ℕ)). first ++ next_word (list_word (ps ++ map marked fs))) c.promised-promised.ensures.value c.filled-filled.ensures.value) c.push_wagons-2.ensures
