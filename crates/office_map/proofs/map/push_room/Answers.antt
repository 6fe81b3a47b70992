use Rattle.std.proofs.Common.{◌++◌, ap, ◌∙◌, string_bytes}
use Rattle.std.proofs.lemmas.Result.{on_ok_weaker}
use Rattle.office_map.specs.Frame.{first_text, head_text}
use Rattle.office_map.proofs.map.push_room.Goals as goal

pub returns : goal.returns
returns c =
    on_ok_weaker c.push_texts.result (λ e. e ∙ ap (λ room. string_bytes c.args.text.now ++ (first_text ++ room ++ head_text)) c.room_words.ensures) c.push_texts.ensures
