use Rattle.std.proofs.Common.{string_bytes, drop}
use Rattle.fault_texts.specs.Shown.{shown}
use Rattle.fault_texts.proofs.Showing.{added_shown, first_byte_shown, letter_shown}
use Rattle.fault_texts.proofs.shown.push_first.Goals as goal

pub returns-in-Some-clause-shown : goal.returns-in-Some-clause-shown
returns-in-Some-clause-shown c =
    added_shown (string_bytes c.args.text.now) (string_bytes c.push_str.new.self) c.in-Some.letter.now (shown (drop 2 c.args.rest.now)) (shown c.args.rest.now)
    (c.in_ok-push_str.ensures {u = tt}).bytes (letter_shown c.args.rest.now c.in-Some.letter.now c.in-Some.ensures)

pub returns-clause-shown : goal.returns-clause-shown
returns-clause-shown c =
    added_shown (string_bytes c.args.text.now) (string_bytes c.push_byte.new.text) _ (shown (drop 1 c.args.rest.now)) (shown c.args.rest.now)
    (c.in_ok-push_byte.ensures {u = tt}) (first_byte_shown c.args.rest.now c.requires c.in_default.ensures)
