use Rattle.std.proofs.Common.{string_bytes, sym}
use Rattle.fault_texts.proofs.Showing.{four_parts}
use Rattle.fault_texts.proofs.shown.push_quoted.Goals as goal

pub returns : goal.returns
returns c =
    rw (sym c.start_of.ensures, sym c.dots.ensures)
    (four_parts (string_bytes c.args.text.now) _ _ _ _ _ _ _ _ (c.in_ok-push_words.ensures {u = tt}) (c.in_ok-push_shown.ensures {u = tt}) (c.in_ok-push_words-2.ensures {u = tt}) (c.in_ok-push_words-3.ensures {u = tt}))
