use Rattle.std.proofs.Common.{string_bytes, ◌∙◌, ◌++◌, length, sym}
use Rattle.std.proofs.lemmas.Bool.{eqb-true}
use Rattle.fault_texts.specs.Shown.{shown}
use Rattle.fault_texts.proofs.Showing.{all_shown}
use Rattle.fault_texts.proofs.shown.push_shown.Goals as goal

pub returns : goal.returns
returns c =
    all_shown (string_bytes c.loop-rest.text) c.loop-rest.rest.now (string_bytes c.args.text.now ++ shown c.args.said.now)
    (eqb-true (length c.loop-rest.rest.now) 0 (sym c.is_empty.ensures ∙ c.loop-rest-test.false)) c.loop-rest.invariant
