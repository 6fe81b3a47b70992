use Rattle.std.proofs.Common.{ℕ, List, Option, subst}
use Rattle.std.specs.Prelude.{option_copied}
use Rattle.std.proofs.lemmas.Result.{IfOk-weaker}
use Rattle.text_tables.specs.declared.form.Form.{Form}
use Rattle.last_texts.specs.MovesOfLast.{AreMovesIn}
use Rattle.last_texts.proofs.moves.moves_of.Goals as goal

-- the form and the zone are those that are asked for
pub returns-clause-moves : goal.returns-clause-moves
returns-clause-moves c =
    let places = c.args.places.now in
    let bytes = c.args.zone.now.bytes.items in
    let list = c.in_ok-list.list in
    IfOk-weaker c.moves_in.result _ _
    (λ text printed. record {
      list = list;
      of_last = c.in_ok-list.ensures.moves;
      printed = subst (λ (form : Form). AreMovesIn form places (option_copied c.args.options.now.zone) bytes list text.items) c.form_of-form.ensures
          (subst (λ (zone : Option (List ℕ)). AreMovesIn c.form_of-form.result places zone bytes list text.items) c.requires.zone.name printed);
    })
    c.moves_in.ensures.text
