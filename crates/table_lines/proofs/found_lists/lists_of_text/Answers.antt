use Rattle.std.proofs.Common.{◌≡◌, ◌∷◌, [], refl, sym, ◌∙◌, arith, rules}
use Rattle.json.specs.Token as token
use Rattle.table_lines.proofs.FoundLists.{object_is}
use Rattle.table_lines.proofs.found_lists.lists_of_text.Goals as goal

pub returns : goal.returns
returns c =
    let first : c.in-Ok.reader ≡ token.begin_object ∷ c.next.new.self = grind arith in
    let none : c.take_lists.new.reader ≡ [] = search rules in
    let found = c.in_ok-lists.ensures in
    (found.0, found.1, object_is c.args.text.now c.args.text.now c.next.new.self found.0 refl c.utf8.text (sym c.in-Ok.ensures.ok ∙ first) (rw none at found.2))
