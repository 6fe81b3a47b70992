use Rattle.std.proofs.Common.{ℕ, List, ◌++◌, sym, ap, ◌∙◌, string_bytes}
use Rattle.std.specs.List.{flat_map}
use Rattle.std.proofs.lemmas.List.{map-id}
use Rattle.std.proofs.lemmas.Iterator.{YieldsList-from_chars}
use Rattle.std.proofs.lemmas.Iterator.Consumers.{YieldsList-end}
use Rattle.office_map.specs.Names.{escaped_character}
use Rattle.office_map.proofs.Loops.{yielded_pushed}
use Rattle.office_map.proofs.named.push_escaped.Goals as goal

pub loop-character-preserved : goal.loop-character-preserved
loop-character-preserved c = yielded_pushed escaped_character c.loop-character.yielded c.in-Some.character _ _ _ c.loop-character.invariant (c.in_ok-push_character.ensures {u = tt})

pub returns : goal.returns
returns c =
    let t = YieldsList-end (YieldsList-from_chars c.args.name.now c.utf8.name cc) c.loop-character.yielded _ c.loop-character.yielded_by _ _ c.in-None.is c.next.ensures.steps in
    c.loop-character.invariant ∙ ap (λ (cs : List ℕ). string_bytes c.args.text.now ++ flat_map escaped_character cs) (sym (map-id c.loop-character.yielded) ∙ t.0)
