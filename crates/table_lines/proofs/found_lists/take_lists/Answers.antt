use Rattle.std.proofs.Common.{◌≡◌, Some, None, refl}
use Rattle.json.specs.Json.{read_key}
use Rattle.table_lines.proofs.FoundLists.{begun, one_more, ended}
use Rattle.table_lines.proofs.found_lists.take_lists.Goals as goal

pub members-init : goal.members-init
members-init c = begun _ c.args.reader.now (refl, refl, refl, refl, refl, refl, refl, refl)

pub members-preserved : goal.members-preserved
members-preserved c =
    let key : read_key c.members.reader ≡ Some (Some c.in-Some.name.now, c.take_key.new.reader) = rw c.in-Some.is at (c.in_ok-name.ensures {u = tt}).key in
    one_more c.members.lists c.take_member.new.lists c.args.reader.now c.members.reader c.take_key.new.reader c.take_member.new.reader c.in-Some.name.now
    c.members.invariant key (c.in_ok-name.ensures {u = tt}).shorter (c.in_ok-take_member.ensures {u = tt}).member (c.in_ok-take_member.ensures {u = tt}).shorter

pub returns : goal.returns
returns c =
    let over : read_key c.members.reader ≡ Some (None, c.take_key.new.reader) = rw c.in_default.is at (c.in_ok-name.ensures {u = tt}).key in
    ended c.members.lists c.args.reader.now c.members.reader c.take_key.new.reader c.members.invariant over
