use Rattle.std.proofs.Common.{string_bytes}
use Rattle.text_tables.proofs.Joined.{columns-more}
use Rattle.text_tables.specs.JsonRows.{member_text}
use Rattle.text_tables.proofs.json_rows.push_members.Goals as goal

pub loop-k-preserved : goal.loop-k-preserved
loop-k-preserved c =
    columns-more 44 (member_text c.args.sides.now c.args.titles.now c.args.row.now) c.loop-k.k (string_bytes c.args.text.now) (string_bytes c.loop-k.text) (string_bytes c.push_next_member.new.text)
    c.loop-k.invariant (c.in_ok-push_next_member.ensures {u = tt})
