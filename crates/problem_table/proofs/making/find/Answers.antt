use Rattle.std.proofs.Common.{rules}
use Rattle.problem_table.proofs.making.find.Goals as goal

pub returns-clause-row : goal.returns-clause-row
returns-clause-row c = record {
  row = c.push_row.new.entries.items;
  last = c.in_ok-last.last;
  more = record { shared = search rules; placed = search rules; rows = search rules; moments = search rules };
  within = c.in_ok-last.ensures.within;
  is = c.in_ok-last.ensures.row;
}
