use Rattle.std.proofs.Common.{◌≡◌, ◌++◌, take}
use Rattle.std.specs.Prelude.{All}
use Rattle.std.specs.List.{flat_map}
use Rattle.line_fields.specs.WrittenTokens.{data_tokens}
use Rattle.table_lines.proofs.written_lists.write_items.Given as goal

abbrev pub invariant-loop-item : goal.invariant-loop-item
invariant-loop-item g l = record {
  tokens : l.out.tokens ≡ l.initial.out.tokens ++ flat_map (λ x. data_tokens (g.T.ListItem.json x)) (take l.item-index l.items);
  before : l.out.before ≡ l.initial.out.before;
  holds : All g.T.ListItem.holds (take l.item-index l.items);
}
