use Rattle.std.proofs.Common.{◌≡◌, ◌++◌, string_bytes}
use Rattle.std.specs.List.{flat_map, range_with_len}
use Rattle.office_map.specs.Lines.{is_second, line_part}
use Rattle.office_map.proofs.line_edges.push_lines.Given as goal

abbrev pub invariant-loop-i : goal.invariant-loop-i
invariant-loop-i l = record {
  text : string_bytes l.text ≡ string_bytes l.initial.text ++ flat_map (line_part l.named l.network l.shown) (range_with_len 0 l.i);
  drawn : l.is_drawn ≡ is_second l.network.lines l.i;
}
