-- Lines turned round: each begins where it ended.
use Rattle.std.specs.Prelude.{List, map}
use Rattle.line_network.specs.declared.line.Line.{Line}

abbrev pub turned : Line → Line
turned line = record line { from = line.to; to = line.from }

abbrev pub turned_lines : List Line → List Line
turned_lines lines = map turned lines
