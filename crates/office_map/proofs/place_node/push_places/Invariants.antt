use Rattle.std.proofs.Common.{take, string_bytes}
use Rattle.reply_texts.specs.Lines.{Adds, AreLines}
use Rattle.office_map.specs.Places.{IsPlaceOf}
use Rattle.office_map.proofs.place_node.push_places.Given as goal

abbrev pub invariant-loop-place : goal.invariant-loop-place
invariant-loop-place l = Adds (AreLines (IsPlaceOf l.named l.wagons l.orders) (take l.place-index l.places)) (string_bytes l.initial.text) (string_bytes l.text)
