use Rattle.fleet_rows.proofs.RosterLemmas.{IsRoster-empty}
use Rattle.last_texts.proofs.save.saved_text.Goals as goal

-- no row is added
pub changed_text-requires-in-None-2 : goal.changed_text-requires-in-None-2
changed_text-requires-in-None-2 c = IsRoster-empty
