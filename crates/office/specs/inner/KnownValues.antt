-- What is known before a line, as it is handed on.
use Rattle.office.specs.CommandNotes.{KnownBefore}
use Rattle.office.specs.declared.line_notes.Known.{Known}

-- the lists and the messages behind the references
abbrev pub known_values : Known → KnownBefore
known_values known = record { networks = known.networks.now; named = known.named.now; wagons = known.wagons.now; heard = known.heard.now }
