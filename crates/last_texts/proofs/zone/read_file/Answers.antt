use Rattle.std.proofs.Common.{ap, take}
use Rattle.std.specs.Prelude.{option_map}
use Rattle.office_files.specs.declared.told_file.ToldFile.{ToldFile}
use Rattle.last_texts.specs.ZoneClock.{max_zone_bytes}
use Rattle.last_texts.proofs.ZoneBytes.{taken_bytes}
use Rattle.last_texts.proofs.zone.read_file.Goals as goal

pub returns-in-Ok-clause-bytes : goal.returns-in-Ok-clause-bytes
returns-in-Ok-clause-bytes g c =
    taken_bytes _ (g.R.File.Read.remaining c.in_ok-open.field-0.file) _ c.take.result.limit max_zone_bytes _ _ c.in_ok-open.ensures.bytes
    (ap (λ (file : ToldFile _). option_map (take c.take.result.limit) (g.R.File.Read.remaining file.file)) c.take.ensures.inner)
    c.take.ensures.limit c.new-bytes.ensures.items c.in-Ok.ensures.bytes
