use Rattle.std.proofs.Common.{◌≡◌, ◌∙◌, List, ℕ, subst, take}
use Rattle.std.specs.Prelude.{IfSome}
use Rattle.last_texts.specs.ZoneClock.{max_zone_bytes}
use Rattle.last_texts.proofs.zone.read_zone.Goals as goal

pub returns-in-Ok-zone_of-clause-bytes : goal.returns-in-Ok-zone_of-clause-bytes
returns-in-Ok-zone_of-clause-bytes g c =
    let bytes_at = g.R.FileSystem.bytes_at c.args.rt.now in
    rw c.in-Some.is
    (subst (λ (path : List ℕ). IfSome (bytes_at path) (λ known. c.in-Ok-zone_of.zone.bytes.items ≡ take max_zone_bytes known)) (c.as_str.ensures.value ∙ c.in-Ok.ensures)
    (rw c.in-Ok-zone_of.ensures.bytes c.in_ok-bytes.ensures.bytes))
