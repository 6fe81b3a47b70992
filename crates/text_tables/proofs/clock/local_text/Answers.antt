use Rattle.std.proofs.Common.{◌∙◌, ap}
use Rattle.std.specs.Prelude.{◌+ℤ◌}
use Rattle.std.proofs.lemmas.Result.{IfOk-weaker}
use Rattle.jiff.specs.Words.{nanos_of_seconds, offset_at, plain_zone}
use Rattle.text_tables.proofs.clock.local_text.Goals as goal

pub returns : goal.returns
returns c =
    let (shown, clocks, bytes) = c.display_with_offset-text.ensures in
    let instant = c.instant_of-instant.ensures in
    IfOk-weaker c.from_str.result _ _ (λ t e. record {
      offset = c.to_offset.result;
      in_force = c.to_offset.ensures ∙ ap (offset_at (plain_zone c.args.zone.now)) instant;
      shown = shown;
      on_clocks = clocks ∙ ap (λ n. n +ℤ nanos_of_seconds c.to_offset.result.seconds) instant;
      whole = e ∙ c.as_str.ensures.value ∙ bytes;
    }) c.from_str.ensures.ok
