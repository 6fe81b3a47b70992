use Rattle.std.proofs.Common.{◌∙◌}
use Rattle.rail_codes.specs.inner.ShortText.{is_nul}
use Rattle.rail_codes.proofs.ShortTexts.{position_or_all}
use Rattle.rail_codes.proofs.short_text.length_of_text.Goals as goal

pub returns : goal.returns
returns c = rw (c.unwrap_or.ensures, c.first_nul.ensures) (position_or_all is_nul c.args.bytes.now)
