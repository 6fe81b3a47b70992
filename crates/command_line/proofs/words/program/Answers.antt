use Rattle.std.proofs.Common.{◌∙◌, ap, true}
use Rattle.clap.specs.Simple.{App, Shape, app_of_fields, on_top}
use Rattle.command_line.proofs.words.program.Goals as goal

pub returns : goal.returns
returns c =
    let versioned : App → App = on_top (λ (s : Shape). record s { has_version = true }) in
    ap app_of_fields c.after_help.ensures ∙ ap app_of_fields c.about.ensures ∙ ap app_of_fields c.version.ensures
    ∙ ap versioned (ap app_of_fields c.in_ok-program.ensures.0 ∙ c.new.ensures.app)
