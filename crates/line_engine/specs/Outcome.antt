-- Whether a reply is a refusal.
use Rattle.std.specs.Prelude.{Bool, true, false}
use Rattle.line_engine.specs.declared.handler.Outcome.{Outcome}
use Rattle.line_engine.specs.declared.handler.Outcome.TheVariants.{Answered, Refused}

abbrev pub is_refusal : Outcome → Bool
is_refusal Answered = false
is_refusal Refused = true
