use Rattle.std.proofs.Common.{◌≡◌, ◌++◌, ◌∷◌, [], pos, ◌*◌, arith, refl}
use Rattle.std.proofs.lemmas.Result.{on_ok_weaker}
use Rattle.jiff.specs.Words.{civil_nanos, iso_datetime_text}
use Rattle.jiff.proofs.SpanFacts.{signed_arith}
use Rattle.rail_codes.proofs.Moments.{moment_of-printed, IsMomentText-printed}
use Rattle.rail_codes.proofs.moment.Moment.push_text.Goals as goal

pub returns : goal.returns
returns c =
    let same : civil_nanos c.to_datetime-shown.result ≡ c.instant.result.nanosecond = omega (arith, signed_arith) in
    let nanos : civil_nanos c.to_datetime-shown.result ≡ pos (c.args.self * 1_000_000_000) = omega (arith, signed_arith) in
    let added = iso_datetime_text c.to_datetime-shown.result ++ 90 ∷ [] in
    on_ok_weaker c.write.result
    (λ whole. (added, whole, IsMomentText-printed c.args.self c.to_datetime-shown.result added nanos refl, moment_of-printed c.args.self c.instant.result c.to_datetime-shown.result added c.instant.ensures.valid c.instant.ensures.nanosecond same refl))
    c.write.ensures.bytes
