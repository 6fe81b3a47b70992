-- Moments: what is read of a text, and what is printed.
use Rattle.std.proofs.Common.{◌≡◌, ℕ, ◌*◌, ◌/◌, ◌^◌, ◌<◌, ◌++◌, ℤ, pos, negsuc, ◌≤ℤ◌, int_div, unsigned_abs, List, [], ◌∷◌, Ok, Err, true, arith, ap, refl, sym, ◌∙◌, inl, rules, nat_le}
use Rattle.std.proofs.lemmas.Bool.Decides.{nat_tests}
use Rattle.std.specs.Int.{FitsUnsignedBits}
use Rattle.jiff.specs.Types.{Date, DateTime, Timestamp}
use Rattle.jiff.specs.Words.{Error, IsTimestampNanos, parse_timestamp, civil_nanos, civil_seconds, epoch_day, iso_datetime_text}
use Rattle.jiff.proofs.Family.{civil_nanos-parts, civil_nanos-civil_seconds, parse_timestamp-text, epoch_day-lt, time_nanos_bound}
use Rattle.std.proofs.lemmas.Int.{by_lt_z}
use Rattle.jiff.proofs.OnLiterals.{jiff_on_literals}
use Rattle.jiff.proofs.SpanFacts.{signed_arith}
use Rattle.rail_codes.specs.declared.code_fault.CodeFault.TheVariants.{BadMoment, MomentOutOfRange}
use Rattle.rail_codes.specs.Moment.{first_second, last_second, IsMoment, moment_of_seconds, moment_of_instant, moment_of, clock_text, IsMomentText}

-- no instant is read
pub moment_of-err : (text : List ℕ) (e : Error) → Err e ≡ parse_timestamp text → moment_of text ≡ Err BadMoment
unfolding moment_of
moment_of-err text e read = rw (← read) refl

-- an instant is read
pub moment_of-ok : (text : List ℕ) (instant : ℤ) → Ok instant ≡ parse_timestamp text → moment_of text ≡ moment_of_instant instant
unfolding moment_of
moment_of-ok text instant read = rw (← read) refl

-- an instant whose whole seconds are so many
pub moment_of_instant-fits : (instant second : ℤ) (seconds : ℕ) → second ≡ int_div instant (pos 1_000_000_000) → FitsUnsignedBits 64 second × (seconds ≡ unsigned_abs second) → moment_of_instant instant ≡ moment_of_seconds seconds
moment_of_instant-fits (pos n) second seconds whole fits =
    let same : seconds ≡ n / 1_000_000_000 = fits.1 ∙ ap unsigned_abs whole in
    rw same refl
moment_of_instant-fits (negsuc n) (pos k) seconds whole fits =
    let none : k ≡ 0 = omega (arith, signed_arith) in
    rw (fits.1, none) refl
moment_of_instant-fits (negsuc n) (negsuc k) seconds whole fits = absurd fits.0

-- an instant whose whole seconds are fewer than none
pub moment_of_instant-negative : (instant second : ℤ) → IsTimestampNanos instant → second ≡ int_div instant (pos 1_000_000_000) → ¬ (FitsUnsignedBits 64 second) → moment_of_instant instant ≡ Err MomentOutOfRange
moment_of_instant-negative (pos n) second range whole negative =
    let few : n / 1_000_000_000 < 2 ^ 64 = omega (arith, signed_arith, range.1) in
    absurd (negative (rw whole few))
moment_of_instant-negative (negsuc n) second range whole negative = refl

-- what is printed is read back
pub moment_of-printed : (seconds : ℕ) (t : Timestamp) (shown : DateTime) (text : List ℕ) → IsMoment seconds → t.nanosecond ≡ pos (seconds * 1_000_000_000) → civil_nanos shown ≡ t.nanosecond → text ≡ iso_datetime_text shown ++ 90 ∷ [] → moment_of text ≡ Ok seconds
moment_of-printed seconds t shown text valid is same printed =
    let read = parse_timestamp-text shown t same in
    let whole : seconds * 1_000_000_000 / 1_000_000_000 ≡ seconds = omega arith in
    let least : nat_le first_second seconds ≡ true = grind (arith, nat_tests) in
    let most : nat_le seconds last_second ≡ true = grind (arith, nat_tests) in
    ap moment_of printed ∙ moment_of-ok _ _ (sym read) ∙ rw (is, whole, least, most) refl

-- the first day of 1970
epoch : Date
epoch = record { year = pos 1970; month = 1; day = 1; year_in = search rules; month_in = search rules; day_in = search rules }

epoch_day-epoch : epoch_day epoch ≡ pos 0
unfolding jiff_on_literals epoch
epoch_day-epoch = refl

-- the year of a date since 1970
pub year-since : (d : Date) → pos 0 ≤ℤ epoch_day d → pos 1970 ≤ℤ d.year
unfolding epoch
year-since d since =
    by_lt_z d.year (pos 1970)
    (λ before. absurd (omega (arith, signed_arith, epoch_day-lt d epoch (inl before), epoch_day-epoch)))
    (λ after. after)

pos-unsigned_abs : (z : ℤ) → pos 0 ≤ℤ z → z ≡ pos (unsigned_abs z)
pos-unsigned_abs (pos n) since = refl
pos-unsigned_abs (negsuc n) since = absurd (omega (arith, signed_arith))

-- what is printed is the clock's text
pub IsMomentText-printed : (seconds : ℕ) (shown : DateTime) (text : List ℕ) → civil_nanos shown ≡ pos (seconds * 1_000_000_000) → text ≡ iso_datetime_text shown ++ 90 ∷ [] → IsMomentText seconds text
unfolding clock_text
IsMomentText-printed seconds shown text same printed =
    let nanos = civil_nanos-parts shown in
    let both = civil_nanos-civil_seconds shown in
    let day = time_nanos_bound shown.time in
    let since : pos 0 ≤ℤ epoch_day shown.date = omega (arith, signed_arith, nanos, same, day) in
    let year : pos 0 ≤ℤ shown.date.year = omega (arith, signed_arith, year-since shown.date since) in
    let year_is = pos-unsigned_abs shown.date.year year in
    let fraction = shown.time.subsec_in in
    let instant : civil_seconds shown ≡ pos seconds = omega (arith, signed_arith, both, same, fraction) in
    let whole : shown.time.subsec_nanosecond ≡ 0 = omega (arith, signed_arith, both, same, fraction) in
    (shown, instant, printed ∙ rw (whole, year_is) refl)
