use Rattle.std.proofs.Common.{◌≡◌, ◌+◌, ◌-◌, ◌%◌, ◌<◌, ℕ, Bool, true, false, cond, ◌∙◌, ap, arith}
use mir.Val.{bool_byte}
use Rattle.std.specs.Int.Bits.{bit_and, bit_or, and_zero_r, or_zero_l, or_zero_r}
use Rattle.std.proofs.lemmas.Nat.{and_mask}
use Rattle.assignment.proofs.passes.choose.Goals as goal

all_ones : (n : ℕ) → n < 4294967296 → bit_and n 4294967295 ≡ n
all_ones n l = and_mask n 32 ∙ (omega arith)

chosen : (is : Bool) (one a b : ℕ) → one ≡ bool_byte is → a < 4294967296 → b < 4294967296 → bit_or (bit_and a ((0 + (4294967296 - one)) % 4294967296)) (bit_and b (4294967295 - (0 + (4294967296 - one)) % 4294967296)) ≡ cond is a b
chosen true one a b e la lb = rw e (ap (λ x. bit_or x (bit_and b 0)) (all_ones a la) ∙ ap (bit_or a) (and_zero_r b) ∙ or_zero_r a)
chosen false one a b e la lb = rw e (ap (λ x. bit_or x (bit_and b 4294967295)) (and_zero_r a) ∙ ap (bit_or 0) (all_ones b lb) ∙ or_zero_l b)

pub returns : goal.returns
returns c = chosen c.args.is c.from-mask.result c.args.yes c.args.no c.from-mask.ensures (omega (arith, c.ranges.yes.fits)) (omega (arith, c.ranges.no.fits))
