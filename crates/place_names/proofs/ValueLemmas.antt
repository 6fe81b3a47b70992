-- Bounds of the numbers that digits are.
use Rattle.std.proofs.Common.{◌<◌, ◌≤◌, ◌*◌, ◌-◌, ◌^◌, ℕ, zero, suc, arith}

-- at most six digits, and zeros up to six
pub within_six : (n m : ℕ) → m ≤ 6 → n < 10 ^ m → n * 10 ^ (6 - m) < 1000000
within_six n zero short small = omega arith
within_six n (suc zero) short small = omega arith
within_six n (suc (suc zero)) short small = omega arith
within_six n (suc (suc (suc zero))) short small = omega arith
within_six n (suc (suc (suc (suc zero)))) short small = omega arith
within_six n (suc (suc (suc (suc (suc zero))))) short small = omega arith
within_six n (suc (suc (suc (suc (suc (suc zero)))))) short small = omega arith
within_six n (suc (suc (suc (suc (suc (suc (suc m))))))) short small = absurd (omega arith)

-- at most seven digits
pub within_seven : (n m : ℕ) → m ≤ 7 → n < 10 ^ m → n < 10000000
within_seven n zero short small = omega arith
within_seven n (suc zero) short small = omega arith
within_seven n (suc (suc zero)) short small = omega arith
within_seven n (suc (suc (suc zero))) short small = omega arith
within_seven n (suc (suc (suc (suc zero)))) short small = omega arith
within_seven n (suc (suc (suc (suc (suc zero))))) short small = omega arith
within_seven n (suc (suc (suc (suc (suc (suc zero)))))) short small = omega arith
within_seven n (suc (suc (suc (suc (suc (suc (suc zero))))))) short small = omega arith
within_seven n (suc (suc (suc (suc (suc (suc (suc (suc m)))))))) short small = absurd (omega arith)
