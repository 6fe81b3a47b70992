use Rattle.std.proofs.Common.{◌≡◌, ◌+◌, ◌<◌, ◌≤◌, ℕ, suc, cond, List, [], ◌∷◌, length, get_or, set, refl, ap, arith}
use Rattle.std.specs.List.{count_by}
use Rattle.std.proofs.lemmas.List.Sums.{sum_by-set, sum_by-cons, count_by-le-length}
use Rattle.std.proofs.lemmas.Bool.Decides.{nat_tests}
use Rattle.assignment.specs.inner.Search.{is_near}
use Rattle.assignment.proofs.Writes.{written_length}

-- 1 where a distance is near, else 0
abbrev pub one_near : ℕ → ℕ
one_near d = cond (is_near d) 1 0

near_one : (d : ℕ) → d < 4294967295 → one_near d ≡ 1
near_one d h = grind (arith, nat_tests, h)

far_none : (d : ℕ) → 4294967295 ≤ d → one_near d ≡ 0
far_none d h = grind (arith, nat_tests, h)

-- one more distance is near
pub near_count_more : (ds ds' : List ℕ) (i distance : ℕ) → i < length ds → ds' ≡ set ds i distance → distance < 4294967295 → 4294967295 ≤ get_or ds i 0 → count_by is_near ds' ≡ count_by is_near ds + 1
near_count_more ds ds' i distance l e near far =
    let s = sum_by-set one_near ds i distance 0 l in
    let a = near_one distance near in
    let b = far_none (get_or ds i 0) far in
    let c : count_by is_near ds' ≡ count_by is_near (set ds i distance) = ap (count_by is_near) e in
    omega (arith, s, a, b, c)

-- so there is room while one is far
pub near_count_below : (ds : List ℕ) (i : ℕ) → i < length ds → 4294967295 ≤ get_or ds i 0 → count_by is_near ds < length ds
near_count_below ds i l far =
    let more = near_count_more ds (set ds i 0) i 0 l refl (omega arith) far in
    let le = count_by-le-length is_near (set ds i 0) in
    let len = written_length ds (set ds i 0) i 0 refl in
    omega (arith, more, le, len)

-- nothing is near where all is far
pub all_far_count : (ds : List ℕ) → ((i : ℕ) → i < length ds → get_or ds i 0 ≡ 4294967295) → count_by is_near ds ≡ 0
all_far_count [] far = refl
all_far_count (d ∷ ds) far =
    let rest = all_far_count ds (λ i l. far (suc i) (omega arith)) in
    let first = far_none d (let f = far 0 (omega arith) in omega arith) in
    let cons = sum_by-cons one_near d ds in
    omega (arith, rest, first, cons)
