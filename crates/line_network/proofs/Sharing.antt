-- Origins shared out over workers: each is in one share, and the rows of all shares are those of all origins.
use Rattle.std.proofs.Common.{◌≡◌, ◌≢◌, ℕ, zero, suc, ◌+◌, ◌%◌, ◌<◌, ◌≤◌, ◌==◌, Bool, true, cond, List, [], ◌∷◌, ◌++◌, length, map, set, get_or, refl, sym, ◌∙◌, ap, subst, arith, inl, inr, Result, IfOk, length-set}
use Rattle.std.specs.List.{All, Contains, filter, range_with_len}
use Rattle.std.specs.declared.alloc.AllocError.{AllocError}
use Rattle.std.specs.declared.alloc.Global.{Global}
use Rattle.std.specs.declared.result.Result.TheVariants.{Ok}
use Rattle.std.specs.declared.vec.Vec.{Vec}
use Rattle.std.proofs.lemmas.Bool.{cases_eq, cond_both, cond-true, cond-false, eq-eqb, ne_eqb}
use Rattle.std.proofs.lemmas.List.{append-nil, map_push, get_or-set_same, get_or-set_other}
use Rattle.std.proofs.lemmas.List.Elements.{All-nil, All-cons, All-head, All-tail, All-weaker, All-push, All-filter, Contains-append_right, filter-append}
use Rattle.std.proofs.lemmas.Nat.{mod_below}
use Rattle.line_network.specs.declared.line.Line.{Line}
use Rattle.line_network.specs.declared.length.Length.{Length}
use Rattle.line_network.specs.declared.share.OriginRow.{OriginRow}
use Rattle.line_network.specs.inner.Lengths.{known}
use Rattle.line_network.specs.inner.Rows.{IsRow, AreRows}
use Rattle.line_network.specs.inner.Shares.{origins_of, IsShare, AreShares, put_rows}
use Rattle.line_network.proofs.Searching.{Contains-nil, Contains-cons_cases}

-- one number more
range_next : (a n j : ℕ) → a + n ≡ j → range_with_len a (suc n) ≡ range_with_len a n ++ j ∷ []
range_next a zero j e = let same : a ≡ j = omega arith in ap (λ k. k ∷ []) same
range_next a (suc n) j e = ap (λ l. a ∷ l) (range_next (a + 1) n j (omega arith))

range_more : (n : ℕ) → range_with_len 0 (n + 1) ≡ range_with_len 0 n ++ n ∷ []
range_more n = let on : n + 1 ≡ suc n = omega arith in ap (range_with_len 0) on ∙ range_next 0 n n (omega arith)

range_below : (a n : ℕ) → All (λ k. k < a + n) (range_with_len a n)
range_below a zero = All-nil (λ k. k < a + zero)
range_below a (suc n) =
    All-cons (λ k. k < a + suc n) a (range_with_len (a + 1) n) (omega arith)
    (All-weaker (λ k. k < (a + 1) + n) (λ k. k < a + suc n) (λ k l. omega arith) (range_with_len (a + 1) n) (range_below (a + 1) n))

range_has : (a n k : ℕ) → a ≤ k → k < a + n → Contains (range_with_len a n) k
range_has a zero k from to = absurd (omega arith)
range_has a (suc n) k from to = elim (cases_eq a k) [
  | inl same ↦ (0, omega arith, same)
  | inr other ↦ Contains-append_right (a ∷ []) (range_with_len (a + 1) n) k (range_has (a + 1) n k (omega arith) (omega arith))
]

filter_has : (p : ℕ → Bool) (xs : List ℕ) (x : ℕ) → p x ≡ true → Contains xs x → Contains (filter p xs) x
filter_has p [] x passes h = absurd (Contains-nil x h)
filter_has p (y ∷ ys) x passes h = elim (Contains-cons_cases y x ys h) [
  | inl same ↦ (let P : List ℕ → Type 0 = λ zs. Contains zs x in
      let here : p y ≡ true = ap p same ∙ passes in
      subst P (sym (cond-true (p y) (y ∷ filter p ys) (filter p ys) here)) (0, omega arith, same))
  | inr later ↦ cond_both (p y) (y ∷ filter p ys) (filter p ys) (λ zs. Contains zs x)
      (λ yes. Contains-append_right (y ∷ []) (filter p ys) x (filter_has p ys x passes later))
      (λ no. filter_has p ys x passes later)
]

origins_more : (count workers worker : ℕ) → origins_of (count + 1) workers worker ≡ origins_of count workers worker ++ cond (count % workers == worker) (count ∷ []) []
origins_more count workers worker =
    ap (filter (λ k. k % workers == worker)) (range_more count) ∙ filter-append (λ k. k % workers == worker) (range_with_len 0 count) (count ∷ [])

origins_below : (places workers worker : ℕ) → All (λ k. k < places) (origins_of places workers worker)
origins_below places workers worker =
    let P : ℕ → Type 0 = λ n. All (λ k. k < n) (range_with_len 0 places) in
    let none : 0 + places ≡ places = omega arith in
    All-filter (λ k. k % workers == worker) (λ k. k < places) (range_with_len 0 places) (subst P none (range_below 0 places))

origins_have : (places workers worker a : ℕ) → a < places → a % workers ≡ worker → Contains (origins_of places workers worker) a
origins_have places workers worker a below own =
    filter_has (λ k. k % workers == worker) (range_with_len 0 places) a (eq-eqb (a % workers) worker own) (range_has 0 places a (omega arith) (omega arith))

all_origins : (P : ℕ → Type 0) (rows : List OriginRow) → All P (map (λ r. r.origin) rows) → All (λ r. P r.origin) rows
all_origins P [] h = All-nil (λ r. P r.origin)
all_origins P (r ∷ rows) h = All-cons (λ x. P x.origin) r rows (All-head P r.origin (map (λ x. x.origin) rows) h) (all_origins P rows (All-tail P r.origin (map (λ x. x.origin) rows) h))

-- what a worker answers lies in range
pub origins_known : (lines : List Line) (places workers worker : ℕ) (rows : List OriginRow) → IsShare lines places workers worker rows → All (λ r. r.origin < places) rows
origins_known lines places workers worker rows h =
    let P : List ℕ → Type 0 = λ xs. All (λ k. k < places) xs in
    all_origins (λ k. k < places) rows (subst P (sym h.origins) (origins_below places workers worker))

-- a worker's rows of the first so many places
pub record IsFirstShare (lines : List Line) (places workers worker count : ℕ) (rows : List OriginRow) : Type 0 where
  pub origins : map (λ r. r.origin) rows ≡ origins_of count workers worker
  pub distances : All (λ r. IsRow lines places r.origin (known r.row.items)) rows

module _ (lines : List Line) (places workers worker count : ℕ) (rows : List OriginRow) (h : IsFirstShare lines places workers worker count rows) where
  pub IsFirstShare-skip : count % workers ≢ worker → IsFirstShare lines places workers worker (count + 1) rows
  IsFirstShare-skip other = record {
    origins = h.origins ∙ sym (origins_more count workers worker ∙ (ap (λ xs. origins_of count workers worker ++ xs) (cond-false (count % workers == worker) (count ∷ []) [] (ne_eqb (count % workers) worker other)) ∙ append-none));
    distances = h.distances;
  } where
    append-none : origins_of count workers worker ++ [] ≡ origins_of count workers worker
    append-none = append-nil (origins_of count workers worker)

  pub IsFirstShare-push : (row : Vec Length Global) → count % workers ≡ worker → IsRow lines places count (known row.items) → IsFirstShare lines places workers worker (count + 1) (rows ++ record { origin = count; row = row } ∷ [])
  IsFirstShare-push row own is = record {
    origins = map_push (λ (r : OriginRow). r.origin) rows (record { origin = count; row = row }) ∙ (ap (λ xs. xs ++ count ∷ []) h.origins
        ∙ sym (origins_more count workers worker ∙ ap (λ xs. origins_of count workers worker ++ xs) (cond-true (count % workers == worker) (count ∷ []) [] (eq-eqb (count % workers) worker own))));
    distances = All-push (λ r. IsRow lines places r.origin (known r.row.items)) rows (record { origin = count; row = row }) h.distances is;
  }

-- one row is put, and the others are left
pub put_next : (rows : List (Vec Length Global)) (r : OriginRow) (left rest : List OriginRow) (all : List (Vec Length Global)) → left ≡ r ∷ rest → put_rows rows left ≡ all → put_rows (set rows r.origin r.row) rest ≡ all
put_next rows r left rest all same h = let P : List OriginRow → Type 0 = λ xs. put_rows rows xs ≡ all in subst P same h

pub length-put_rows : (rows : List (Vec Length Global)) (share : List OriginRow) → length (put_rows rows share) ≡ length rows
length-put_rows rows [] = refl
length-put_rows rows (r ∷ share) = length-put_rows (set rows r.origin r.row) share ∙ length-set rows r.origin r.row

-- putting rows in their places
module _ (lines : List Line) (places : ℕ) where
  -- a place has its row
  abbrev pub HasRow : List (Vec Length Global) → ℕ → Type 0
  HasRow rows a = (d : Vec Length Global) → IsRow lines places a (known (get_or rows a d).items)

  set_own : (rows : List (Vec Length Global)) (r : OriginRow) (a : ℕ) → a < length rows → r.origin ≡ a → IsRow lines places r.origin (known r.row.items) → HasRow (set rows r.origin r.row) a
  set_own rows r a within same is =
      let P : ℕ → Type 0 = λ n. HasRow (set rows r.origin r.row) n in
      let Q : Vec Length Global → Type 0 = λ row. IsRow lines places r.origin (known row.items) in
      subst P same (λ d. subst Q (sym (get_or-set_same rows r.origin r.row d (omega arith))) is)

  set_keeps : (rows : List (Vec Length Global)) (r : OriginRow) (a : ℕ) → a < length rows → IsRow lines places r.origin (known r.row.items) → HasRow rows a → HasRow (set rows r.origin r.row) a
  set_keeps rows r a within is has = elim (cases_eq r.origin a) [
    | inl same ↦ set_own rows r a within same is
    | inr other ↦ (λ d. let Q : Vec Length Global → Type 0 = λ row. IsRow lines places a (known row.items) in
        subst Q (sym (get_or-set_other rows r.origin a r.row d (λ e. other (sym e)))) (has d))
  ]

  put_keeps : (rows : List (Vec Length Global)) (share : List OriginRow) (a : ℕ) → a < length rows → All (λ r. IsRow lines places r.origin (known r.row.items)) share → HasRow rows a → HasRow (put_rows rows share) a
  put_keeps rows [] a within are has = has
  put_keeps rows (r ∷ share) a within are has =
      put_keeps (set rows r.origin r.row) share a (omega (arith, length-set rows r.origin r.row)) (All-tail (λ x. IsRow lines places x.origin (known x.row.items)) r share are)
      (set_keeps rows r a within (All-head (λ x. IsRow lines places x.origin (known x.row.items)) r share are) has)

  put_gives : (rows : List (Vec Length Global)) (share : List OriginRow) (a : ℕ) → a < length rows → All (λ r. IsRow lines places r.origin (known r.row.items)) share → Contains (map (λ r. r.origin) share) a → HasRow (put_rows rows share) a
  put_gives rows [] a within are among = absurd (Contains-nil a among)
  put_gives rows (r ∷ share) a within are among =
      let later = All-tail (λ x. IsRow lines places x.origin (known x.row.items)) r share are in
      let long : a < length (set rows r.origin r.row) = omega (arith, length-set rows r.origin r.row) in
      elim (Contains-cons_cases r.origin a (map (λ (x : OriginRow). x.origin) share) among) [
        | inl same ↦ put_keeps (set rows r.origin r.row) share a long later (set_own rows r a within same (All-head (λ x. IsRow lines places x.origin (known x.row.items)) r share are))
        | inr rest ↦ put_gives (set rows r.origin r.row) share a long later rest
      ]

  -- the rows of the first workers are in their places, and the answers of the others are left
  pub record IsGathered (workers : ℕ) (left : List (Result (Vec OriginRow Global) AllocError)) (rows : List (Vec Length Global)) : Type 0 where
    pub done : ℕ
    pub count : done + length left ≡ workers
    pub shares : (k : ℕ) (d : Result (Vec OriginRow Global) AllocError) → k < length left → IfOk (get_or left k d) (λ share. IsShare lines places workers (done + k) share.items)
    pub full : length rows ≡ places
    pub has : (a : ℕ) → a < places → a % workers < done → HasRow rows a

  pub IsGathered-start : (workers : ℕ) (answers : List (Result (Vec OriginRow Global) AllocError)) (rows : List (Vec Length Global)) → AreShares lines places workers answers → length rows ≡ places → IsGathered workers answers rows
  IsGathered-start workers answers rows h full = record {
    done = 0;
    count = omega (arith, h.full);
    shares = λ k d l. let P : ℕ → Type 0 = λ n. IfOk (get_or answers k d) (λ s. IsShare lines places workers n s.items) in
        let at : k ≡ 0 + k = omega arith in
        subst P at (h.each k d (omega (arith, h.full)));
    full = full;
    has = λ a below none. absurd (omega arith);
  }

  next_share : (workers : ℕ) (share : Vec OriginRow Global) (left : List (Result (Vec OriginRow Global) AllocError)) (rows : List (Vec Length Global)) (h : IsGathered workers (Ok share ∷ left) rows) → IsShare lines places workers h.done share.items
  next_share workers share left rows h =
      let P : ℕ → Type 0 = λ n. IsShare lines places workers n share.items in
      let at : h.done + 0 ≡ h.done = omega arith in
      subst P at (h.shares 0 (Ok share) (omega arith))

  pub next_known : (workers : ℕ) (share : Vec OriginRow Global) (left : List (Result (Vec OriginRow Global) AllocError)) (rows : List (Vec Length Global)) → IsGathered workers (Ok share ∷ left) rows → All (λ r. r.origin < length rows) share.items
  next_known workers share left rows h =
      All-weaker (λ r. r.origin < places) (λ r. r.origin < length rows) (λ r l. omega (arith, h.full)) share.items (origins_known lines places workers h.done share.items (next_share workers share left rows h))

  pub IsGathered-more : (workers : ℕ) (share : Vec OriginRow Global) (left : List (Result (Vec OriginRow Global) AllocError)) (rows : List (Vec Length Global)) → IsGathered workers (Ok share ∷ left) rows → IsGathered workers left (put_rows rows share.items)
  IsGathered-more workers share left rows h =
      let next = next_share workers share left rows h in record {
        done = h.done + 1;
        count = omega (arith, h.count);
        shares = λ k d l. let P : ℕ → Type 0 = λ n. IfOk (get_or left k d) (λ s. IsShare lines places workers n s.items) in
            let at : h.done + suc k ≡ (h.done + 1) + k = omega arith in
            subst P at (h.shares (suc k) d (omega arith));
        full = length-put_rows rows share.items ∙ h.full;
        has = λ a below low. elim (cases_eq (a % workers) h.done) [
          | inl own ↦ (let P : List ℕ → Type 0 = λ xs. Contains xs a in
              put_gives rows share.items a (omega (arith, h.full)) next.distances (subst P (sym next.origins) (origins_have places workers h.done a below own)))
          | inr other ↦ put_keeps rows share.items a (omega (arith, h.full)) next.distances (h.has a below (omega arith))
        ];
      }

  pub IsGathered-end : (workers : ℕ) (left : List (Result (Vec OriginRow Global) AllocError)) (rows : List (Vec Length Global)) → length left ≡ 0 → 0 < workers → IsGathered workers left rows → AreRows lines places rows
  IsGathered-end workers left rows none some h = record {
    full = h.full;
    each = λ a d below. h.has a below (omega (arith, mod_below a workers some, h.count)) d;
  }
