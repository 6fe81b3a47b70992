-- Walks between places: the triangle law, and the rows of tables as distances.
use Rattle.std.proofs.Common.{◌≡◌, ℕ, ◌+◌, ◌^◌, ◌<◌, ◌≤◌, List, [], ◌∷◌, ◌++◌, length, sym, ◌∙◌, ap, subst, arith, inl, inr, get_or, IfSome, Some, None, Option}
use Rattle.std.specs.List.{Contains}
use Rattle.std.specs.declared.alloc.Global.{Global}
use Rattle.std.specs.declared.vec.Vec.{Vec}
use Rattle.std.proofs.lemmas.Bool.{cases_lt}
use Rattle.std.proofs.lemmas.List.{get_or_append_left, get_or_push}
use Rattle.std.proofs.lemmas.List.Sorted.{Contains-permutation, IsPermutation-sym}
use Rattle.std.specs.List.Sorted.{IsPermutation}
use Rattle.std.proofs.lemmas.List.Sums.{sum_by-append}
use Rattle.std.proofs.lemmas.Option.{same_Some}
use Rattle.line_network.specs.declared.line.Line.{Line}
use Rattle.line_network.specs.Network.{NetworkValue, place_index}
use Rattle.line_network.specs.declared.length.Length.{Length}
use Rattle.line_network.specs.Walk.{IsPath, IsWalk, km_of, minutes_of}
use Rattle.line_network.specs.Distance.{AtMost, IsDistance}
use Rattle.line_network.specs.DistanceAnswers.{IsAnswered, max_distance}
use Rattle.line_network.specs.inner.Lengths.{Distance, label_of, known, as_pair}
use Rattle.line_network.specs.inner.Rows.{IsLeastPair, IsLeastOrNone, IsNear, IsRow, AreRows}
use Rattle.line_network.specs.Laws.{TriangleHolds}
use Rattle.line_network.proofs.Numbering.{length_known, known_read}
use Rattle.line_network.proofs.Paths.{IsPath-append}

-- a walk is a path between the numbers of its places
pub path_of_walk : (net : NetworkValue) (a b : List ℕ) (i j : ℕ) (walk : List Line) → place_index net.places a ≡ Some i → place_index net.places b ≡ Some j → IsWalk net a walk b → IsPath net.lines i walk j
path_of_walk net a b i j walk at to h =
    let P : ℕ → Type 0 = λ n. IsPath net.lines n walk j in
    let Q : ℕ → Type 0 = λ n. IsPath net.lines h.first walk n in
    subst P (same_Some h.first i (sym h.begins ∙ at)) (subst Q (same_Some h.last j (sym h.ends ∙ to)) h.path)

-- the least pair between two numbers is the distance of their places
pub IsDistance-least : (net : NetworkValue) (a b : List ℕ) (i j : ℕ) (d : Distance) → place_index net.places a ≡ Some i → place_index net.places b ≡ Some j → IsLeastPair net.lines i j d → IsDistance net a b (d.km, d.minutes)
IsDistance-least net a b i j d at to h = record {
  walk = h.some.path;
  leads = record { first = i; last = j; begins = at; ends = to; path = h.some.leads };
  km = h.some.km;
  minutes = h.some.minutes;
  least = λ other w. h.least other (path_of_walk net a b i j other at to w);
}

-- a walk goes on with a walk
pub IsWalk-append : (net : NetworkValue) (a b c : List ℕ) (one two : List Line) → IsWalk net a one b → IsWalk net b two c → IsWalk net a (one ++ two) c
IsWalk-append net a b c one two h k =
    let P : ℕ → Type 0 = λ n. IsPath net.lines n two k.last in
    record {
      first = h.first;
      last = k.last;
      begins = h.begins;
      ends = k.ends;
      path = IsPath-append net.lines h.first h.last k.last one two h.path (subst P (same_Some k.first h.last (sym k.begins ∙ h.ends)) k.path);
    }

pub triangle : TriangleHolds
triangle net a b c p q r h k s =
    let least : AtMost r (km_of (h.walk ++ k.walk), minutes_of (h.walk ++ k.walk)) = s.least (h.walk ++ k.walk) (IsWalk-append net a b c h.walk k.walk h.leads k.leads) in
    let km : km_of (h.walk ++ k.walk) ≡ p.0 + q.0 = sum_by-append (λ (l : Line). l.km) h.walk k.walk ∙ (ap (λ n. n + km_of k.walk) h.km ∙ ap (λ n. p.0 + n) k.km) in
    let minutes : minutes_of (h.walk ++ k.walk) ≡ p.1 + q.1 = sum_by-append (λ (l : Line). l.minutes) h.walk k.walk ∙ (ap (λ n. n + minutes_of k.walk) h.minutes ∙ ap (λ n. p.1 + n) k.minutes) in
    (omega arith, λ same. omega (arith, least.1 (omega arith)))

-- a path by some lines is one by all lines among which they are
pub IsPath-among : (xs ys : List Line) (a b : ℕ) (path : List Line) → ((l : Line) → Contains xs l → Contains ys l) → IsPath xs a path b → IsPath ys a path b
IsPath-among xs ys a b [] among h = h
IsPath-among xs ys a b (l ∷ path) among h = (among l h.0, h.1, IsPath-among xs ys l.to b path among h.2)

IsAnswer-same : (xs ys : List Line) (a b : ℕ) (o : Option Distance) → ((l : Line) → Contains xs l → Contains ys l) → ((l : Line) → Contains ys l → Contains xs l) → IsLeastOrNone xs a b o → IsLeastOrNone ys a b o
IsAnswer-same xs ys a b None there back h = λ path leads. h path (IsPath-among ys xs a b path back leads)
IsAnswer-same xs ys a b (Some d) there back h = record {
  some = record { path = h.some.path; leads = IsPath-among xs ys a b h.some.path there h.some.leads; km = h.some.km; minutes = h.some.minutes };
  least = λ path leads. h.least path (IsPath-among ys xs a b path back leads);
}

-- rows don't depend on the order of the lines
pub AreRows-permutation : (xs ys : List Line) (places : ℕ) (rows : List (Vec Length Global)) → IsPermutation xs ys → AreRows ys places rows → AreRows xs places rows
AreRows-permutation xs ys places rows moved h = record {
  full = h.full;
  each = λ a d within. record {
    full = (h.each a d within).full;
    answers = λ b below. IsAnswer-same ys xs a b _ (λ l. Contains-permutation ys xs l (IsPermutation-sym xs ys moved)) (λ l. Contains-permutation xs ys l moved) ((h.each a d within).answers b below);
    near = (h.each a d within).near;
  };
}

-- the rows of the first so many places
abbrev pub AreFirstRows : List Line → ℕ → ℕ → List (Vec Length Global) → Type 0
AreFirstRows lines places count rows = (a : ℕ) (d : Vec Length Global) → a < count → IsRow lines places a (known (get_or rows a d).items)

-- one row more
pub AreFirstRows-push : (lines : List Line) (places count : ℕ) (rows : List (Vec Length Global)) (row : Vec Length Global) → length rows ≡ count → AreFirstRows lines places count rows → IsRow lines places count (known row.items) → AreFirstRows lines places (count + 1) (rows ++ row ∷ [])
AreFirstRows-push lines places count rows row same each last a d below = elim (cases_lt a count) [
  | inl before ↦ (let P : Vec Length Global → Type 0 = λ r. IsRow lines places a (known r.items) in subst P (sym (get_or_append_left rows (row ∷ []) d a (omega arith))) (each a d before))
  | inr past ↦ (let here : a ≡ count = omega arith in
      let P : Vec Length Global → Type 0 = λ r. IsRow lines places count (known r.items) in
      let Q : ℕ → Type 0 = λ n. IsRow lines places n (known (get_or (rows ++ row ∷ []) n d).items) in
      subst Q (sym here) (subst P (sym (get_or_push rows row d count same)) last))
]

-- what a row has for a place, as it is read
pub answer_read : (lines : List Line) (places a b : ℕ) (rows : List (Vec Length Global)) (row : Vec Length Global) (l : Length) → AreRows lines places rows → a < places → b < places → row ≡ get_or rows a row → l ≡ get_or row.items b l → IsLeastOrNone lines a b (label_of l) × IsNear places (label_of l)
answer_read lines places a b rows row l h from to at here =
    let P : Vec Length Global → Type 0 = λ r. IsRow lines places a (known r.items) in
    let is : IsRow lines places a (known row.items) = subst P (sym at) (h.each a row from) in
    let same = sym (known_read row.items b l (omega (arith, is.full, length_known row.items)) here) in
    (subst (IsLeastOrNone lines a b) same (is.answers b to), subst (IsNear places) same (is.near b to))

-- what is near is of few kilometres and minutes
pub few_km : (places : ℕ) (o : Option Distance) → places ≤ 2000 → IsNear places o → IfSome o (λ d. d.km < 2 ^ 25)
few_km places None few near = tt
few_km places (Some d) few near = omega (arith, near)

pub within_limit : (places : ℕ) (o : Option Distance) → places ≤ 2000 → IsNear places o → IfSome (as_pair o) (λ d. (d.0 ≤ max_distance) × (d.1 ≤ max_distance))
within_limit places None few near = tt
within_limit places (Some d) few near = (omega (arith, near), omega (arith, near))

-- what a row has for a place is what is to be answered
pub IsAnswered-answer : (net : NetworkValue) (a b : List ℕ) (i j : ℕ) (o : Option Distance) → place_index net.places a ≡ Some i → place_index net.places b ≡ Some j → IsLeastOrNone net.lines i j o → IsAnswered net a b (as_pair o)
IsAnswered-answer net a b i j None at to h = λ walk leads. h walk (path_of_walk net a b i j walk at to leads)
IsAnswered-answer net a b i j (Some d) at to h = IsDistance-least net a b i j d at to h
