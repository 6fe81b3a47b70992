-- Paths between numbered places, joined and led on by a line.
use Rattle.std.proofs.Common.{◌≡◌, ℕ, ◌+◌, List, [], ◌∷◌, ◌++◌, refl, sym, ◌∙◌, ap, subst, arith, length, Some, None, Option}
use Rattle.std.proofs.lemmas.List.Sums.{sum_by-cons, sum_by_push}
use Rattle.std.specs.List.{Contains}
use Rattle.line_network.specs.declared.line.Line.{Line}
use Rattle.line_network.specs.inner.Lengths.{Distance}
use Rattle.line_network.specs.Walk.{IsPath, km_of, minutes_of}
use Rattle.line_network.specs.Distance.{AtMost}
use Rattle.line_network.specs.inner.Rows.{IsPathPair, IsLeastOrNone, IsNear, IsRow}
use Rattle.line_network.specs.inner.Search.{plus_line, label_at, LabelAtMost, AreLabels, IsRelaxed}

-- a path goes on with a path
pub IsPath-append : (lines : List Line) (a b c : ℕ) (p q : List Line) → IsPath lines a p b → IsPath lines b q c → IsPath lines a (p ++ q) c
IsPath-append lines a b c [] q h k = subst (λ (n : ℕ). IsPath lines n q c) (sym h) k
IsPath-append lines a b c (l ∷ p) q h k = (h.0, h.1, IsPath-append lines l.to b c p q h.2 k)

-- the path that a label stands for goes on by one line
pub IsPathPair-plus : (lines : List Line) (a b : ℕ) (d : Distance) (l : Line) → IsPathPair lines a b d → Contains lines l → l.from ≡ b → IsPathPair lines a l.to (plus_line d l)
IsPathPair-plus lines a b d l h has from = record {
  path = h.path ++ l ∷ [];
  leads = IsPath-append lines a b l.to h.path (l ∷ []) h.leads (has, from, refl);
  km = sum_by_push (λ m. m.km) h.path l ∙ ap (λ n. n + l.km) h.km;
  minutes = sum_by_push (λ m. m.minutes) h.path l ∙ ap (λ n. n + l.minutes) h.minutes;
}

-- a label that is low enough is there
pub some_label : (o : Option Distance) (d : Distance) → LabelAtMost o d → (e : Distance) × (o ≡ Some e) × AtMost (e.km, e.minutes) (d.km, d.minutes)
some_label None d h = absurd h
some_label (Some e) d h = (e, refl, h)

-- the pair of a path that goes on with a path
abbrev pub plus_path : Distance → List Line → Distance
plus_path d path = record { km = d.km + km_of path; minutes = d.minutes + minutes_of path }

LabelAtMost-weaker : (o : Option Distance) (d e : Distance) → AtMost (d.km, d.minutes) (e.km, e.minutes) → LabelAtMost o d → LabelAtMost o e
LabelAtMost-weaker None d e h k = absurd k
LabelAtMost-weaker (Some x) d e h k = (omega arith, λ s. omega arith)

plus_path-line : (e d : Distance) (l : Line) (path : List Line) → AtMost (e.km, e.minutes) (d.km + l.km, d.minutes + l.minutes) → AtMost (e.km + km_of path, e.minutes + minutes_of path) (d.km + km_of (l ∷ path), d.minutes + minutes_of (l ∷ path))
plus_path-line e d l path h =
    (omega (arith, h.0, sum_by-cons (λ (m : Line). m.km) l path), λ s. omega (arith, h.0, h.1 (omega (arith, h.0, sum_by-cons (λ (m : Line). m.km) l path)), sum_by-cons (λ (m : Line). m.minutes) l path))

-- where each reached place is relaxed, no path leads below a label
pub path_leads : (lines : List Line) (labels : List (Option Distance)) → ((k : ℕ) (d : Distance) → label_at labels k ≡ Some d → IsRelaxed lines labels k d) → (a b : ℕ) (d : Distance) (path : List Line) → label_at labels a ≡ Some d → IsPath lines a path b → LabelAtMost (label_at labels b) (plus_path d path)
path_leads lines labels relaxed a b d [] at same =
    let P : ℕ → Type 0 = λ n. LabelAtMost (label_at labels n) (plus_path d []) in
    let Q : Option Distance → Type 0 = λ o. LabelAtMost o (plus_path d []) in
    subst P same (subst Q (sym at) (omega arith, λ s. omega arith))
path_leads lines labels relaxed a b d (l ∷ path) at leads =
    let end = some_label (label_at labels l.to) (plus_line d l) (relaxed a d at l leads.0 leads.1) in
    LabelAtMost-weaker (label_at labels b) (plus_path end.0 path) (plus_path d (l ∷ path)) (plus_path-line end.0 d l path end.2)
    (path_leads lines labels relaxed l.to b end.0 path end.1 leads.2)

-- where each reached place is relaxed, the labels are the distances
pub IsRow-relaxed : (lines : List Line) (places origin : ℕ) (labels : List (Option Distance)) → length labels ≡ places → AreLabels lines origin labels → ((k : ℕ) (d : Distance) → label_at labels k ≡ Some d → IsRelaxed lines labels k d) → ((k : ℕ) → IsNear places (label_at labels k)) → IsRow lines places origin labels
IsRow-relaxed lines places origin labels full are relaxed near = record {
  full = full;
  answers = λ b within. answer b (label_at labels b) refl;
  near = λ b within. near b;
} where
  least : (b : ℕ) (path : List Line) → IsPath lines origin path b → LabelAtMost (label_at labels b) (record { km = km_of path; minutes = minutes_of path })
  least b path leads =
      let start = some_label (label_at labels origin) (record { km = 0; minutes = 0 }) are.started in
      LabelAtMost-weaker (label_at labels b) (plus_path start.0 path) (record { km = km_of path; minutes = minutes_of path }) (omega (arith, start.2.0), λ s. omega (arith, start.2.0, start.2.1 (omega (arith, start.2.0)))) (path_leads lines labels relaxed origin b start.0 path start.1 leads)

  answer : (b : ℕ) (o : Option Distance) → label_at labels b ≡ o → IsLeastOrNone lines origin b o
  answer b None at = λ path leads. let P : Option Distance → Type 0 = λ o. LabelAtMost o (record { km = km_of path; minutes = minutes_of path }) in subst P at (least b path leads)
  answer b (Some d) at = record {
    some = are.paths b d at;
    least = λ path leads. let P : Option Distance → Type 0 = λ o. LabelAtMost o (record { km = km_of path; minutes = minutes_of path }) in subst P at (least b path leads);
  }
