-- A commit of a certificate of the version and the moment just begun is accepted, unless the book is full or memory is out.
use Rattle.std.proofs.Common.{◌≡◌, ◌∙◌, ◌+◌, ◌||◌, ℕ, Bool, true, false, cond, List, [], ◌∷◌, ◌++◌, length, drop, refl, sym, ap, subst, arith, inl, inr}
use Rattle.std.specs.Prelude.{◌⊎◌, nat_lt, Option, None, Some, Ok}
use Rattle.std.specs.List.{list_any}
use Rattle.std.proofs.lemmas.Bool.Decides.{nat_tests}
use Rattle.move_messages.specs.declared.commit_text.CommitText.{CommitText}
use Rattle.line_network.specs.Network.{NetworkValue}
use Rattle.line_network.specs.Networks.{network_at}
use Rattle.problem_table.specs.Allowed.{IsTableOf}
use Rattle.cost_table.specs.Plan.{cost_of}
use Rattle.cost_table.specs.Problem.{ProblemValue, names_of_problem}
use Rattle.cost_table.specs.Table.{Table}
use Rattle.price_checker.specs.Certificate.{IsCertificate}
use Rattle.faults.specs.declared.faults.CheckFault.{CheckFault}
use Rattle.price_checker.proofs.FaultFree.{fault_free}
use Rattle.price_checker.proofs.FirstBelow.{none_both}
use Rattle.price_checker.specs.NamedPairs.{checked, checked_at, cost_unless, positions_of}
use Rattle.operating_db.specs.Office.{Office}
use Rattle.operating_db.specs.Problem.{problem_of}
use Rattle.move_messages.specs.declared.event.Event.{Event}
use Rattle.move_messages.specs.declared.event.Event.TheVariants as event
use Rattle.commit_book.specs.BookStep.{BookState, IsCall, IsCommitAnswer, accepted_unless, is_full, is_kept, is_this, refusal_by, refusal_in}
use Rattle.commit_book.specs.Commits.{order_changed, wagon_changed}
use Rattle.commit_book.specs.History.{ArePositions, IsLegal, IsTableAt, problem_at, replay, version}
use Rattle.commit_book.specs.Setting.{Setting}
use Rattle.commit_book.specs.declared.answer.Answer.{Answer}
use Rattle.commit_book.specs.declared.answer.Answer.TheVariants.{Begun, Done, Refused}
use Rattle.commit_book.specs.declared.call.Call.TheVariants as call
use Rattle.faults.specs.declared.faults.Refusal.{Refusal}
use Rattle.faults.specs.declared.faults.Refusal.TheVariants.{BookFull, OutOfMemory}
use Rattle.commit_book.specs.declared.reply.Reply.TheVariants.{Accepted}
use Rattle.commit_book.proofs.BookParts.{last_version}
use Rattle.commit_book.proofs.Offices.{IsNamedOnce, named_once, problem_named}
use Rattle.commit_book.proofs.Placed.{placed_positions, stand_placed}
use Rattle.sessions.specs.PlannersCommit.{CertificatesAreAccepted, IsCertificateAt, PlansAreAccepted}
use Rattle.sessions.proofs.Positions.{positions_named}
use Rattle.sessions.proofs.SameTables.{same_certificate}
use Rattle.sessions.proofs.Unchanged.{no_order_changed, no_wagon_changed}

-- ---- the begin

either_true : (a b : Bool) → b ≡ true → (a || b) ≡ true
either_true true b h = refl
either_true false b h = h

any_last : (p : ℕ × ℕ → Bool) (xs : List (ℕ × ℕ)) (x : ℕ × ℕ) → p x ≡ true → list_any p (xs ++ x ∷ []) ≡ true
any_last p [] x h = ap (λ (b : Bool). b || false) h
any_last p (y ∷ xs) x h = either_true (p y) (list_any p (xs ++ x ∷ [])) (any_last p xs x h)

is_itself : (which : ℕ × ℕ) → is_this which which ≡ true
is_itself which = grind (arith, nat_tests)

kept_by : (kept : List (ℕ × ℕ)) (which : ℕ × ℕ) (here room : Bool) → is_kept kept which ≡ here → is_kept (cond here kept (cond room (kept ++ which ∷ []) (drop 1 kept ++ which ∷ []))) which ≡ true
kept_by kept which true room is = is
kept_by kept which false true is = any_last (is_this which) kept which (is_itself which)
kept_by kept which false false is = any_last (is_this which) (drop 1 kept) which (is_itself which)

same_version : (a b : ℕ) → Begun a ≡ Begun b → a ≡ b
same_version a b h = cc

not_refused : (a : ℕ) (refusal : Refusal) → Begun a ≡ Refused refusal → ⊥
not_refused a refusal h = cc

-- what a begin leaves: the same history, whose length is the version, and the pair of version and moment among the kept
record IsPresent (book : BookState) (at version : ℕ) (begun : BookState) : Type 0 where
  history : begun.history ≡ book.history
  last : version ≡ length book.history
  kept : is_kept begun.kept (length book.history, at) ≡ true

present : (setting : Setting) (book : BookState) (at version : ℕ) (begun : BookState) → IsCall setting book (call.Begin at) (Begun version) begun → IsPresent book at version begun
present setting book at version begun (inl step) =
    let which : ℕ × ℕ = (length book.history, at) in
    record {
      history = ap (λ (b : BookState). b.history) step.changed;
      last = same_version version (length book.history) step.answered;
      kept = ap (λ (b : BookState). is_kept b.kept which) step.changed ∙ kept_by book.kept which (is_kept book.kept which) (nat_lt (length book.kept) setting.kept) refl;
    }
present setting book at version begun (inr wants) = absurd (not_refused version OutOfMemory wants.refused)

-- ---- the commit

some_network : (a b : NetworkValue) → let o : Option NetworkValue = Some a in o ≡ Some b → a ≡ b
some_network a b h = cc

checked_free : (problem : ProblemValue) (t : Table) (commit : CommitText) (positions : List (ℕ × ℕ)) → positions_of (names_of_problem problem) commit.pairs ≡ Ok positions → IsCertificate t positions commit.u commit.v
    → checked (names_of_problem problem) t commit.pairs commit.u commit.v ≡ Ok (cost_of t positions)
unfolding checked
checked_free problem t commit positions are c =
    let names = names_of_problem problem in
    ap (checked_at names t commit.u commit.v) are ∙ ap (λ (fault : Option CheckFault). cost_unless names fault (cost_of t positions)) (fault_free t positions commit.u commit.v c)

-- a commit of a certificate of an office's problem has no refusal in that office
no_refusal_in : (net : NetworkValue) (office : Office) (at : ℕ) (t : Table) (commit : CommitText) (positions : List (ℕ × ℕ)) → IsNamedOnce office → IsTableOf net (problem_of office at) t
    → ArePositions (problem_of office at) commit.pairs positions → IsCertificate t positions commit.u commit.v → refusal_in (problem_of office at) office commit t ≡ None
no_refusal_in net office at t commit positions named is are c =
    let problem = problem_of office at in
    let placed = stand_placed problem (problem_named office at named) commit.pairs positions are in
    ap (refusal_by problem office commit.pairs) (checked_free problem t commit positions (placed_positions problem commit.pairs positions placed) c)
    ∙ none_both (wagon_changed problem office commit.pairs) (order_changed office commit.pairs) (no_wagon_changed office at named commit.pairs positions placed)
    (no_order_changed net office at t named is commit.pairs positions placed c.plan.within)

-- a commit of a certificate of the last version
record IsLast (setting : Setting) (history : List Event) (commit : CommitText) : Type 0 where
  office : version setting history commit.version ≡ replay setting history
  table : Table
  is_table : IsTableAt setting history commit.version commit.at table
  positions : List (ℕ × ℕ)
  are_positions : ArePositions (problem_at setting history commit.version commit.at) commit.pairs positions
  certificate : IsCertificate table positions commit.u commit.v

no_refusal : (setting : Setting) (history : List Event) (commit : CommitText) → IsNamedOnce (replay setting history) → IsLast setting history commit → (t : Table) → IsTableAt setting history commit.version commit.at t
    → refusal_in (problem_at setting history commit.version commit.at) (replay setting history) commit t ≡ None
no_refusal setting history commit named last t is =
    let office = replay setting history in
    let net : last.is_table.network ≡ is.network = some_network last.is_table.network is.network (sym last.is_table.in_force ∙ is.in_force) in
    let first = subst (λ (n : NetworkValue). IsTableOf n (problem_at setting history commit.version commit.at) last.table) net last.is_table.of_problem in
    let c = same_certificate is.network (problem_at setting history commit.version commit.at) last.table t first is.of_problem last.positions commit.u commit.v last.certificate in
    let of = subst (λ (o : Office). IsTableOf is.network (problem_of o commit.at) t) last.office is.of_problem in
    let are = subst (λ (o : Office). ArePositions (problem_of o commit.at) commit.pairs last.positions) last.office last.are_positions in
    subst (λ (o : Office). refusal_in (problem_of o commit.at) office commit t ≡ None) (sym last.office) (no_refusal_in is.network office commit.at t commit last.positions named of are c)

abbrev IsAcceptedOrLacks : ℕ → Answer → Type 0
IsAcceptedOrLacks n answer = (answer ≡ Done (Accepted n)) ⊎ ((answer ≡ Refused BookFull) ⊎ (answer ≡ Refused OutOfMemory))

answered_by : (setting : Setting) (history : List Event) (commit : CommitText) (answer : Answer) (kept full : Bool) → kept ≡ true → IsCommitAnswer kept full setting history commit answer
    → ((t : Table) → IsTableAt setting history commit.version commit.at t → refusal_in (problem_at setting history commit.version commit.at) (replay setting history) commit t ≡ None) → IsAcceptedOrLacks (length history + 1) answer
answered_by setting history commit answer false full there h none = absurd cc
answered_by setting history commit answer true true there h none = inr (inl h)
answered_by setting history commit answer true false there h none = inl (h.answered ∙ ap (accepted_unless (length history + 1)) (none h.table h.is_table))

accepted : (setting : Setting) (book : BookState) (commit : CommitText) → IsNamedOnce (replay setting book.history) → IsLast setting book.history commit → is_kept book.kept (commit.version, commit.at) ≡ true
    → (answer : Answer) (new : BookState) → IsCall setting book (call.Event (event.Commit commit)) answer new → IsAcceptedOrLacks (length book.history + 1) answer
accepted setting book commit named last kept answer new (inr wants) = inr (inr wants.refused)
accepted setting book commit named last kept answer new (inl step) =
    answered_by setting book.history commit answer (is_kept book.kept (commit.version, commit.at)) (is_full setting book.history) kept step.answered (no_refusal setting book.history commit named last)

-- ---- the laws

pub certificates_are_accepted : CertificatesAreAccepted
certificates_are_accepted setting first book at number begun h commit c answer new commits =
    let p = present setting book at number begun h.call in
    let legal = subst (IsLegal setting) (sym p.history) h.legal in
    let number_is : number ≡ length begun.history = p.last ∙ ap (λ (es : List Event). length es) (sym p.history) in
    let names : commit.version ≡ length begun.history = c.names_version ∙ number_is in
    let office : version setting begun.history commit.version ≡ replay setting begun.history = ap (version setting begun.history) names ∙ last_version setting begun.history in
    let last : IsLast setting begun.history commit = record {
      office = office;
      table = c.table;
      is_table = subst (λ (n : ℕ). IsTableAt setting begun.history n commit.at c.table) (sym c.names_version) (subst (λ (m : ℕ). IsTableAt setting begun.history number m c.table) (sym c.names_moment) c.is_table);
      positions = c.positions;
      are_positions = subst (λ (n : ℕ). ArePositions (problem_at setting begun.history n commit.at) commit.pairs c.positions) (sym c.names_version)
          (subst (λ (m : ℕ). ArePositions (problem_at setting begun.history number m) commit.pairs c.positions) (sym c.names_moment) c.are_positions);
      certificate = c.certificate;
    } in
    let its : commit.version ≡ length book.history = c.names_version ∙ p.last in
    let kept : is_kept begun.kept (commit.version, commit.at) ≡ true =
    subst (λ (n : ℕ). is_kept begun.kept (n, commit.at) ≡ true) (sym its) (subst (λ (m : ℕ). is_kept begun.kept (length book.history, m) ≡ true) (sym c.names_moment) p.kept) in
    accepted setting begun commit (named_once setting begun.history first legal) last kept answer new commits

pub plans_are_accepted : PlansAreAccepted
plans_are_accepted setting first book at number begun h pairs u v planned commit its answer new commits =
    let p = present setting book at number begun h.call in
    let now = replay setting book.history in
    let office : version setting begun.history number ≡ now = ap (version setting begun.history) p.last ∙ (ap (λ (es : List Event). version setting es (length book.history)) p.history ∙ last_version setting book.history) in
    let problem = problem_of now at in
    let stand = positions_named planned.network problem planned.table planned.is_table pairs planned.certificate.plan.allowed in
    let there : ArePositions problem commit.pairs pairs = rw its.named stand in
    let c : IsCertificateAt setting begun.history number at commit = record {
      names_version = its.version ∙ sym p.last;
      names_moment = its.at;
      table = planned.table;
      is_table = record {
        network = planned.network;
        in_force = subst (λ (o : Office). network_at setting.networks o.network ≡ Some planned.network) (sym office) planned.in_force;
        of_problem = subst (λ (o : Office). IsTableOf planned.network (problem_of o at) planned.table) (sym office) planned.is_table;
      };
      positions = pairs;
      are_positions = subst (λ (o : Office). ArePositions (problem_of o at) commit.pairs pairs) (sym office) there;
      certificate = subst (λ (ps : List ℕ). IsCertificate planned.table pairs ps commit.v) (sym its.wagon_prices) (subst (λ (ps : List ℕ). IsCertificate planned.table pairs u ps) (sym its.order_prices) planned.certificate);
    } in
    certificates_are_accepted setting first book at number begun h commit c answer new commits
