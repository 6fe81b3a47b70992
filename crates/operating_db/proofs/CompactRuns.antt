-- Runs of events from an office, and from the office without its closed orders.
use Rattle.std.proofs.Common.{◌≡◌, ◌∙◌, ℕ, Bool, true, false, cond, List, [], ◌∷◌, ◌++◌, refl, ap, sym, subst}
use Rattle.std.specs.Prelude.{Option, Some, None, option_map, Result, Ok, Err, All}
use Rattle.std.specs.Option.{IsSomeAnd}
use Rattle.std.specs.Result.{result_err, result_unwrap_or}
use Rattle.std.proofs.lemmas.List.Elements.{All-head, All-tail}
use Rattle.faults.specs.declared.faults.ApplyFault.{ApplyFault}
use Rattle.move_messages.specs.declared.event.Event.{Event}
use Rattle.move_messages.specs.declared.event.Event.TheVariants.{Message, Place, Withdraw, Commit, Revise}
use Rattle.wagons_and_orders.specs.Lack.{is_open}
use Rattle.wagons_and_orders.specs.OrderRow.{OrderRowValue, placed_row}
use Rattle.fleet_rows.specs.Rows.{at_order, order_in}
use Rattle.fleet_rows.proofs.Orders.{order_in-push}
use Rattle.operating_db.specs.After.{after_call}
use Rattle.operating_db.specs.Compact.{compact}
use Rattle.operating_db.specs.CompactLaws.{AreAlike, ArePromised, ClosedStayClosed, IsClosed, IsNoneClosed, NamesNoneClosed, NoAnswerChanges, NothingIsAdded, NothingIsLost, after_event, after_events, refusals}
use Rattle.operating_db.specs.Laws.{Leads, Steps}
use Rattle.operating_db.specs.Office.{Office}
use Rattle.operating_db.specs.Promises.{PromisesAgree}
use Rattle.operating_db.specs.Steps.{IsPromised}
use Rattle.operating_db.proofs.CompactEvents.{FindTheSame, GiveBy, Lasts, alike_lasts, event_same, promised_on}
use Rattle.operating_db.proofs.CompactOffices.{compact_agrees, compact_alike}
use Rattle.operating_db.proofs.CompactRows.{KeepsClosed, all_where_open, order_in_open}
use Rattle.operating_db.proofs.Events.{step_kept}
use Rattle.operating_db.proofs.Lookups.{order_in-at}
use Rattle.operating_db.proofs.Names.{same, same_is}
use Rattle.operating_db.proofs.Possible.{answered_ok, possible_by, promised_by}

-- ---- offices that know the same orders, apart from the closed ones of a first office

-- two offices that are alike, and find the same order under each name that no closed order of the first one has
pub record KnowTheRest (first one other : Office) : Type 0 where
  pub alike : AreAlike one other
  pub others : (id : List ℕ) → IsNoneClosed first id → order_in one.orders id ≡ order_in other.orders id

at_same : (id q : List ℕ) (f : OrderRowValue → OrderRowValue) (rows others : List OrderRowValue) → ((row : OrderRowValue) → (f row).text.id ≡ row.text.id) → order_in rows q ≡ order_in others q
    → order_in (at_order id f rows) q ≡ order_in (at_order id f others) q
at_same id q f rows others names is =
    order_in-at id f (λ row e. names row) rows q
    ∙ (ap (λ (o : Option OrderRowValue). cond (same id q) (option_map f o) o) is ∙ sym (order_in-at id f (λ row e. names row) others q))

push_same : (q : List ℕ) (new : OrderRowValue) (rows others : List OrderRowValue) → order_in rows new.text.id ≡ None → order_in others new.text.id ≡ None → order_in rows q ≡ order_in others q
    → order_in (rows ++ new ∷ []) q ≡ order_in (others ++ new ∷ []) q
push_same q new rows others none none' is =
    order_in-push rows new q none ∙ (ap (λ (o : Option OrderRowValue). cond (same q new.text.id) (Some new) o) is ∙ sym (order_in-push others new q none'))

rest_lasts : (first : Office) → Lasts (KnowTheRest first)
rest_lasts first = record {
  alike = λ one other h. h.alike;
  moves = λ one other f h. record { alike = alike_lasts.moves one other f h.alike; others = h.others };
  changes = λ one other id f names keeps h. record {
    alike = alike_lasts.changes one other id f names keeps h.alike;
    others = λ q none. at_same id q f one.orders other.orders names (h.others q none);
  };
  places = λ one other text new new' h. record {
    alike = alike_lasts.places one other text new new' h.alike;
    others = λ q none. push_same q (placed_row text) one.orders other.orders new new' (h.others q none);
  };
  revises = λ one other network h. record { alike = alike_lasts.revises one other network h.alike; others = h.others };
}

compact_knows : (office : Office) → PromisesAgree office → KnowTheRest office office (compact office)
compact_knows office h = record {
  alike = (compact_alike office).0;
  others = λ id none. sym (order_in_open office.orders id h.names ∙ all_where_open (order_in office.orders id) none);
}

-- the same, seen from the other office
turned : (office other : Office) → KnowTheRest office office other → KnowTheRest office other office
turned office other h = record { alike = sym h.alike; others = λ id none. sym (h.others id none) }

find_others : (first one other : Office) (event : Event) → KnowTheRest first one other → NamesNoneClosed first event → FindTheSame one other event
find_others first one other (Message m) known names = tt
find_others first one other (Place text) known names = known.others text.id names
find_others first one other (Withdraw id) known names = known.others id names
find_others first one other (Commit commit) known names = tt
find_others first one other (Revise network) known names = tt

both_answer : (networks : ℕ) (first one other : Office) (event : Event) → PromisesAgree one → PromisesAgree other → NamesNoneClosed first event → KnowTheRest first one other
    → GiveBy (KnowTheRest first) (after_call networks one event) (after_call networks other event)
both_answer networks first one other event h g names known = event_same (KnowTheRest first) (rest_lasts first) networks one other event h g (find_others first one other event known names) known

-- ---- events that are accepted

-- where the one answers with an office, so does the other
record IsOkToo (R : Office → Office → Type 0) (one : Office) (second : Result Office ApplyFault) : Type 0 where
  other : Office
  ok : second ≡ Ok other
  relates : R one other

ok_too : (R : Office → Office → Type 0) (one : Office) (second : Result Office ApplyFault) → GiveBy R (Ok one) second → IsOkToo R one second
ok_too R one (Ok other) h = record { other = other; ok = refl; relates = h }
ok_too R one (Err fault) h = absurd h

-- the office to which the same events lead from the other one
record LeadsToo (networks : ℕ) (first other : Office) (events : List Event) (after : Office) : Type 0 where
  last : Office
  leads : Leads networks other events last
  known : KnowTheRest first after last

leads_too : (networks : ℕ) (first one other : Office) (events : List Event) (after : Office) → PromisesAgree one → PromisesAgree other → KnowTheRest first one other → All (NamesNoneClosed first) events → Leads networks one events after
    → LeadsToo networks first other events after
leads_too networks first one other [] after h g known names leads = record {
  last = other;
  leads = refl;
  known = subst (λ (office : Office). KnowTheRest first office other) (sym leads) known;
}
leads_too networks first one other (event ∷ events) after h g known names leads =
    let next = leads.0 in
    let named : NamesNoneClosed first event = All-head (NamesNoneClosed first) event events names in
    let both : GiveBy (KnowTheRest first) (Ok next) (after_call networks other event) =
    subst (λ (r : Result Office ApplyFault). GiveBy (KnowTheRest first) r (after_call networks other event)) leads.1.1 (both_answer networks first one other event h g named known) in
    let too = ok_too (KnowTheRest first) next (after_call networks other event) both in
    let step : Steps networks other event too.other = (possible_by networks other event (promised_on one other event h g known.alike (promised_by networks one event leads.1.0)) (answered_ok (after_call networks other event) too.other too.ok), too.ok) in
    let rest = leads_too networks first next too.other events after (step_kept networks one event next leads.1 h).promises (step_kept networks other event too.other step g).promises too.relates
    (All-tail (NamesNoneClosed first) event events names) leads.2 in
    record { last = rest.last; leads = (too.other, step, rest.leads); known = rest.known }

pub nothing_lost : NothingIsLost
nothing_lost networks office events after agree names leads =
    let too = leads_too networks office office (compact office) events after agree (compact_agrees office agree) (compact_knows office agree) names leads in
    (too.last, too.leads, too.known.alike)

pub nothing_added : NothingIsAdded
nothing_added networks office events after agree names leads =
    let too = leads_too networks office (compact office) office events after (compact_agrees office agree) agree (turned office (compact office) (compact_knows office agree)) names leads in
    (too.last, too.leads, too.known.alike)

-- ---- events of which some are refused

agree_by : (networks : ℕ) (office : Office) (event : Event) (r : Result Office ApplyFault) → after_call networks office event ≡ r → IsPromised office event → PromisesAgree office → PromisesAgree (result_unwrap_or r office)
agree_by networks office event (Ok new) is can agree = (step_kept networks office event new (possible_by networks office event can (answered_ok _ new is), is) agree).promises
agree_by networks office event (Err fault) is can agree = agree

agree_after : (networks : ℕ) (office : Office) (event : Event) → IsPromised office event → PromisesAgree office → PromisesAgree (after_event networks office event)
agree_after networks office event can agree = agree_by networks office event (after_call networks office event) refl can agree

next_by : (R : Office → Office → Type 0) (one other : Office) (first second : Result Office ApplyFault) → GiveBy R first second → R one other → R (result_unwrap_or first one) (result_unwrap_or second other)
next_by R one other (Ok next) (Ok next') both h = both
next_by R one other (Err fault) (Err fault') both h = h
next_by R one other (Ok next) (Err fault) both h = absurd both
next_by R one other (Err fault) (Ok next) both h = absurd both

refused_by : (R : Office → Office → Type 0) (first second : Result Office ApplyFault) → GiveBy R first second → result_err first ≡ result_err second
refused_by R (Ok next) (Ok next') both = refl
refused_by R (Err fault) (Err fault') both = ap Some both
refused_by R (Ok next) (Err fault) both = absurd both
refused_by R (Err fault) (Ok next) both = absurd both

cons_same : (first second : Option ApplyFault) (faults faults' : List (Option ApplyFault)) → first ≡ second → faults ≡ faults' → first ∷ faults ≡ second ∷ faults'
cons_same first second faults faults' e f = cc

record EndToo (networks : ℕ) (first one other : Office) (events : List Event) : Type 0 where
  refused : refusals networks one events ≡ refusals networks other events
  known : KnowTheRest first (after_events networks one events) (after_events networks other events)

end_too : (networks : ℕ) (first one other : Office) (events : List Event) → PromisesAgree one → PromisesAgree other → KnowTheRest first one other → All (NamesNoneClosed first) events → ArePromised networks one events
    → EndToo networks first one other events
end_too networks first one other [] h g known names can = record { refused = refl; known = known }
end_too networks first one other (event ∷ events) h g known names can =
    let answer = after_call networks one event in
    let answer' = after_call networks other event in
    let named : NamesNoneClosed first event = All-head (NamesNoneClosed first) event events names in
    let promised : IsPromised one event = can [] event events refl in
    let both = both_answer networks first one other event h g named known in
    let next = after_event networks one event in
    let next' = after_event networks other event in
    let rest = end_too networks first next next' events (agree_after networks one event promised h) (agree_after networks other event (promised_on one other event h g known.alike promised) g)
    (next_by (KnowTheRest first) one other answer answer' both known) (All-tail (NamesNoneClosed first) event events names)
    (λ before later more is. can (event ∷ before) later more (ap (λ (es : List Event). event ∷ es) is)) in
    record {
      refused = cons_same (result_err answer) (result_err answer') (refusals networks next events) (refusals networks next' events) (refused_by (KnowTheRest first) answer answer' both) rest.refused;
      known = rest.known;
    }

pub no_answer_changes : NoAnswerChanges
no_answer_changes networks office events agree names can =
    let too = end_too networks office office (compact office) events agree (compact_agrees office agree) (compact_knows office agree) names can in
    record { refused = too.refused; after = too.known.alike }

-- ---- closed orders

-- two offices that are alike, of which the one has a closed order of this name
record HasClosed (id : List ℕ) (one other : Office) : Type 0 where
  alike : AreAlike one other
  closed : IsClosed one id

closed_changed : (b : Bool) (f : OrderRowValue → OrderRowValue) (o : Option OrderRowValue) → KeepsClosed f → IsSomeAnd o (λ row. is_open row ≡ false) → IsSomeAnd (cond b (option_map f o) o) (λ row. is_open row ≡ false)
closed_changed b f None keeps h = absurd h
closed_changed true f (Some row) keeps h = keeps row h
closed_changed false f (Some row) keeps h = h

none_closed : (o : Option OrderRowValue) → o ≡ None → IsSomeAnd o (λ row. is_open row ≡ false) → ⊥
none_closed None e h = h
none_closed (Some row) e h = cc e

closed_pushed : (id : List ℕ) (new : OrderRowValue) (rows : List OrderRowValue) (b : Bool) → same id new.text.id ≡ b → order_in rows new.text.id ≡ None → IsSomeAnd (order_in rows id) (λ row. is_open row ≡ false)
    → IsSomeAnd (cond b (Some new) (order_in rows id)) (λ row. is_open row ≡ false)
closed_pushed id new rows true is none h = absurd (none_closed (order_in rows id) (ap (order_in rows) (same_is id new.text.id is) ∙ none) h)
closed_pushed id new rows false is none h = h

closed_lasts : (id : List ℕ) → Lasts (HasClosed id)
closed_lasts id = record {
  alike = λ one other h. h.alike;
  moves = λ one other f h. record { alike = alike_lasts.moves one other f h.alike; closed = h.closed };
  changes = λ one other n f names keeps h. record {
    alike = alike_lasts.changes one other n f names keeps h.alike;
    closed = subst (λ (o : Option OrderRowValue). IsSomeAnd o (λ row. is_open row ≡ false)) (sym (order_in-at n f (λ row e. names row) one.orders id))
        (closed_changed (same n id) f (order_in one.orders id) keeps h.closed);
  };
  places = λ one other text new new' h. record {
    alike = alike_lasts.places one other text new new' h.alike;
    closed = subst (λ (o : Option OrderRowValue). IsSomeAnd o (λ row. is_open row ≡ false)) (sym (order_in-push one.orders (placed_row text) id new))
        (closed_pushed id (placed_row text) one.orders (same id text.id) refl new h.closed);
  };
  revises = λ one other network h. record { alike = alike_lasts.revises one other network h.alike; closed = h.closed };
}

find_itself : (office : Office) (event : Event) → FindTheSame office office event
find_itself office (Message m) = tt
find_itself office (Place text) = refl
find_itself office (Withdraw id) = refl
find_itself office (Commit commit) = tt
find_itself office (Revise network) = tt

closed_after : (networks : ℕ) (office : Office) (event : Event) (new : Office) (id : List ℕ) → Steps networks office event new → PromisesAgree office → IsClosed office id → IsClosed new id
closed_after networks office event new id step agree closed =
    let R = HasClosed id in
    let both : GiveBy R (after_call networks office event) (after_call networks office event) =
    event_same R (closed_lasts id) networks office office event agree agree (find_itself office event) (record { alike = refl; closed = closed }) in
    let one : GiveBy R (Ok new) (after_call networks office event) = subst (λ (r : Result Office ApplyFault). GiveBy R r (after_call networks office event)) step.1 both in
    (ok_too R new (after_call networks office event) one).relates.closed

pub closed_stay : ClosedStayClosed
closed_stay networks office [] after agree leads id closed = subst (λ (o : Office). IsClosed o id) (sym leads) closed
closed_stay networks office (event ∷ events) after agree leads id closed =
    closed_stay networks leads.0 events after (step_kept networks office event leads.0 leads.1 agree).promises leads.2 id (closed_after networks office event leads.0 id leads.1 agree closed)
