-- What the index of the messages finds.
use Rattle.std.proofs.Common.{◌≡◌, ◌∙◌, ℕ, zero, suc, ◌+◌, Bool, true, false, cond, List, [], ◌∷◌, ◌++◌, length, Option, Some, None, Result, Ok, Err, refl, sym, ap, arith, position, true≢false}
use Rattle.std.specs.Prelude.{◌&&◌, IfNone, IfOk, IfSome, OnErr, nat_eq, slice_get}
use Rattle.std.specs.declared.alloc.AllocError.{AllocError}
use Rattle.std.specs.Cmp.Lexicographic.{pointwise, bytes_decides}
use Rattle.std.specs.List.{position_from}
use Rattle.std.specs.Ordering.{is_eq}
use Rattle.std.proofs.lemmas.Bool.Decides.{nat_tests}
use Rattle.std.proofs.lemmas.Iterator.Adapters.{position_from-zero}
use Rattle.rail_codes.specs.declared.message_id.MessageId.{MessageId}
use Rattle.move_messages.specs.declared.message.Message as movement
use Rattle.fleet_rows.proofs.Named.{position-new, position-push}
use Rattle.move_messages.specs.declared.event.Event.{Event}
use Rattle.move_messages.specs.declared.event.Event.TheVariants.{Message, Place, Withdraw, Commit, Revise}
use Rattle.commit_book.specs.History.{IsFresh}
use Rattle.commit_book.specs.inner.IdKey.{ids_tie}
use Rattle.commit_book.specs.inner.Ledger.{HasNoted, IsIndexOf, IsMessageAt, IsNoMessage, IsNoted, compare_ids, is_id, is_message_of}
use Rattle.commit_book.specs.inner.MessageIds.{IsNotedUnless}

-- ---- ids compared

both_true : (a b : Bool) → (a && b) ≡ true → (a ≡ true) × (b ≡ true)
both_true true b h = (refl, h)
both_true false b h = absurd cc

pub id_same : (a b : MessageId) → is_id a b ≡ true → a ≡ b
id_same a b h =
    let t = both_true (pointwise nat_eq a.company b.company) (nat_eq a.number b.number) h in
    let company : a.company ≡ b.company = (bytes_decides a.company b.company).0 t.0 in
    let number : a.number ≡ b.number = grind (arith, nat_tests, t) in
    let fields : ◌≡◌ {A = MessageId} (record { company = a.company; number = a.number }) (record { company = b.company; number = b.number }) = rw (company, number) refl in
    fields

pub id_self : (a : MessageId) → is_id a a ≡ true
id_self a =
    let company : pointwise nat_eq a.company a.company ≡ true = (bytes_decides a.company a.company).1 refl in
    let number : nat_eq a.number a.number ≡ true = grind (arith, nat_tests) in
    rw (company, number) refl

both_ways : (a b : Bool) → (a ≡ true → b ≡ true) → (b ≡ true → a ≡ true) → a ≡ b
both_ways true b h g = sym (h refl)
both_ways false true h g = g refl
both_ways false false h g = refl

by_test : (b : Bool) → (b ≡ true → ⊥) → b ≡ false
by_test true h = absurd (h refl)
by_test false h = refl

pub id_ties : (a b : MessageId) → is_eq (compare_ids a b) ≡ is_id a b
id_ties a b = sym (ids_tie a b)

-- ---- the index of a message

-- a message at an index, which has this id
pub record IsAt (id : MessageId) (events : List Event) (first index : ℕ) : Type 0 where
  pub n : ℕ
  pub from_first : index ≡ first + n
  pub its_message : movement.Message
  pub there : slice_get events n ≡ Some (Message its_message)
  pub passes : is_id id its_message.id ≡ true

later : (id : MessageId) (event : Event) (events : List Event) (first index : ℕ) → IsAt id events (first + 1) index → IsAt id (event ∷ events) first index
later id event events first index h = record { n = suc h.n; from_first = omega (arith, h.from_first); its_message = h.its_message; there = h.there; passes = h.passes }

found_here : (id : MessageId) (m : movement.Message) (events : List Event) (first index : ℕ) (b : Bool) → is_id id m.id ≡ b → cond b (Some first) (position_from (is_message_of id) (first + 1) events) ≡ Some index
    → (position_from (is_message_of id) (first + 1) events ≡ Some index → IsAt id events (first + 1) index) → IsAt id (Message m ∷ events) first index
found_here id m events first index true is h rest =
    let same : first ≡ index = cc in
    record { n = 0; from_first = omega (arith, same); its_message = m; there = refl; passes = is }
found_here id m events first index false is h rest = later id (Message m) events first index (rest h)

found_from : (id : MessageId) (events : List Event) (first index : ℕ) → position_from (is_message_of id) first events ≡ Some index → IsAt id events first index
found_from id [] first index h = absurd cc
found_from id (Message m ∷ events) first index h = found_here id m events first index (is_id id m.id) refl h (λ e. found_from id events (first + 1) index e)
found_from id (Place text ∷ events) first index h = later id (Place text) events first index (found_from id events (first + 1) index h)
found_from id (Withdraw other ∷ events) first index h = later id (Withdraw other) events first index (found_from id events (first + 1) index h)
found_from id (Commit commit ∷ events) first index h = later id (Commit commit) events first index (found_from id events (first + 1) index h)
found_from id (Revise network ∷ events) first index h = later id (Revise network) events first index (found_from id events (first + 1) index h)

none_here : (b : Bool) (first : ℕ) (rest : Option ℕ) → cond b (Some first) rest ≡ None → (b ≡ false) × (rest ≡ None)
none_here true first rest h = absurd cc
none_here false first rest h = (refl, h)

-- no message has the id where nothing is found
no_id : (id : MessageId) (events : List Event) (first : ℕ) → position_from (is_message_of id) first events ≡ None → (n : ℕ) (m : movement.Message) → slice_get events n ≡ Some (Message m) → is_id id m.id ≡ false
no_id id [] first h n m is = absurd cc
no_id id (Message x ∷ events) first h zero m is =
    let same : x ≡ m = cc in ap (λ (y : movement.Message). is_id id y.id) (sym same) ∙ (none_here (is_id id x.id) first (position_from (is_message_of id) (first + 1) events) h).0
no_id id (Message x ∷ events) first h (suc n) m is = no_id id events (first + 1) (none_here (is_id id x.id) first (position_from (is_message_of id) (first + 1) events) h).1 n m is
no_id id (Place text ∷ events) first h zero m is = absurd cc
no_id id (Place text ∷ events) first h (suc n) m is = no_id id events (first + 1) h n m is
no_id id (Withdraw other ∷ events) first h zero m is = absurd cc
no_id id (Withdraw other ∷ events) first h (suc n) m is = no_id id events (first + 1) h n m is
no_id id (Commit commit ∷ events) first h zero m is = absurd cc
no_id id (Commit commit ∷ events) first h (suc n) m is = no_id id events (first + 1) h n m is
no_id id (Revise network ∷ events) first h zero m is = absurd cc
no_id id (Revise network ∷ events) first h (suc n) m is = no_id id events (first + 1) h n m is

-- the converse: nothing is found where no message has the id
unfound : (id : MessageId) (events : List Event) (first : ℕ) → ((n : ℕ) (m : movement.Message) → slice_get events n ≡ Some (Message m) → is_id id m.id ≡ false) → position_from (is_message_of id) first events ≡ None
unfound id [] first h = refl
unfound id (Message m ∷ events) first h = rw (h 0 m refl) (unfound id events (first + 1) (λ n x is. h (suc n) x is))
unfound id (Place text ∷ events) first h = unfound id events (first + 1) (λ n x is. h (suc n) x is)
unfound id (Withdraw other ∷ events) first h = unfound id events (first + 1) (λ n x is. h (suc n) x is)
unfound id (Commit commit ∷ events) first h = unfound id events (first + 1) (λ n x is. h (suc n) x is)
unfound id (Revise network ∷ events) first h = unfound id events (first + 1) (λ n x is. h (suc n) x is)

pub fresh_by : (id : MessageId) (events : List Event) → position (is_message_of id) events ≡ None → IsFresh id events
fresh_by id events h n other is same =
    let none = no_id id events 0 (sym (position_from-zero (is_message_of id) events) ∙ h) n other is in
    let there : is_id id other.id ≡ true = ap (λ (x : MessageId). is_id id x) same ∙ id_self id in
    true≢false (sym there ∙ none)

unfound_by : (id : MessageId) (events : List Event) → IsFresh id events → position (is_message_of id) events ≡ None
unfound_by id events fresh = position_from-zero (is_message_of id) events ∙ unfound id events 0 (λ n m is. by_test (is_id id m.id) (λ same. fresh n m is (sym (id_same id m.id same))))

-- ---- one more event

is_id-sym : (a b : MessageId) → is_id a b ≡ is_id b a
is_id-sym a b = both_ways (is_id a b) (is_id b a) (λ h. ap (λ (x : MessageId). is_id b x) (id_same a b h) ∙ id_self b) (λ h. ap (λ (x : MessageId). is_id a x) (id_same b a h) ∙ id_self a)

place_in : (events : List Event) (m : movement.Message) (q : MessageId) (old : Option ℕ) (b : Bool) → is_id m.id q ≡ b → IsFresh m.id events → old ≡ position (is_message_of q) events
    → cond b (Some (length events)) old ≡ position (is_message_of q) (events ++ Message m ∷ [])
place_in events m q old true is fresh h =
    let same : m.id ≡ q = id_same m.id q is in
    let none : position (is_message_of q) events ≡ None = ap (λ (x : MessageId). position (is_message_of x) events) (sym same) ∙ unfound_by m.id events fresh in
    sym (position-new (is_message_of q) events (Message m) (is_id-sym q m.id ∙ is) none)
place_in events m q old false is fresh h = h ∙ sym (position-push (is_message_of q) events (Message m) (is_id-sym q m.id ∙ is))

-- the index with one more message
index_push : (events : List Event) (m : movement.Message) (old new : MessageId → Option ℕ) → IsFresh m.id events → IsIndexOf events old
    → ((q : MessageId) → new q ≡ cond (is_eq (compare_ids m.id q)) (Some (length events)) (old q)) → IsIndexOf (events ++ Message m ∷ []) new
index_push events m old new fresh h with_m q =
    with_m q ∙ (ap (λ (b : Bool). cond b (Some (length events)) (old q)) (id_ties m.id q) ∙ place_in events m q (old q) (is_id m.id q) refl fresh (h q))

-- an event that is no message has no id
no_message : (event : Event) (q : MessageId) → IsNoMessage event → is_message_of q event ≡ false
no_message (Message m) q h = absurd h
no_message (Place text) q h = refl
no_message (Withdraw id) q h = refl
no_message (Commit commit) q h = refl
no_message (Revise network) q h = refl

pub index_stays : (events : List Event) (event : Event) (index : MessageId → Option ℕ) → IsNoMessage event → IsIndexOf events index → IsIndexOf (events ++ event ∷ []) index
index_stays events event index other h q = h q ∙ sym (position-push (is_message_of q) events event (no_message event q other))

-- ---- a message of a noted id

-- the first index of an id is that of a message of it
pub message_found : (id : MessageId) (events : List Event) (index : ℕ) → position (is_message_of id) events ≡ Some index → IsMessageAt events id index
message_found id events index h =
    let at = found_from id events 0 index (sym (position_from-zero (is_message_of id) events) ∙ h) in
    let same : at.n ≡ index = let from = at.from_first in omega (arith, from) in
    record {
      message = at.its_message;
      there = ap (λ (k : ℕ). slice_get events k) (sym same) ∙ at.there;
      its_id = sym (id_same id at.its_message.id at.passes);
    }

-- an id that no message has was noted behind the events
pub index_noted : (events : List Event) (id : MessageId) (old new : MessageId → Option ℕ) → IsIndexOf events old → old id ≡ None → ((q : MessageId) → new q ≡ cond (is_eq (compare_ids id q)) (Some (length events)) (old q)) → HasNoted events id new
index_noted events id old new h none noted =
    let fresh = fresh_by id events (sym (h id) ∙ none) in
    record { fresh = fresh; behind = λ m same. index_push events m old new (rw same fresh) h (λ q. rw same (noted q)) }

pub is_found : (id : MessageId) (events : List Event) (o : Option ℕ) → o ≡ position (is_message_of id) events → IfSome o (λ index. IsMessageAt events id index)
is_found id events (Some index) h = message_found id events index (sym h)
is_found id events None h = tt

pub is_new : (id : MessageId) (events : List Event) (o : Option ℕ) → o ≡ position (is_message_of id) events → IfNone o (IsFresh id events)
is_new id events None h = fresh_by id events (sym h)
is_new id events (Some index) h = tt

-- what came of noting the index behind the events for an id
pub noted_by : (events : List Event) (id : MessageId) (old new : MessageId → Option ℕ) (index : ℕ) (result : Result (Option ℕ) AllocError) → IsIndexOf events old → index ≡ length events
    → IfOk result (λ known. IsNotedUnless known old new id index) → OnErr result (old id ≡ None) → OnErr result ((q : MessageId) → new q ≡ old q) → IsNoted events id result new
noted_by events id old new index (Ok None) h behind noted fresh refused = index_noted events id old new h noted.0 (λ q. noted.1 q ∙ ap (λ (k : ℕ). cond (is_eq (compare_ids id q)) (Some k) (old q)) behind)
noted_by events id old new index (Ok (Some known)) h behind noted fresh refused = (message_found id events known (sym (h id) ∙ noted.0), λ q. noted.1 q ∙ h q)
noted_by events id old new index (Err error) h behind noted fresh refused = (fresh_by id events (sym (h id) ∙ fresh), λ q. refused q ∙ h q)
