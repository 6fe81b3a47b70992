-- Which index is noted for each id of a message.
use Rattle.std.specs.Prelude.{◌≡◌, ◌++◌, ◌∷◌, [], ℕ, cond, List, Option, Some, None}
use Rattle.std.specs.BTreeMap.{get}
use Rattle.std.specs.Option.{option_or}
use Rattle.std.specs.Ordering.{is_eq}
use Rattle.rail_codes.specs.declared.message_id.MessageId.{MessageId}
use Rattle.commit_book.specs.inner.Ledger.{compare_ids}
use Rattle.commit_book.specs.inner.Noted.{index_in}
use Rattle.commit_book.specs.declared.message_ids.MessageIds.{MessageIds}
use Rattle.commit_book.specs.declared.rising_ids.Noted.{Noted}
use Rattle.commit_book.specs.declared.rising_ids.NoteEntry.{NoteEntry}
use Rattle.commit_book.specs.declared.rising_ids.NoteEntry.TheVariants.{Entered, Within}

-- the id that stands for a company: it has the number 0
abbrev pub company_id : MessageId → MessageId
company_id id = record { company = id.company; number = 0 }

-- the index that a company's notes, where there are any, have for a number
abbrev pub index_among : Option (List Noted) → (number : ℕ) → Option ℕ
index_among None number = None
index_among (Some notes) number = index_in notes number

-- the index that is noted for an id, by the notes of companies or among the other ids
abbrev pub index_by : (rising : MessageId → Option (List Noted)) → (others : MessageId → Option ℕ) → MessageId → Option ℕ
index_by rising others id = option_or (index_among (rising (company_id id)) id.number) (others id)

abbrev pub index_of : MessageIds → MessageId → Option ℕ
index_of ids = index_by (get compare_ids ids.rising) (get compare_ids ids.others)

-- one more note, behind those of a company
abbrev pub with_note : Option (List Noted) → Noted → List Noted
with_note None note = note ∷ []
with_note (Some notes) note = notes ++ note ∷ []

-- an index is noted for an id, and nothing else changes
abbrev pub IsNotedFor : (old new : MessageId → Option ℕ) → MessageId → (index : ℕ) → Type 0
IsNotedFor old new id index = (q : MessageId) → new q ≡ cond (is_eq (compare_ids id q)) (Some index) (old q)

-- what came of a note of an id among those of companies: it is the last one of its company; or it isn't, and this is what is
-- noted for it
abbrev pub AreEntered : (old new : MessageId → Option (List Noted)) → MessageId → Noted → NoteEntry → Type 0
AreEntered old new id note Entered =
    (index_among (old (company_id id)) note.number ≡ None) × ((q : MessageId) → new q ≡ cond (is_eq (compare_ids (company_id id) q)) (Some (with_note (old (company_id id)) note)) (old q))
AreEntered old new id note (Within known) = (known ≡ index_among (old (company_id id)) note.number) × ((q : MessageId) → new q ≡ old q)

-- an index is noted for an id for which none was, or one was known and nothing changes
abbrev pub IsNotedUnless : (known : Option ℕ) → (old new : MessageId → Option ℕ) → MessageId → (index : ℕ) → Type 0
IsNotedUnless None old new id index = (old id ≡ None) × IsNotedFor old new id index
IsNotedUnless (Some known) old new id index = (old id ≡ Some known) × ((q : MessageId) → new q ≡ old q)
