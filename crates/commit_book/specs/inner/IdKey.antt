-- The ids of messages as numbers.
use Rattle.std.specs.Prelude.{◌≡◌, ℕ, ◌<◌, ◌/◌, ◌%◌, nat_eq}
use Rattle.std.specs.Cmp.{IsTotalOrder, both_tied, nat_cmp_total, on_total, then_total, unsigned_ties}
use Rattle.std.specs.Cmp.Lexicographic.{on_texts, pointwise, slice_cmp, texts_ties}
use Rattle.std.specs.Int.{to_be_bytes, w32}
use Rattle.std.specs.Ordering.{eq_by_cmp, nat_cmp}
use Rattle.std.specs.Str.{IsAscii}
use Rattle.rail_codes.specs.declared.message_id.MessageId.{MessageId}
use Rattle.commit_book.specs.inner.Ledger.{compare_ids, is_id}

-- the id that a number of 64 bits is: the company's characters are its upper half, the company's number for the message the lower
abbrev pub id_in : ℕ → MessageId
id_in key = record { company = to_be_bytes w32 (key / 4294967296); number = key % 4294967296 }

-- a number that is an id
pub record IsIdKey (key : ℕ) : Type 0 where
  pub bits : key < 18446744073709551616
  pub ascii : IsAscii (id_in key).company

-- ---- the laws of the order of ids

pub ids_ordered : IsTotalOrder compare_ids
ids_ordered = then_total (on_texts (λ (id : MessageId). id.company)) (on_total (λ (id : MessageId). id.number) nat_cmp_total)

-- ids that compare equal are one
pub ids_tie : (a b : MessageId) → is_id a b ≡ eq_by_cmp compare_ids a b
ids_tie a b = both_tied (pointwise nat_eq a.company b.company) (nat_eq a.number b.number) (slice_cmp nat_cmp a.company b.company) (nat_cmp a.number b.number) (texts_ties a.company b.company) (unsigned_ties a.number b.number)
