-- Ids as numbers.
use Rattle.std.proofs.Common.{◌≡◌, ◌∙◌, ℕ, ◌+◌, ◌*◌, ◌<◌, List, [], eqb-true, length, take, arith, refl, sym, subst, ap}
use Rattle.std.specs.Prelude.{◌/◌, ◌%◌, ◌&&◌, ◌==◌, Bool, false, true}
use Rattle.std.specs.Array.{IsFirstChunk}
use Rattle.std.specs.List.{list_all}
use Rattle.rail_codes.specs.Company.{IsCompany, is_company_character}
use Rattle.std.specs.Cmp.Lexicographic.{slice_cmp}
use Rattle.std.specs.Int.{from_be_bytes, to_be_bytes, w32}
use Rattle.std.specs.Ordering.{nat_cmp, ordering_then}
use Rattle.std.specs.Str.{IsAscii}
use Rattle.std.specs.declared.cmp.Ordering.{Ordering}
use Rattle.std.specs.declared.cmp.Ordering.TheVariants.{Less, Equal, Greater}
use Rattle.std.proofs.Math.Seq.{take-length}
use Rattle.std.proofs.lemmas.Bool.Decides.{nat_tests}
use Rattle.std.proofs.lemmas.Nat.{be_bytes_4, from_be_bytes-to_be_bytes_4}
use Rattle.rail_codes.proofs.Words.{by_four}
use Rattle.rail_codes.specs.declared.message_id.MessageId.{MessageId}
use Rattle.commit_book.specs.inner.IdKey.{IsIdKey, id_in}
use Rattle.commit_book.specs.inner.Ledger.{compare_ids}

-- ---- numbers of 64 bits in two halves

halves : (a : ℕ) → a ≡ a / 4294967296 * 4294967296 + a % 4294967296
halves a = omega arith

by_halves : (x y b c : ℕ) → b < 4294967296 → c < 4294967296 → nat_cmp (x * 4294967296 + b) (y * 4294967296 + c) ≡ ordering_then (nat_cmp x y) (nat_cmp b c)
by_halves x y b c few few_too = grind (arith, nat_tests)

then_equal : (o : Ordering) → ordering_then o Equal ≡ o
then_equal Less = refl
then_equal Equal = refl
then_equal Greater = refl

-- numbers are ordered as their bytes are
as_bytes : (x y : ℕ) → x < 4294967296 → y < 4294967296 → IsAscii (to_be_bytes w32 x) → IsAscii (to_be_bytes w32 y) → slice_cmp nat_cmp (to_be_bytes w32 x) (to_be_bytes w32 y) ≡ nat_cmp x y
as_bytes x y few few_too ascii ascii_too =
    let one = from_be_bytes-to_be_bytes_4 x few in
    let two = from_be_bytes-to_be_bytes_4 y few_too in
    by_four (to_be_bytes w32 x) (to_be_bytes w32 y) (to_be_bytes w32 x) [] (to_be_bytes w32 y) [] (nat_cmp x y) (refl, refl, refl) (refl, refl, refl) ascii ascii_too (rw (one, two) refl)
    ∙ then_equal (nat_cmp x y)

-- ids are ordered as their numbers are
pub number_order : (a b : ℕ) → IsIdKey a → IsIdKey b → nat_cmp a b ≡ compare_ids (id_in a) (id_in b)
number_order a b h g =
    let few = h.bits in
    let few_too = g.bits in
    let x = a / 4294967296 in
    let y = b / 4294967296 in
    let low = a % 4294967296 in
    let low_too = b % 4294967296 in
    ap (λ (n : ℕ). nat_cmp n b) (halves a)
    ∙ ap (λ (n : ℕ). nat_cmp (x * 4294967296 + low) n) (halves b)
    ∙ by_halves x y low low_too (omega arith) (omega arith)
    ∙ ap (λ o. ordering_then o (nat_cmp low low_too)) (sym (as_bytes x y (omega (arith, few)) (omega (arith, few_too)) h.ascii g.ascii))

-- the number of an id is read as the id
pub id_back : (id : MessageId) → length id.company ≡ 4 → IsAscii id.company → id.number < 4294967296 → id_in (from_be_bytes w32 id.company * 4294967296 + id.number) ≡ id
id_back id long ascii few =
    let upper = from_be_bytes w32 id.company in
    let halved : (upper * 4294967296 + id.number) / 4294967296 ≡ upper = omega (arith, few) in
    let rest : (upper * 4294967296 + id.number) % 4294967296 ≡ id.number = omega (arith, few) in
    let company : to_be_bytes w32 upper ≡ id.company = be_bytes_4 id.company upper long (λ i. let byte = ascii i in omega (arith, byte)) refl in
    let of_company : List ℕ → MessageId = λ text. record { company = text; number = id.number } in
    let of_upper : ℕ → MessageId = λ n. record { company = to_be_bytes w32 n; number = id.number } in
    let of_number : ℕ → MessageId = λ n. record { company = to_be_bytes w32 ((upper * 4294967296 + id.number) / 4294967296); number = n } in
    ap of_number rest ∙ ap of_upper halved ∙ ap of_company company

-- ---- an id whose bytes are read

both : (a b : Bool) → (a && b) ≡ true → a ≡ true
both true b h = refl
both false b h = absurd cc

four_characters : (text : List ℕ) → IsCompany text → length text ≡ 4
four_characters text is = eqb-true (length text) 4 (both (length text == 4) (list_all is_company_character text) is)

pub id_read : (id : MessageId) (text first : List ℕ) (upper number : ℕ) → text ≡ id.company → IsCompany text → IsAscii text → IsFirstChunk text first 4 → upper ≡ from_be_bytes w32 first → number ≡ id.number → id.number < 4294967296
    → id_in (upper * 4294967296 + number) ≡ id
id_read id text first upper number same is ascii chunk read its few =
    let long = four_characters text is in
    let whole : first ≡ id.company = chunk.same ∙ ap (λ n. take n text) (sym long) ∙ take-length text ∙ same in
    rw (read, its, whole) (id_back id (rw same at long) (rw same at ascii) few)

pub ascii_read : (key : ℕ) (id : MessageId) (text : List ℕ) → id_in key ≡ id → text ≡ id.company → IsAscii text → IsAscii (id_in key).company
ascii_read key id text read same ascii = subst (λ (it : MessageId). IsAscii it.company) (sym read) (rw same at ascii)
