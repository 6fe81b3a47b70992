-- The line of a commit: that it reads as the commit.
use Rattle.std.proofs.Common.{◌≡◌, ℕ, ◌-◌, ◌^◌, ◌<◌, ◌≤◌, List, [], ◌∷◌, map, Some, Ok, refl, ap, arith}
use Rattle.std.specs.Prelude.{option_map}
use Rattle.std.specs.List.{AllByRecursion}
use Rattle.std.specs.Str.{IsUtf8}
use Rattle.std.proofs.lemmas.List.Elements.{recursion_from_All}
use Rattle.json.specs.Lex.{tokens}
use Rattle.json.specs.Tree as tree
use Rattle.serde_json.specs.Data.{item}
use Rattle.serde_json.specs.Read.{of_items, of_json, read, max_depth}
use Rattle.serde_json.specs.View.{items_of}
use Rattle.serde_json.specs.Written.{items_outline, outline}
use Rattle.serde_json.proofs.Numbers.{number_of-decimal}
use Rattle.rail_codes.specs.Moment.{moment_of}
use Rattle.line_fields.specs.Values.{list_of_each, number_within, text_of, wagon_and_order}
use Rattle.line_fields.specs.Written.{list_data, number_data, pair_data}
use Rattle.line_fields.specs.Field.{field_name}
use Rattle.line_fields.specs.Fields.{member, field_of}
use Rattle.line_fields.proofs.Lines.{object_of-ok}
use Rattle.line_fields.proofs.Writing.{list-reads, moment-reads, number_reads}
use Rattle.line_fields.proofs.WrittenTokens.{read-tokens}
use Rattle.move_messages.specs.declared.commit_text.CommitText.{CommitText}
use Rattle.line_fields.specs.declared.command.Command.TheVariants.{Event}
use Rattle.move_messages.specs.declared.event.Event.TheVariants.{Commit}
use Rattle.line_fields.specs.LineType.{line_type_of, type_name}
use Rattle.line_fields.specs.Commands.{command_of, command_of_type, commit_text_of, max_version}
use Rattle.dispatch_sheet.specs.Certificate.{commit_data}
use Rattle.dispatch_sheet.specs.inner.Readable.{AreReadablePrices, IsReadable}
use Rattle.line_fields.specs.WrittenTokens.{data_tokens}

-- ---- it nests little

pairs_nest : (pairs : List (List ℕ × List ℕ)) → tree.depth (outline (list_data pair_data pairs)) ≤ 2
pairs_nest [] = omega arith
pairs_nest (p ∷ pairs) = let more = pairs_nest pairs in omega arith

prices_nest : (prices : List ℕ) → tree.depth (outline (list_data number_data prices)) ≤ 1
prices_nest [] = omega arith
prices_nest (p ∷ prices) = let more = prices_nest prices in omega arith

commit_nests : (commit : CommitText) (at : List ℕ) → tree.depth (outline (commit_data commit at)) ≤ max_depth
commit_nests commit at =
    let pairs = pairs_nest commit.pairs in
    let u = prices_nest commit.u in
    let v = prices_nest commit.v in
    omega arith

-- ---- its tokens spell it

pairs_spell : (pairs : List (List ℕ × List ℕ)) → of_items (items_outline (items_of (map pair_data pairs))) ≡ Some (items_of (map pair_data pairs))
pairs_spell [] = refl
pairs_spell (p ∷ pairs) = ap (option_map (item (pair_data p))) (pairs_spell pairs)

prices_spell : (prices : List ℕ) → AllByRecursion (λ price. price < 2 ^ 64) prices → of_items (items_outline (items_of (map number_data prices))) ≡ Some (items_of (map number_data prices))
prices_spell [] fit = refl
prices_spell (p ∷ prices) fit = rw (number_of-decimal p fit.0, prices_spell prices fit.1) refl

commit_spells : (commit : CommitText) (at : List ℕ) → IsReadable commit → of_json (outline (commit_data commit at)) ≡ Some (commit_data commit at)
commit_spells commit at readable =
    let small = λ (price : ℕ). price < 2 ^ 64 in
    rw (pairs_spell commit.pairs, prices_spell commit.u (recursion_from_All small commit.u readable.u), prices_spell commit.v (recursion_from_All small commit.v readable.v), number_of-decimal commit.version (omega (arith, readable.version))) refl

-- ---- the value reads as the commit

prices-read : (prices : List ℕ) → AreReadablePrices prices → list_of_each (number_within 0 (2 ^ 64 - 1)) (list_data number_data prices) ≡ Ok prices
prices-read prices fit = list-reads (number_within 0 (2 ^ 64 - 1)) number_data prices (λ k d lt. number_reads 0 (2 ^ 64 - 1) _ (omega arith) (omega (arith, fit k d lt)))

commit-reads : (commit : CommitText) (at : List ℕ) → IsReadable commit → moment_of at ≡ Ok commit.at → commit_text_of (commit_data commit at) ≡ Ok commit
unfolding commit_text_of field_of member field_name
commit-reads commit at readable moment =
    let version = number_reads 0 max_version commit.version (omega arith) readable.version in
    rw (version, moment-reads at commit.at moment, list-reads wagon_and_order pair_data commit.pairs readable.pairs, prices-read commit.u readable.u, prices-read commit.v readable.v) refl

command-reads : (bytes : List ℕ) (commit : CommitText) (at : List ℕ) → IsUtf8 bytes → read bytes ≡ Some (commit_data commit at) → commit_text_of (commit_data commit at) ≡ Ok commit → command_of bytes ≡ Ok (Event (Commit commit))
unfolding command_of command_of_type field_of member field_name text_of line_type_of type_name
command-reads bytes commit at utf8 is reads = rw (object_of-ok bytes (commit_data commit at) utf8 is refl, reads) refl

-- a text of the commit's tokens
pub line-reads : (bytes : List ℕ) (commit : CommitText) (at : List ℕ) → IsUtf8 bytes → tokens bytes ≡ data_tokens (commit_data commit at) → IsReadable commit → moment_of at ≡ Ok commit.at → command_of bytes ≡ Ok (Event (Commit commit))
line-reads bytes commit at utf8 same readable moment =
    command-reads bytes commit at utf8 (read-tokens (outline (commit_data commit at)) (commit_data commit at) bytes same (commit_nests commit at) (commit_spells commit at readable)) (commit-reads commit at readable moment)
