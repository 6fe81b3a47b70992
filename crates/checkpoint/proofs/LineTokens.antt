-- The tokens of a line, as they are written one after the other.
use Rattle.std.proofs.Common.{◌≡◌, ℕ, List, [], ◌∷◌, ◌++◌, Option, Some, None, codes, refl, sym, ap, ◌∙◌, append_assoc}
use Rattle.json.specs.Token.{Token, begin_object, end_object}
use Rattle.json.specs.Tree.{members_tokens}
use Rattle.serde_json.specs.Data.{Members, no_members, member, boolean, string}
use Rattle.serde_json.specs.Written.{members_outline}
use Rattle.line_fields.specs.Written.{list_data, number_data}
use Rattle.line_fields.specs.WrittenTokens.{data_tokens, member_tokens}
use Rattle.wagons_and_orders.specs.declared.wagon_row.WagonRow.{WagonRow}
use Rattle.wagons_and_orders.specs.OrderRow.{OrderRowValue}
use Rattle.checkpoint.specs.Limits.{line_format}
use Rattle.checkpoint.specs.LineWriting.{head_data, order_data, text_if_there, wagon_data}
use Rattle.checkpoint.specs.inner.Written.{order_back, order_front, tokens_if_there, wagon_back, wagon_front}

-- ---- parts behind one another

pub two-written : (old t1 t2 a b : List Token) → t1 ≡ old ++ a → t2 ≡ t1 ++ b → t2 ≡ old ++ (a ++ b)
two-written old t1 t2 a b e1 e2 = e2 ∙ ap (λ ts. ts ++ b) e1 ∙ append_assoc old a b

pub five-written : (old t1 t2 t3 t4 t5 a b c d e : List Token) → t1 ≡ old ++ a → t2 ≡ t1 ++ b → t3 ≡ t2 ++ c → t4 ≡ t3 ++ d → t5 ≡ t4 ++ e
    → t5 ≡ old ++ (a ++ (b ++ (c ++ (d ++ e))))
five-written old t1 t2 t3 t4 t5 a b c d e e1 e2 e3 e4 e5 =
    two-written old t1 t5 a (b ++ (c ++ (d ++ e))) e1 (two-written t1 t2 t5 b (c ++ (d ++ e)) e2 (two-written t2 t3 t5 c (d ++ e) e3 (two-written t3 t4 t5 d e e4 e5)))

pub six-written : (old t1 t2 t3 t4 t5 t6 a b c d e f : List Token) → t1 ≡ old ++ a → t2 ≡ t1 ++ b → t3 ≡ t2 ++ c → t4 ≡ t3 ++ d → t5 ≡ t4 ++ e → t6 ≡ t5 ++ f
    → t6 ≡ old ++ (a ++ (b ++ (c ++ (d ++ (e ++ f)))))
six-written old t1 t2 t3 t4 t5 t6 a b c d e f e1 e2 e3 e4 e5 e6 =
    two-written old t1 t6 a (b ++ (c ++ (d ++ (e ++ f)))) e1 (five-written t1 t2 t3 t4 t5 t6 b c d e f e2 e3 e4 e5 e6)

-- ---- the parts of a line

-- a member that may not be there
if_there-tokens : (name : List ℕ) (text : Option (List ℕ)) (others : Members) → members_tokens (members_outline (text_if_there name text others)) ≡ tokens_if_there name text ++ members_tokens (members_outline others)
if_there-tokens name None others = refl
if_there-tokens name (Some text) others = refl

pub head-parts : (network : ℕ) (newest : Option (List ℕ))
    → (begin_object ∷ member_tokens (codes "type") (string (codes "checkpoint"))) ++ (member_tokens (codes "format") (number_data line_format)
    ++ (member_tokens (codes "network") (number_data network) ++ (tokens_if_there (codes "newest") newest ++ end_object ∷ [])))
    ≡ data_tokens (head_data network newest)
head-parts network None = refl
head-parts network (Some text) = refl

pub wagon-parts : (row : WagonRow) (ready : Option (List ℕ)) (last : List ℕ) → wagon_front row ++ wagon_back row ready last ≡ data_tokens (wagon_data row ready last)
wagon-parts row ready last =
    let promised = text_if_there (codes "promise") row.promise no_members in
    let behind = member (codes "last") (string last) (member (codes "held") (boolean row.held) promised) in
    let back =
    ap (λ ts. tokens_if_there (codes "ready") ready ++ (member_tokens (codes "last") (string last) ++ (member_tokens (codes "held") (boolean row.held) ++ ts)))
    (sym (if_there-tokens (codes "promise") row.promise no_members)) in
    ap (λ ts. wagon_front row ++ ts) (back ∙ sym (if_there-tokens (codes "ready") ready behind))

pub order-parts : (row : OrderRowValue) (latest : List ℕ) → order_front row ++ order_back row latest ≡ data_tokens (order_data row latest)
order-parts row latest =
    let begun =
    (begin_object ∷ member_tokens (codes "type") (string (codes "order"))) ++ (member_tokens (codes "order") (string row.text.id)
    ++ (member_tokens (codes "place") (string row.text.place) ++ member_tokens (codes "classes") (list_data string row.text.classes))) in
    append_assoc begun (member_tokens (codes "load") (number_data row.text.load)) (order_back row latest)
