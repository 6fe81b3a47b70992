-- The tokens of a commit, as they are written one after the other.
use Rattle.std.proofs.Common.{◌≡◌, ℕ, List, [], ◌∷◌, ◌++◌, codes, refl, ap, ◌∙◌, append_assoc}
use Rattle.json.specs.Token.{Token, begin_object, end_object}
use Rattle.serde_json.specs.Data.{string}
use Rattle.line_fields.specs.Written.{list_data, number_data, pair_data}
use Rattle.line_fields.specs.WrittenTokens.{data_tokens, member_tokens}
use Rattle.move_messages.specs.declared.commit_text.CommitText.{CommitText}
use Rattle.dispatch_sheet.specs.Certificate.{commit_data}

-- ---- the commit, part by part

six_parts : (old a b c d e f : List Token) → (((((old ++ a) ++ b) ++ c) ++ d) ++ e) ++ f ≡ old ++ (a ++ (b ++ (c ++ (d ++ (e ++ f)))))
six_parts old a b c d e f = simp append_assoc refl

pub commit-written : (commit : CommitText) (at : List ℕ) (old t1 t2 t3 t4 t5 t6 : List Token)
    → t1 ≡ old ++ begin_object ∷ member_tokens (codes "at") (string at)
    → t2 ≡ t1 ++ member_tokens (codes "pairs") (list_data pair_data commit.pairs)
    → t3 ≡ t2 ++ member_tokens (codes "type") (string (codes "commit"))
    → t4 ≡ t3 ++ member_tokens (codes "u") (list_data number_data commit.u)
    → t5 ≡ t4 ++ member_tokens (codes "v") (list_data number_data commit.v)
    → t6 ≡ t5 ++ (member_tokens (codes "version") (number_data commit.version) ++ end_object ∷ [])
    → t6 ≡ old ++ data_tokens (commit_data commit at)
commit-written commit at old t1 t2 t3 t4 t5 t6 e1 e2 e3 e4 e5 e6 =
    let a = begin_object ∷ member_tokens (codes "at") (string at) in
    let b = member_tokens (codes "pairs") (list_data pair_data commit.pairs) in
    let c = member_tokens (codes "type") (string (codes "commit")) in
    let d = member_tokens (codes "u") (list_data number_data commit.u) in
    let e = member_tokens (codes "v") (list_data number_data commit.v) in
    let f = member_tokens (codes "version") (number_data commit.version) ++ end_object ∷ [] in
    e6 ∙ ap (λ ts. ts ++ f) (e5 ∙ ap (λ ts. ts ++ e) (e4 ∙ ap (λ ts. ts ++ d) (e3 ∙ ap (λ ts. ts ++ c) (e2 ∙ ap (λ ts. ts ++ b) e1)))) ∙ six_parts old a b c d e f
