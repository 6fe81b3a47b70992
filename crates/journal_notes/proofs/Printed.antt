-- The text of a note, by the tokens that are written one member after the other.
use Rattle.std.proofs.Common.{◌≡◌, ℕ, List, Option, Some, None, [], ◌∷◌, ◌++◌, refl, ap, ◌∙◌, append_assoc}
use Rattle.json.specs.Print.{print}
use Rattle.json.specs.Token.{Token, end_object}
use Rattle.json.specs.Tree.{members_tokens}
use Rattle.serde_json.specs.Data.{Data, Members, no_members, member}
use Rattle.serde_json.specs.Written.{members_outline}
use Rattle.serde_json.proofs.Texts.{print-outline}
use Rattle.line_fields.specs.WrittenTokens.{member_tokens}
use Rattle.journal_notes.specs.NoteLine.{note_data, object_text}
use Rattle.journal_notes.specs.inner.Front.{front_tokens}

abbrev last : List Token
last = end_object ∷ []

-- the text of the front and of the members behind it
closed : (file : Option ℕ) (line : ℕ) (word : List ℕ) (members : Members) → print (front_tokens file line word ++ members_tokens (members_outline members)) ≡ object_text file line word members
closed None line word members = print-outline (note_data None line word members)
closed (Some number) line word members = print-outline (note_data (Some number) line word members)

two_parts : (f a b : List Token) → (f ++ a) ++ b ≡ f ++ (a ++ b)
two_parts f a b = append_assoc f a b

three_parts : (f a b c : List Token) → ((f ++ a) ++ b) ++ c ≡ f ++ (a ++ (b ++ c))
three_parts f a b c = simp append_assoc refl

four_parts : (f a b c d : List Token) → (((f ++ a) ++ b) ++ c) ++ d ≡ f ++ (a ++ (b ++ (c ++ d)))
four_parts f a b c d = simp append_assoc refl

five_parts : (f a b c d e : List Token) → ((((f ++ a) ++ b) ++ c) ++ d) ++ e ≡ f ++ (a ++ (b ++ (c ++ (d ++ e))))
five_parts f a b c d e = simp append_assoc refl

eight_parts : (f a b c d e g h i : List Token) → (((((((f ++ a) ++ b) ++ c) ++ d) ++ e) ++ g) ++ h) ++ i ≡ f ++ (a ++ (b ++ (c ++ (d ++ (e ++ (g ++ (h ++ i)))))))
eight_parts f a b c d e g h i = simp append_assoc refl

pub one_member : (file : Option ℕ) (line : ℕ) (word a : List ℕ) (d : Data) (t0 t1 : List Token) (text : List ℕ)
    → t0 ≡ front_tokens file line word → t1 ≡ t0 ++ member_tokens a d → text ≡ print (t1 ++ end_object ∷ [])
    → text ≡ object_text file line word (member a d no_members)
one_member file line word a d t0 t1 text e0 e1 is =
    is ∙ ap print (ap (λ (ts : List Token). ts ++ last) (e1 ∙ ap (λ (ts : List Token). ts ++ member_tokens a d) e0) ∙ two_parts (front_tokens file line word) (member_tokens a d) last)
    ∙ closed file line word (member a d no_members)

pub two_members : (file : Option ℕ) (line : ℕ) (word a : List ℕ) (d : Data) (b : List ℕ) (e : Data) (t0 t1 t2 : List Token) (text : List ℕ)
    → t0 ≡ front_tokens file line word → t1 ≡ t0 ++ member_tokens a d → t2 ≡ t1 ++ member_tokens b e → text ≡ print (t2 ++ end_object ∷ [])
    → text ≡ object_text file line word (member a d (member b e no_members))
two_members file line word a d b e t0 t1 t2 text e0 e1 e2 is =
    is ∙ ap print (ap (λ (ts : List Token). ts ++ last) (e2 ∙ ap (λ (ts : List Token). ts ++ member_tokens b e) (e1 ∙ ap (λ (ts : List Token). ts ++ member_tokens a d) e0))
    ∙ three_parts (front_tokens file line word) (member_tokens a d) (member_tokens b e) last)
    ∙ closed file line word (member a d (member b e no_members))

pub three_members : (file : Option ℕ) (line : ℕ) (word a : List ℕ) (d : Data) (b : List ℕ) (e : Data) (c : List ℕ) (g : Data) (t0 t1 t2 t3 : List Token) (text : List ℕ)
    → t0 ≡ front_tokens file line word → t1 ≡ t0 ++ member_tokens a d → t2 ≡ t1 ++ member_tokens b e → t3 ≡ t2 ++ member_tokens c g → text ≡ print (t3 ++ end_object ∷ [])
    → text ≡ object_text file line word (member a d (member b e (member c g no_members)))
three_members file line word a d b e c g t0 t1 t2 t3 text e0 e1 e2 e3 is =
    is ∙ ap print (ap (λ (ts : List Token). ts ++ last) (e3 ∙ ap (λ (ts : List Token). ts ++ member_tokens c g) (e2 ∙ ap (λ (ts : List Token). ts ++ member_tokens b e) (e1 ∙ ap (λ (ts : List Token). ts ++ member_tokens a d) e0)))
    ∙ four_parts (front_tokens file line word) (member_tokens a d) (member_tokens b e) (member_tokens c g) last)
    ∙ closed file line word (member a d (member b e (member c g no_members)))

pub four_members : (file : Option ℕ) (line : ℕ) (word a : List ℕ) (d : Data) (b : List ℕ) (e : Data) (c : List ℕ) (g : Data) (h : List ℕ) (i : Data) (t0 t1 t2 t3 t4 : List Token) (text : List ℕ)
    → t0 ≡ front_tokens file line word → t1 ≡ t0 ++ member_tokens a d → t2 ≡ t1 ++ member_tokens b e → t3 ≡ t2 ++ member_tokens c g → t4 ≡ t3 ++ member_tokens h i → text ≡ print (t4 ++ end_object ∷ [])
    → text ≡ object_text file line word (member a d (member b e (member c g (member h i no_members))))
four_members file line word a d b e c g h i t0 t1 t2 t3 t4 text e0 e1 e2 e3 e4 is =
    let three = e3 ∙ ap (λ (ts : List Token). ts ++ member_tokens c g) (e2 ∙ ap (λ (ts : List Token). ts ++ member_tokens b e) (e1 ∙ ap (λ (ts : List Token). ts ++ member_tokens a d) e0)) in
    is ∙ ap print (ap (λ (ts : List Token). ts ++ last) (e4 ∙ ap (λ (ts : List Token). ts ++ member_tokens h i) three)
    ∙ five_parts (front_tokens file line word) (member_tokens a d) (member_tokens b e) (member_tokens c g) (member_tokens h i) last)
    ∙ closed file line word (member a d (member b e (member c g (member h i no_members))))

pub seven_members : (file : Option ℕ) (line : ℕ) (word a : List ℕ) (d : Data) (b : List ℕ) (e : Data) (c : List ℕ) (g : Data) (h : List ℕ) (i : Data) (j : List ℕ) (k : Data) (l : List ℕ) (m : Data) (n : List ℕ) (o : Data)
    (t0 t1 t2 t3 t4 t5 t6 t7 : List Token) (text : List ℕ)
    → t0 ≡ front_tokens file line word → t1 ≡ t0 ++ member_tokens a d → t2 ≡ t1 ++ member_tokens b e → t3 ≡ t2 ++ member_tokens c g → t4 ≡ t3 ++ member_tokens h i
    → t5 ≡ t4 ++ member_tokens j k → t6 ≡ t5 ++ member_tokens l m → t7 ≡ t6 ++ member_tokens n o → text ≡ print (t7 ++ end_object ∷ [])
    → text ≡ object_text file line word (member a d (member b e (member c g (member h i (member j k (member l m (member n o no_members)))))))
seven_members file line word a d b e c g h i j k l m n o t0 t1 t2 t3 t4 t5 t6 t7 text e0 e1 e2 e3 e4 e5 e6 e7 is =
    let three = e3 ∙ ap (λ (ts : List Token). ts ++ member_tokens c g) (e2 ∙ ap (λ (ts : List Token). ts ++ member_tokens b e) (e1 ∙ ap (λ (ts : List Token). ts ++ member_tokens a d) e0)) in
    let five = e5 ∙ ap (λ (ts : List Token). ts ++ member_tokens j k) (e4 ∙ ap (λ (ts : List Token). ts ++ member_tokens h i) three) in
    let seven = e7 ∙ ap (λ (ts : List Token). ts ++ member_tokens n o) (e6 ∙ ap (λ (ts : List Token). ts ++ member_tokens l m) five) in
    is ∙ ap print (ap (λ (ts : List Token). ts ++ last) seven
    ∙ eight_parts (front_tokens file line word) (member_tokens a d) (member_tokens b e) (member_tokens c g) (member_tokens h i) (member_tokens j k) (member_tokens l m) (member_tokens n o) last)
    ∙ closed file line word (member a d (member b e (member c g (member h i (member j k (member l m (member n o no_members)))))))
