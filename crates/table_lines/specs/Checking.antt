-- What a run that checks replies to a table line, behind the line's number.
use Rattle.std.specs.Prelude.{◌≡◌, ℕ, Bool, List, [], ◌∷◌, ◌++◌, codes, decimal, Result, Ok, Err, IfOk, is_err}
use Rattle.line_engine.specs.Replies.{Numbered, Replying}
use Rattle.reply_texts.specs.Words.{next_word}
use Rattle.reply_texts.specs.ReplyTexts.{refused_text}
use Rattle.table_lines.specs.TableCost.{CertifiesLine, cost_of_line}
use Rattle.table_lines.specs.TableDetails.{table_line_details}
use Rattle.table_lines.specs.TableRefusals.{table_refusal_number}
use Rattle.table_lines.specs.declared.table_refusal.TableRefusal.{TableRefusal}

-- the cost of a plan that passes, in km
abbrev pub optimal_text : ℕ → List ℕ
optimal_text cost = codes "optimal" ++ next_word (decimal cost) ++ 10 ∷ []

abbrev pub table_refused_text : TableRefusal → List ℕ
table_refused_text refusal = refused_text (table_refusal_number refusal) (table_line_details refusal)

-- the cost of a plan that passes, or the refusal
abbrev pub reply_body : Result ℕ TableRefusal → List ℕ
reply_body (Ok cost) = optimal_text cost
reply_body (Err refusal) = table_refused_text refusal

-- The reply to a table line, and whether it is a refusal. A cost is answered only of a line whose pairs and prices are a
-- certificate of its table: no plan of that table costs less.
abbrev pub ChecksLine : {H : Type 0} → H → List ℕ → List ℕ → Bool → H → Type 0
ChecksLine old line body refused new = (body ≡ reply_body (cost_of_line line)) × (refused ≡ is_err (cost_of_line line)) × IfOk (cost_of_line line) (CertifiesLine line)

-- the replies to table lines with a plan, each behind its line's number
abbrev pub ToPlans : Replying (Unit {0})
ToPlans = Numbered ChecksLine (λ _ _ _. Unit {0})
