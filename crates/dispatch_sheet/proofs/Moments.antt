-- The lines of a sheet, from their parts.
use Rattle.std.proofs.Common.{◌≡◌, ℕ, List, [], ◌∷◌, ◌++◌, refl, ap, ◌∙◌, append_assoc}
use Rattle.rail_codes.specs.Moment.{IsMomentText}
use Rattle.wagons_and_orders.specs.declared.wagon_row.WagonRow.{WagonRow}
use Rattle.wagons_and_orders.specs.OrderRow.{OrderRowValue}
use Rattle.std.specs.Prelude.{decimal}
use Rattle.wagons_and_orders.specs.States.{state_of}
use Rattle.dispatch_sheet.specs.Sheet.{hold_word, list_word, listed_wagons, order_text, promise_word, state_word, wagon_text, IsOrderLine, IsWagonLine}
use Rattle.reply_texts.specs.Words.{next_word}
use Rattle.reply_texts.specs.Words.{IsMomentWord}
use Rattle.dispatch_sheet.specs.inner.Parts.{order_back, order_front, wagon_back, wagon_front}
use Rattle.reply_texts.specs.Lines.{Adds}

joined : (old front middle back : List ℕ) → ((old ++ front) ++ middle) ++ back ≡ old ++ (front ++ middle ++ back)
joined old front middle back = simp append_assoc refl

three_parts : (old front middle back a b c : List ℕ) → a ≡ old ++ front → b ≡ a ++ middle → c ≡ b ++ back → c ≡ old ++ (front ++ middle ++ back)
three_parts old front middle back a b c first second third =
    third ∙ ap (λ (xs : List ℕ). xs ++ back) (second ∙ ap (λ (xs : List ℕ). xs ++ middle) first) ∙ joined old front middle back

three_behind : (before a b c : List ℕ) → before ++ (a ++ b ++ c) ≡ before ++ a ++ b ++ c
three_behind before a b c = simp append_assoc refl

five_behind : (before a b c d e : List ℕ) → before ++ (a ++ b ++ c ++ d ++ e) ≡ before ++ a ++ b ++ c ++ d ++ e
five_behind before a b c d e = simp append_assoc refl

wagon_parts : (row : WagonRow) (last : List ℕ) → wagon_front row ++ next_word last ++ wagon_back row ≡ wagon_text row last
wagon_parts row last = three_behind (wagon_front row ++ next_word last) (next_word (hold_word row.held)) (next_word (promise_word row.promise)) (10 ∷ [])

order_parts : (row : OrderRowValue) (latest : List ℕ) → order_front row ++ next_word latest ++ order_back row ≡ order_text row latest
order_parts row latest =
    five_behind (order_front row ++ next_word latest) (next_word (decimal row.text.penalty)) (next_word (state_word (state_of row))) (next_word (decimal row.text.wagons)) (next_word (list_word (listed_wagons row))) (10 ∷ [])

-- a front, a moment behind it, and a back: a line that P holds of, where it does so of each text with such a moment
dated_line : (P : List ℕ → Type 0) (seconds : ℕ) (text : List ℕ → List ℕ) (front back : List ℕ)
    → ((moment : List ℕ) → front ++ next_word moment ++ back ≡ text moment)
    → ((moment : List ℕ) → IsMomentText seconds moment → P (text moment))
    → (old a b c : List ℕ) → a ≡ old ++ front → Adds (IsMomentWord seconds) a b → c ≡ b ++ back → Adds P old c
dated_line P seconds text front back parts is_line old a b c first moment last =
    let word = moment.is in
    record {
      added = text word.text;
      is = is_line word.text word.moment;
      whole = three_parts old front (next_word word.text) back a b c first (moment.whole ∙ ap (λ (xs : List ℕ). a ++ xs) word.whole) last ∙ ap (λ (xs : List ℕ). old ++ xs) (parts word.text);
    }

pub wagon_line : (row : WagonRow) (old a b c : List ℕ) → a ≡ old ++ wagon_front row → Adds (IsMomentWord row.last) a b → c ≡ b ++ wagon_back row → Adds (IsWagonLine row) old c
wagon_line row =
    dated_line (IsWagonLine row) row.last (wagon_text row) (wagon_front row) (wagon_back row) (wagon_parts row) (λ last moment. record { last = last; moment = moment; text = refl })

pub order_line : (row : OrderRowValue) (old a b c : List ℕ) → a ≡ old ++ order_front row → Adds (IsMomentWord row.text.latest) a b → c ≡ b ++ order_back row → Adds (IsOrderLine row) old c
order_line row =
    dated_line (IsOrderLine row) row.text.latest (order_text row) (order_front row) (order_back row) (order_parts row) (λ latest moment. record { latest = latest; moment = moment; text = refl })
