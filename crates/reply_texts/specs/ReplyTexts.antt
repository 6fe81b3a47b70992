-- The texts of replies, each with its line feed: what stands behind the line's number and a space.
use Rattle.std.specs.Prelude.{ℕ, List, [], ◌∷◌, ◌++◌, codes, decimal}
use Rattle.line_fields.specs.Faults.{line_fault_number}
use Rattle.line_fields.specs.declared.fault.LineFault.{LineFault}
use Rattle.faults.specs.Numbers.{refusal_number}
use Rattle.faults.specs.declared.faults.Refusal.{Refusal}
use Rattle.reply_texts.specs.Details.{book_details, line_details}
use Rattle.reply_texts.specs.Words.{next_word}

-- a refusal's number and its details
abbrev pub refused_text : ℕ → List ℕ → List ℕ
refused_text number details = codes "refused" ++ next_word (decimal number) ++ details ++ 10 ∷ []

-- a line that isn't one of those that are read
abbrev pub line_refused_text : LineFault → List ℕ
line_refused_text fault = refused_text (line_fault_number fault) (line_details fault)

abbrev pub book_refused_text : Refusal → List ℕ
book_refused_text refusal = refused_text (refusal_number refusal) (book_details refusal)

-- the number of the entry that an event is
abbrev pub accepted_text : ℕ → List ℕ
accepted_text entry = codes "accepted" ++ next_word (decimal entry) ++ 10 ∷ []

-- the number of the entry that the same message is
abbrev pub repeated_text : ℕ → List ℕ
repeated_text entry = codes "repeated" ++ next_word (decimal entry) ++ 10 ∷ []

-- a version, and how many wagons and orders its problem has
abbrev pub counted : (version wagons orders : ℕ) → List ℕ
counted version wagons orders = next_word (decimal version) ++ next_word (decimal wagons) ++ next_word (decimal orders)

abbrev pub begun_text : (version wagons orders : ℕ) → List ℕ
begun_text version wagons orders = codes "begun" ++ counted version wagons orders ++ 10 ∷ []

-- the head of a plan: the same, and its cost, in km
abbrev pub planned_text : (version wagons orders cost : ℕ) → List ℕ
planned_text version wagons orders cost = codes "plan" ++ counted version wagons orders ++ next_word (decimal cost) ++ 10 ∷ []
