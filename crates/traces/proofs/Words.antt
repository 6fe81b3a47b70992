-- A line whose type is the word of a kind is read as a message of this kind.
use Rattle.std.proofs.Common.{◌≡◌, ℕ, List, refl, subst}
use Rattle.line_fields.specs.Commands.{command_of_type}
use Rattle.line_fields.specs.LineType.{line_type_of, type_name}
use Rattle.move_messages.specs.declared.message.MessageKind.{MessageKind}
use Rattle.move_messages.specs.declared.message.MessageKind.TheVariants as kind
use Rattle.traces.specs.Events.{IsWordOfKind, kind_word}

word_reads : (of : MessageKind) → IsWordOfKind of (kind_word of)
unfolding line_type_of type_name command_of_type
word_reads kind.Release d = refl
word_reads kind.Departure d = refl
word_reads kind.YardArrival d = refl
word_reads kind.YardDeparture d = refl
word_reads (kind.Exception hold) d = refl
word_reads kind.Arrival d = refl
word_reads kind.Delivery d = refl

pub reads : (of : MessageKind) (word : List ℕ) → kind_word of ≡ word → IsWordOfKind of word
reads of word is = subst (λ (w : List ℕ). IsWordOfKind of w) is (word_reads of)
