-- The details of a refusal: what its reply has behind the number.
use Rattle.std.specs.Prelude.{ℕ, List, [], ◌∷◌, ◌++◌, decimal}
use Rattle.line_fields.specs.Field.{field_name}
use Rattle.line_fields.specs.Faults.{field_fault_number}
use Rattle.line_fields.specs.declared.fault.LineFault.{LineFault}
use Rattle.line_fields.specs.declared.fault.LineFault.TheVariants as line
use Rattle.faults.specs.declared.faults.NamedFault.{NamedFault}
use Rattle.faults.specs.declared.faults.NamedFault.TheVariants as check
use Rattle.faults.specs.declared.faults.Refusal.{Refusal}
use Rattle.faults.specs.declared.faults.Refusal.TheVariants as book
use Rattle.reply_texts.specs.Words.{next_word}

-- of a line: the name of a field that is missing; the name of one that is bad, and the number of its fault
abbrev pub line_details : LineFault → List ℕ
line_details line.OutOfMemory = []
line_details line.NotJson = []
line_details line.NotAnObject = []
line_details line.UnknownType = []
line_details (line.MissingField field) = next_word (field_name field)
line_details (line.BadField field fault) = next_word (field_name field) ++ next_word (decimal (field_fault_number fault))

-- of pairs and prices: the wagon and the order, or the order; the two sums that differ, in km
abbrev pub check_details : NamedFault → List ℕ
check_details check.OutOfMemory = []
check_details check.WrongLengths = []
check_details (check.NotAllowed wagon order) = next_word wagon ++ next_word order
check_details (check.UsedTwice wagon order) = next_word wagon ++ next_word order
check_details (check.PriceGap wagon order) = next_word wagon ++ next_word order
check_details (check.OverPenalty order) = next_word order
check_details (check.SumsDiffer left right) = next_word (decimal left) ++ next_word (decimal right)
check_details (check.NotInProblem wagon order) = next_word wagon ++ next_word order

-- of a call on the book: the wagon or the order that has changed
abbrev pub book_details : Refusal → List ℕ
book_details book.OutOfMemory = []
book_details (book.Step fault) = []
book_details (book.Check fault) = check_details fault
book_details book.IdReused = []
book_details book.BookFull = []
book_details book.UnknownWagon = []
book_details book.OrderKnown = []
book_details book.TooManyOpen = []
book_details book.UnknownOrder = []
book_details book.OrderClosed = []
book_details book.UnknownNetwork = []
book_details book.SameNetwork = []
book_details book.NotKept = []
book_details (book.WagonChanged wagon) = next_word wagon
book_details (book.OrderChanged order) = next_word order
