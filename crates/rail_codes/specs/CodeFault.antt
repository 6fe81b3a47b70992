-- Why a text or a number is no code.
use Rattle.std.specs.Prelude.{ℕ}
use Rattle.rail_codes.specs.declared.code_fault.CodeFault.{CodeFault}
use Rattle.rail_codes.specs.declared.code_fault.CodeFault.TheVariants.{NotTwelveDigits, CheckDigit, BadPlace, BadClass, BadCompany, BadOrderId, BadMoment, MomentOutOfRange}

-- the number that stands for a fault in a reply
abbrev pub fault_number : CodeFault → ℕ
fault_number NotTwelveDigits = 11
fault_number CheckDigit = 12
fault_number BadPlace = 13
fault_number BadClass = 14
fault_number BadCompany = 15
fault_number BadOrderId = 16
fault_number BadMoment = 17
fault_number MomentOutOfRange = 18
