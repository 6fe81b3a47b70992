-- What a fault of a part is called by the part above it.
use Rattle.faults.specs.declared.faults.NamedFault.{NamedFault}
use Rattle.faults.specs.declared.faults.NamedFault.TheVariants as named_fault
use Rattle.faults.specs.declared.faults.ApplyFault.{ApplyFault}
use Rattle.faults.specs.declared.faults.ApplyFault.TheVariants as apply_fault
use Rattle.faults.specs.declared.faults.Refusal.{Refusal}
use Rattle.faults.specs.declared.faults.Refusal.TheVariants.{OutOfMemory, Step, Check, UnknownWagon, OrderKnown, TooManyOpen, UnknownOrder, OrderClosed, UnknownNetwork, SameNetwork}

-- a refusal of the office, where a book is called
abbrev pub refusal_of : ApplyFault → Refusal
refusal_of apply_fault.OutOfMemory = OutOfMemory
refusal_of (apply_fault.Step fault) = Step fault
refusal_of apply_fault.UnknownWagon = UnknownWagon
refusal_of apply_fault.OrderKnown = OrderKnown
refusal_of apply_fault.TooManyOpen = TooManyOpen
refusal_of apply_fault.UnknownOrder = UnknownOrder
refusal_of apply_fault.OrderClosed = OrderClosed
refusal_of apply_fault.UnknownNetwork = UnknownNetwork
refusal_of apply_fault.SameNetwork = SameNetwork

-- a fault of the price checker over named pairs, where a book is called
abbrev pub refusal_of_fault : NamedFault → Refusal
refusal_of_fault named_fault.OutOfMemory = OutOfMemory
refusal_of_fault fault = Check fault
