-- What a failure of reading records is called where a file is read.
use Rattle.faults.specs.declared.faults.RecordFault.{RecordFault}
use Rattle.faults.specs.declared.faults.RecordFault.TheVariants as record_fault
use Rattle.faults.specs.declared.faults.NetworkFault.{NetworkFault}
use Rattle.faults.specs.declared.faults.NetworkFault.TheVariants as network_fault
use Rattle.faults.specs.declared.faults.RosterFault.{RosterFault}
use Rattle.faults.specs.declared.faults.RosterFault.TheVariants as roster_fault

-- a failure of reading records, where a network is read
abbrev pub network_fault_of : RecordFault → NetworkFault
network_fault_of record_fault.OutOfMemory = network_fault.OutOfMemory
network_fault_of record_fault.ReadFailed = network_fault.ReadFailed

-- a failure of reading records, where a roster is read
abbrev pub roster_fault_of : RecordFault → RosterFault
roster_fault_of record_fault.OutOfMemory = roster_fault.OutOfMemory
roster_fault_of record_fault.ReadFailed = roster_fault.ReadFailed
