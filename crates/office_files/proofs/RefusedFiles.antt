-- Why a file isn't read, from what a reader of it had left.
use Rattle.std.proofs.Common.{ℕ, List, Bool, Option, None, Some, IfErr, Result, Ok, Err, inr, subst}
use Rattle.checkpoint.specs.Reads.{IsRefused, StandsBefore}
use Rattle.checkpoint.specs.declared.read_fault.ReadFault.{ReadFault}
use Rattle.checkpoint.specs.declared.read_fault.ReadFault.TheVariants.{Line, Run, Unread}
use Rattle.line_engine.specs.declared.run.RunFault.TheVariants as run
use Rattle.office_files.specs.InFile.{HasBytes}
use Rattle.office_files.specs.Refused.{IsNetworkRefused, IsOfficeRefused, IsRosterRefused, IsUnread}
use Rattle.office_files.specs.declared.stopped.Stopped.{Stopped}

-- what holds of what is left holds of what is known, where it also holds of bytes that nobody knows
by_known : (P : Option (List ℕ) → Type 0) (known remaining : Option (List ℕ)) → HasBytes known remaining → (P remaining → P None) → P remaining → P known
by_known P None remaining has forget holds = forget holds
by_known P (Some bytes) remaining has forget holds = subst P has holds

roster_refused : (known remaining : Option (List ℕ)) (path : List ℕ) (why : Stopped) → HasBytes known remaining → IsRosterRefused remaining path why → IsRosterRefused known path why
roster_refused known remaining path why has refused =
    by_known (λ bytes. IsRosterRefused bytes path why) known remaining has
    (λ r. record {
      refusal = r.refusal;
      read = record {
        read = record { records = r.read.read.records; all_records = tt; first_fault = r.read.read.first_fault; exact = r.read.read.exact; complete = r.read.read.complete };
        stop = r.read.stop;
      };
      stop = r.stop;
      told = r.told;
    }) refused

network_refused : (known remaining : Option (List ℕ)) (path : List ℕ) (why : Stopped) → HasBytes known remaining → IsNetworkRefused remaining path why → IsNetworkRefused known path why
network_refused known remaining path why has refused =
    by_known (λ bytes. IsNetworkRefused bytes path why) known remaining has
    (λ r. record {
      refusal = r.refusal;
      read = record {
        read = record { rows = r.read.read.rows; all_rows = tt; first_fault = r.read.read.first_fault; exact = r.read.read.exact; complete = r.read.read.complete };
        stop = r.read.stop;
      };
      stop = r.stop;
      told = r.told;
    }) refused

-- where reading stands, by bytes that nobody knows
abbrev stands : (from left : Option (List ℕ)) (failed : Bool) (n : ℕ) → StandsBefore (record { from = from; to = left; failed = failed }) n → StandsBefore (record { from = None; to = left; failed = failed }) n
stands from left failed n at = record {
  input = at.input;
  lines = at.lines;
  rest = at.rest;
  consumed = tt;
  begins = at.begins;
  number = at.number;
  short = at.short;
}

refused_unknown : (from left : Option (List ℕ)) (failed : Bool) (networks : ℕ) (fault : ReadFault) → IsRefused (record { from = from; to = left; failed = failed }) networks fault
    → IsRefused (record { from = None; to = left; failed = failed }) networks fault
refused_unknown from left failed networks (Run run.OutOfMemory) refused = tt
refused_unknown from left failed networks (Run (run.TooManyLines n)) refused = (stands from left failed n refused.0, refused.1, refused.2)
refused_unknown from left failed networks (Run (run.LineTooLong n)) refused = (stands from left failed n refused.0, refused.1, refused.2)
refused_unknown from left failed networks (Run (run.ReadFailed n)) refused = (stands from left failed n refused.0, refused.1, refused.2)
refused_unknown from left failed networks (Run (run.WriteFailed n)) refused = absurd refused
refused_unknown from left failed networks (Line fault) refused = (refused.0, record { consumed = tt; ended = refused.1.ended }, refused.2)
refused_unknown from left failed networks (Unread n fault) refused = (refused.0, record { consumed = tt; ended = refused.1.ended }, refused.2, refused.3)

office_refused : (known remaining : Option (List ℕ)) (networks : ℕ) (path : List ℕ) (why : Stopped) → HasBytes known remaining → IsOfficeRefused remaining networks path why → IsOfficeRefused known networks path why
office_refused known remaining networks path why has refused =
    by_known (λ bytes. IsOfficeRefused bytes networks path why) known remaining has
    (λ r. record {
      left = r.left;
      has_failed = r.has_failed;
      fault = r.fault;
      read = refused_unknown remaining r.left r.has_failed networks r.fault r.read;
      stop = r.stop;
      told = r.told;
    }) refused

-- a file that was opened isn't read
pub roster_unread : {T : Type 0} (result : Result T Stopped) (known remaining : Option (List ℕ)) (path : List ℕ) → IfErr result (IsRosterRefused remaining path) → HasBytes known remaining
    → IfErr result (IsUnread (IsRosterRefused known path))
roster_unread (Ok value) known remaining path refused has = tt
roster_unread (Err why) known remaining path refused has = inr (roster_refused known remaining path why has refused)

pub network_unread : {T : Type 0} (result : Result T Stopped) (known remaining : Option (List ℕ)) (path : List ℕ) → IfErr result (IsNetworkRefused remaining path) → HasBytes known remaining
    → IfErr result (IsUnread (IsNetworkRefused known path))
network_unread (Ok value) known remaining path refused has = tt
network_unread (Err why) known remaining path refused has = inr (network_refused known remaining path why has refused)

pub office_unread : {T : Type 0} (result : Result T Stopped) (known remaining : Option (List ℕ)) (networks : ℕ) (path : List ℕ) → IfErr result (IsOfficeRefused remaining networks path) → HasBytes known remaining
    → IfErr result (IsUnread (IsOfficeRefused known networks path))
office_unread (Ok value) known remaining networks path refused has = tt
office_unread (Err why) known remaining networks path refused has = inr (office_refused known remaining networks path why has refused)
