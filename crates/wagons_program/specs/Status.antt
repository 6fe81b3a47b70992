-- The exit status.
use Rattle.std.specs.Prelude.{ℕ, ◌==◌, nat_lt, if◌then◌else◌, is_some, List, Result, Ok, Err}
use Rattle.std.specs.List.{list_any}
use Rattle.line_engine.specs.declared.run.RunCount.{RunCount}
use Rattle.line_engine.specs.declared.run.RunFault.{RunFault}
use Rattle.sessions.specs.declared.feed_report.FileCount.{FileCount}
use Rattle.office_files.specs.declared.stop.Stop.{Stop}
use Rattle.office_files.specs.declared.stop.Stop.TheVariants.{Run}
use Rattle.office_files.specs.declared.stopped.Stopped.{Stopped}

-- of a run over lines that came to its end: 0 where no line was refused, else 1
abbrev pub status_of_count : RunCount → ℕ
status_of_count count = if count.refused == 0 then 0 else 1

-- what a run over lines comes to: its status, or why the program stopped
abbrev pub outcome_of_run : Result RunCount RunFault → Result ℕ Stop
outcome_of_run (Ok count) = Ok (status_of_count count)
outcome_of_run (Err fault) = Err (Run fault)

-- of a feed: 2 where a file failed, else 1 where a line of a file was refused, else 0
abbrev pub status_of_files : {R : Type 0} → List (FileCount R) → ℕ
status_of_files files =
    if list_any (λ file. is_some file.failed) files then 2 else if list_any (λ file. nat_lt 0 file.refused) files then 1 else 0

-- of the program: what a word came to, or 2 where it could not run or stopped
abbrev pub exit_status : Result ℕ Stopped → ℕ
exit_status (Ok status) = status
exit_status (Err stopped) = 2
