-- What holds of the lines of every file.
use Rattle.std.specs.Prelude.{◌≡◌, ◌↔◌, ℕ, List, Ok}
use Rattle.operating_db.specs.Office.{Office}
use Rattle.checkpoint.specs.Checkpoint.{IsCheckpointOf}
use Rattle.checkpoint.specs.OfficeOf.{office_of_lines}

-- lines are read as an office exactly where they are a checkpoint of it
abbrev pub CheckpointsAreRead : Type 0
CheckpointsAreRead =
    (networks : ℕ) (lines : List (List ℕ)) (office : Office) → (office_of_lines networks lines ≡ Ok office) ↔ IsCheckpointOf networks lines office
