use Rattle.std.proofs.Common.{◌≡◌, All, false, take}
use Rattle.wagons_program.proofs.OpenedFiles.{AreOpened}
use Rattle.wagons_program.proofs.feed.open_files.Given as goal

-- there is a reader for each path before, with the bytes of the file there, and none has failed
abbrev pub invariant-loop-path : goal.invariant-loop-path
invariant-loop-path g l = record {
  fresh : All (λ reader. reader.has_failed ≡ false) l.readers.items;
  each : AreOpened (g.R.FileSystem.bytes_at l.fn.rt) (λ reader. g.R.File.Read.remaining reader.device) (take l.path-index l.paths) l.readers.items;
}
