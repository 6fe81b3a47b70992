use Rattle.std.proofs.Common.{take}
use Rattle.office_files.specs.FirstOffice.{AreNetworksAt}
use Rattle.office_files.proofs.first_office.read_networks.Given as goal

-- the networks of the paths so far
abbrev pub invariant-loop-path : goal.invariant-loop-path
invariant-loop-path g l = AreNetworksAt (g.S.FileSystem.bytes_at l.fn.rt) (take l.path-index l.paths) l.networks.items
