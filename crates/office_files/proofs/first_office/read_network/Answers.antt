use Rattle.office_files.proofs.RefusedFiles.{network_unread}
use Rattle.office_files.proofs.first_office.read_network.Goals as goal

pub returns-clause-refused : goal.returns-clause-refused
returns-clause-refused g c = network_unread c.network_in.result (g.S.FileSystem.bytes_at c.args.rt.now c.args.path.now) _ c.args.path.now c.network_in.ensures.refused c.in_ok-file.ensures.bytes
