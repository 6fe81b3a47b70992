use Rattle.office_files.proofs.RefusedFiles.{office_unread}
use Rattle.office_files.proofs.first_office.read_office.Goals as goal

pub returns-clause-refused : goal.returns-clause-refused
returns-clause-refused g c = office_unread c.office_in.result (g.S.FileSystem.bytes_at c.args.rt.now c.args.path.now) _ c.args.networks c.args.path.now c.office_in.ensures.refused c.in_ok-file.ensures.bytes
