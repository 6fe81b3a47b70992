use Rattle.office_files.proofs.RefusedFiles.{roster_unread}
use Rattle.office_files.proofs.first_office.read_roster.Goals as goal

pub returns-clause-refused : goal.returns-clause-refused
returns-clause-refused g c = roster_unread c.roster_in.result (g.S.FileSystem.bytes_at c.args.rt.now c.args.path.now) _ c.args.path.now c.roster_in.ensures.refused c.in_ok-file.ensures.bytes
