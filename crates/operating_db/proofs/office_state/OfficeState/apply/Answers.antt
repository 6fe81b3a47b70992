use Rattle.operating_db.proofs.office_state.OfficeState.apply.Goals as goal

pub commit-requires : goal.commit-requires
commit-requires c = rw c.as_slice.ensures (rw c.in-Commit.is at c.requires)
