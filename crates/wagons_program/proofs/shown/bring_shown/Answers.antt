use Rattle.wagons_program.proofs.shown.bring_shown.Goals as goal

pub returns-clause-brought : goal.returns-clause-brought
returns-clause-brought g c =
    (c.in_ok-book.field-0.networks.items, c.in_ok-book.field-0.status, (c.in_ok-book.ensures {u = tt}).brought)
