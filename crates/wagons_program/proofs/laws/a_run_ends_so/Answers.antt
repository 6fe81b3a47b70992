use Rattle.wagons_program.proofs.laws.a_run_ends_so.Goals as goal

pub returns : goal.returns
returns g c bytes_at remaining has_failed texts options given status asked ended = record { asked = asked; ended = ended }
