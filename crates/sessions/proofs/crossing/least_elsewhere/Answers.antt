use Rattle.std.proofs.Common.{◌≡◌, ℕ, arith, length, refl, subst}
use Rattle.std.proofs.lemmas.Option.{slice_get_read}
use Rattle.sessions.specs.inner.Crossings.{IsLeast, IsMovedBut}
use Rattle.sessions.proofs.MovedWagons.{other_file, same_file}
use Rattle.sessions.proofs.crossing.least_elsewhere.Goals as goal
use Rattle.sessions.proofs.crossing.least_elsewhere.Goals.{then-file-index, else-file-index}

pub loop-file-preserved : goal.loop-file-preserved
loop-file-preserved g c =
    let seats = c.args.seats.now in
    let seat = c.index-seats-file.result in
    let is = slice_get_read seats (length seats) c.loop-file.file seat refl c.loop-file-test.true c.index-seats-file.is in
    elim c.if-file-index.branch [
      | then-file-index w ↦
          rw (w.least-is, w.least_of-least.ensures)
          (other_file seats c.args.index c.args.wagons.now c.loop-file.file seat c.loop-file.least w.least_moved.result w.if-file-index.true is c.loop-file.invariant (rw w.receipts.ensures at w.least_moved.ensures))
      | else-file-index w ↦ rw w.least-is (same_file seats c.args.index c.args.wagons.now c.loop-file.file c.loop-file.least (omega arith) c.loop-file.invariant)
    ]

pub returns : goal.returns
returns g c =
    let all : c.loop-file.file ≡ length c.args.seats.now = omega arith in
    subst (λ (count : ℕ). IsLeast (IsMovedBut c.args.seats.now c.args.index count c.args.wagons.now) c.loop-file.least) all c.loop-file.invariant
