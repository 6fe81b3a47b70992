use Rattle.std.proofs.Common.{ℕ, ap, length, subst}
use Rattle.line_network.specs.NetworkCount.{IsNetworkCount}
use Rattle.operating_db.specs.FirstOffice.{IsFirstOffice}
use Rattle.operating_db.specs.State.{StateValue}
use Rattle.commit_book.proofs.Runs.{proved_by}
use Rattle.commit_book.proofs.book.Book.for_the_prover.Goals as goal

counted : (c : goal.After-for_the_prover-3) → IsNetworkCount (length c.self.inside.networks.value)
counted c = subst IsNetworkCount (ap length c.deref.ensures) c.for_the_prover-2.ensures

first : (c : goal.After-for_the_prover-3) → IsFirstOffice (length c.self.inside.networks.value) c.self.inside.ledger.first
first c =
    let kept = subst (λ (state : StateValue). IsFirstOffice state.networks state.office) c.first.ensures c.for_the_prover.ensures.first in
    subst (λ (n : ℕ). IsFirstOffice n c.self.inside.ledger.first) c.self.invariant.counted kept

pub returns-clause-proved : goal.returns-clause-proved
returns-clause-proved c = rw (← c.self.view_is) (proved_by _ (first c) c.self.inside.ledger.events c.self.invariant.book.legal)

pub returns-clause-setting : goal.returns-clause-setting
returns-clause-setting c = rw (← c.self.view_is) (record { first = first c; networks = counted c; limits = c.for_the_prover-3.ensures })
