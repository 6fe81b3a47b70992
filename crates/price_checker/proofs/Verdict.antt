use Rattle.std.proofs.Common.{◌≡◌, ℕ, List, Ok, Err, Result, refl, sym}
use Rattle.std.specs.Prelude.{◌↔◌, IsOk, OnOk}
use Rattle.std.specs.Result.{result_err}
use Rattle.cost_table.specs.Table.{Table}
use Rattle.cost_table.specs.TableLimits.{IsTable}
use Rattle.cost_table.specs.Plan.{IsOptimal}
use Rattle.faults.specs.declared.faults.CheckFault.{CheckFault}
use Rattle.price_checker.specs.Certificate.{IsCertificate}
use Rattle.price_checker.specs.Faults.{first_fault}
use Rattle.price_checker.proofs.FaultFree.{certified, fault_free}
use Rattle.price_checker.proofs.Duality.{certificates_optimal}

-- an answer with the first fault says yes to certificates alone, and to each
pub says_yes : (t : Table) (ps : List (ℕ × ℕ)) (u v : List ℕ) (r : Result ℕ CheckFault) → IsTable t → result_err r ≡ first_fault t ps u v → IsOk r ↔ IsCertificate t ps u v
says_yes t ps u v (Ok x) legal e = (λ h. certified t ps u v legal (sym e), λ c. refl)
says_yes t ps u v (Err f) legal e = (λ h. cc, λ c. let free = fault_free t ps u v c in cc)

pub yes_is_optimal : (t : Table) (ps : List (ℕ × ℕ)) (u v : List ℕ) (r : Result ℕ CheckFault) → IsTable t → result_err r ≡ first_fault t ps u v → OnOk r (IsOptimal t ps)
yes_is_optimal t ps u v (Ok x) legal e = certificates_optimal t ps u v (certified t ps u v legal (sym e))
yes_is_optimal t ps u v (Err f) legal e = tt
