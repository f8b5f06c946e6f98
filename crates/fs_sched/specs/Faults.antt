-- The fault of a run whose input has a fault, and the status after a fault, handed on.
pub use Rattle.fs_verdict.specs.Faults.{IsBetween, by_kind, run_fault_of, status_of_fault}
