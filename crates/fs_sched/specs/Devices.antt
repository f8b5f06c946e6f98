-- The faults of what is read, what is read from a source and what is written to a sink, handed on.
pub use Rattle.fs_verdict.specs.Devices.{IsSameText, KeepsDevices, WritesBeginning, WritesBeginningOf}
pub use Rattle.fs_verdict.specs.InputFaults.{IsFaultOf, IsFaultOrRefusal}
