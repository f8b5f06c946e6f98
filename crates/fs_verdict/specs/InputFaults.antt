-- The faults of what is read.
use Rattle.std.specs.Prelude.{◌≡◌, Result, Err}
use Rattle.fs_words.specs.declared.fault.ScriptFault.{ScriptFault}
use Rattle.fs_verdict.specs.declared.fault.RunFault.{RunFault}
use Rattle.fs_verdict.specs.declared.fault.RunFault.TheVariants.{Input, Read, Write, OutOfMemory, Full, UnderWay}

-- the fault of the input, which says what is wrong with it, or out of memory
abbrev pub IsFaultOf : {X : Type 0} → Result X ScriptFault → RunFault → Type 0
IsFaultOf given (Input f) = given ≡ Err f
IsFaultOf given Read = ⊥
IsFaultOf given Write = ⊥
IsFaultOf given OutOfMemory = Unit {0}
IsFaultOf given Full = ⊥
IsFaultOf given (UnderWay c) = ⊥

-- the fault of the input, or a call's refusal
abbrev pub IsFaultOrRefusal : {X : Type 0} → Result X ScriptFault → RunFault → Type 0
IsFaultOrRefusal given (Input f) = given ≡ Err f
IsFaultOrRefusal given Read = ⊥
IsFaultOrRefusal given Write = ⊥
IsFaultOrRefusal given OutOfMemory = Unit {0}
IsFaultOrRefusal given Full = Unit {0}
IsFaultOrRefusal given (UnderWay c) = ⊥
