-- What reading comes to: what the definitions give, or out of memory.
use Rattle.std.specs.Prelude.{◌≡◌, ℕ, List, Result, Ok, Err}
use Rattle.fs_linearize_dialects.specs.declared.dialect.Row.{Row}
use Rattle.fs_linearize_dialects.specs.declared.fault.TableFault.{TableFault}
use Rattle.fs_linearize_dialects.specs.declared.fault.TableFault.TheVariants as fault
use Rattle.fs_linearize_dialects.specs.declared.fault.DialectFault.{DialectFault}

-- the fault is the one that reading gives; out of memory says nothing of the text
abbrev pub FailsAs : TableFault → Result (List Row) TableFault → Type 0
FailsAs fault.OutOfMemory given = Unit {0}
FailsAs f given = given ≡ Err f

-- the rows behind a step are those that reading gives
abbrev pub Becomes : Result (Unit {0}) TableFault → List Row → Result (List Row) TableFault → Type 0
Becomes (Ok u) new given = given ≡ Ok new
Becomes (Err f) new given = FailsAs f given

-- the same of a fault with its line
abbrev pub FailsThere : ℕ → TableFault → Result (List Row) DialectFault → Type 0
FailsThere n fault.OutOfMemory given = Unit {0}
FailsThere n f given = given ≡ Err (record { line = n; kind = f })

abbrev pub IsRead : Result (List Row) DialectFault → Result (List Row) DialectFault → Type 0
IsRead (Ok rows) given = given ≡ Ok rows
IsRead (Err f) given = FailsThere f.line f.kind given
