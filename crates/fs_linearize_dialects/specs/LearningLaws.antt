-- What holds of rows that are learned: laws, each proved as the contract of a function of the module `learning_laws`.
use Rattle.std.specs.Prelude.{List}
use Rattle.fs_linearize_dialects.specs.declared.dialect.Row.{Row}
use Rattle.fs_linearize_dialects.specs.Learning.{AreAmong}
use Rattle.fs_linearize_dialects.specs.LearnedTables.{proposed}

-- the table that is proposed for rows has each of them
abbrev pub ProposedAreAll : Type 0
ProposedAreAll = (rows : List Row) → AreAmong (proposed rows) rows
