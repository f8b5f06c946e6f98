-- What holds of histories that are read by a table: laws, each proved as the contract of a function of the module `laws`.
use Rattle.std.specs.Prelude.{List}
use Rattle.fs_calls.specs.Starts.{Start}
use Rattle.fs_timeline.specs.declared.entry.Entry.{Entry}
use Rattle.fs_linearize_histories.specs.declared.heard.Heard.{Heard}
use Rattle.fs_linearize_histories.specs.Histories.{Explains}
use Rattle.fs_linearize_dialects.specs.Dialects.{widened}
use Rattle.fs_linearize_dialects.specs.declared.dialect.Row.{Row}

-- what explains a history explains it also as it is read by a table
abbrev pub WideningKeeps : Type 0
WideningKeeps = (rows : List Row) (start : Start) (h : List Heard) (es : List Entry) → Explains start h es → Explains start (widened rows h) es
