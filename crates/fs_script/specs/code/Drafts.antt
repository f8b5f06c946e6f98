-- What the functions answer that read a script line by line.
use Rattle.std.specs.Prelude.{◌≡◌, ℕ, Bool, true, false, List, [], ◌∷◌, ◌++◌, Result, Ok, Err}
use Rattle.fs_words.specs.Words.{Word}
use Rattle.fs_words.specs.Reading.{◌>>=◌, words_of}
use Rattle.fs_words.specs.declared.fault.ScriptFault.{ScriptFault}
use Rattle.fs_words.specs.declared.fault.FaultKind.{FaultKind}
use Rattle.fs_words.specs.declared.fault.FaultKind.TheVariants as kind
use Rattle.fs_script.specs.Script.{block_line, blocks_from, schedule_line, schedule_from}
use Rattle.fs_script.specs.declared.script.Script.{Script}

-- a last item was added; an allocation that fails leaves all as it was
abbrev pub Pushes : {X : Type 0} → Result (Unit {0}) FaultKind → List X → List X → X → Type 0
Pushes (Ok u) old new x = new ≡ old ++ x ∷ []
Pushes (Err k) old new x = (k ≡ kind.OutOfMemory) × (new ≡ old)

-- the words of a line, behind the line `schedule` or before it
abbrev pub line_in : Bool → Script → List Word → Result Script FaultKind
line_in true s words = schedule_line s words
line_in false s words = block_line s words

-- a script after one more line
abbrev pub step_in : Bool → Script → List ℕ → Result Script FaultKind
step_in b s line = words_of line >>= line_in b s

-- the lines from a number on, behind the line `schedule` or before it
abbrev pub lines_in : Bool → ℕ → Script → List (List ℕ) → Result Script ScriptFault
lines_in true n s lines = schedule_from n s lines
lines_in false n s lines = blocks_from n s lines
