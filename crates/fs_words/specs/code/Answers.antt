-- What a function that reads may return, beside what the definitions give.
use Rattle.std.specs.Prelude.{◌≡◌, ℕ, List, [], ◌∷◌, ◌++◌, Result, Ok, Err, if◌then◌else◌}
use Rattle.fs_names.specs.declared.fault.PathFault.{PathFault}
use Rattle.fs_names.specs.declared.fault.PathFault.TheVariants as path
use Rattle.fs_words.specs.declared.fault.ScriptFault.{ScriptFault}
use Rattle.fs_words.specs.declared.fault.FaultKind.{FaultKind}
use Rattle.fs_words.specs.declared.fault.FaultKind.TheVariants as kind
use Rattle.fs_words.specs.Reading.{fault_at}
use Rattle.fs_words.specs.Lines.{is_empty}

-- the kind is the one that reading gives; out of memory says nothing of the text
abbrev pub FailsAs : {Y : Type 0} → FaultKind → Result Y FaultKind → Type 0
FailsAs kind.OutOfMemory given = Unit {0}
FailsAs k given = given ≡ Err k

-- what was returned, seen by view, is what reading gives, unless an allocation failed
abbrev pub Gives : {X Y : Type 0} → (X → Y) → Result X FaultKind → Result Y FaultKind → Type 0
Gives view (Ok x) given = given ≡ Ok (view x)
Gives view (Err k) given = FailsAs k given

-- the same of a whole text, whose fault has a line
abbrev pub FailsThere : {Y : Type 0} → ℕ → FaultKind → Result Y ScriptFault → Type 0
FailsThere n kind.OutOfMemory given = Unit {0}
FailsThere n k given = given ≡ Err (fault_at n k)

-- what a reader of a whole text answers, where its value is seen in other words
abbrev pub GivesText : {X Y : Type 0} → (X → Y) → Result X ScriptFault → Result Y ScriptFault → Type 0
GivesText view (Ok x) given = given ≡ Ok (view x)
GivesText view (Err f) given = FailsThere f.line f.kind given

-- the value after a step that may fail is what the step gives
abbrev pub Becomes : {X : Type 0} → Result (Unit {0}) FaultKind → X → Result X FaultKind → Type 0
Becomes (Ok u) new given = given ≡ Ok new
Becomes (Err k) new given = FailsAs k given

-- the fault of a word that is no path
abbrev pub path_fault_of : PathFault → FaultKind
path_fault_of path.OutOfMemory = kind.OutOfMemory
path_fault_of f = kind.BadPath f

-- words with one more, unless that is empty
abbrev pub pushed_word : List (List ℕ) → List ℕ → Result (List (List ℕ)) FaultKind
pushed_word words word = if is_empty word then Err kind.BadLine else Ok (words ++ word ∷ [])
