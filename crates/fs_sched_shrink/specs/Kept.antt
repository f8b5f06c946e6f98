-- A script with some of its calls and words.
use Rattle.std.specs.Prelude.{ℕ, ◌+◌, Bool, false, List, [], ◌∷◌, length, drop, get_or, if◌then◌else◌}
use Rattle.fs_calls.specs.declared.call.Call.{Call}
use Rattle.fs_script.specs.Limits.{calls_in}
use Rattle.fs_script.specs.declared.script.Script.{Script}

-- those of these items that stay: each has a flag, in order, and one without a flag goes
abbrev pub picked : {X : Type 0} → List X → List Bool → List X
picked [] kept = []
picked (x ∷ xs) kept = if get_or kept 0 false then x ∷ picked xs (drop 1 kept) else picked xs (drop 1 kept)

-- the same of each list of calls; the flags of a list stand behind those of the lists before it
abbrev pub kept_lists : List (List Call) → List Bool → List (List Call)
kept_lists [] kept = []
kept_lists (calls ∷ lists) kept = picked calls kept ∷ kept_lists lists (drop (length calls) kept)

-- a script with those of its calls and words that stay: the flags of its words stand behind those of all calls
abbrev pub kept_script : List Bool → Script → Script
kept_script kept s = record s { lists = kept_lists s.lists kept; words = picked s.words (drop (calls_in s.lists) kept) }

-- how many flags a script has: one for each call and each word
abbrev pub items_in : Script → ℕ
items_in s = calls_in s.lists + length s.words
