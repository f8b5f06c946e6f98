-- What a history says: the tree at which it starts, and the calls that were played on it.
use Rattle.std.specs.Prelude.{◌≡◌, List, [], ◌∷◌}
use mathlib.Core.List.{IsPrefix}
use Rattle.fs_names.specs.declared.limits.Limits.TheVariants.{V1}
use Rattle.fs_calls.specs.Starts.{Start, root_start}
use Rattle.fs_calls.specs.declared.call.Call.{Call}
use Rattle.fs_share_observe.specs.declared.history.Noted.{Noted}
use Rattle.fs_share_observe.specs.declared.history.Noted.TheVariants.{Began, Played}

-- a start tree, and a list of calls
pub record Past : Type 0 where
  pub start : Start
  pub list : List Call

abbrev pub start_of : List Noted → Start
start_of [] = root_start V1
start_of (Began tree ∷ log) = tree
start_of (Played call ∷ log) = root_start V1

abbrev pub calls_of : List Noted → List Call
calls_of [] = []
calls_of (Began tree ∷ log) = calls_of log
calls_of (Played call ∷ log) = call ∷ calls_of log

abbrev pub past_of : List Noted → Past
past_of log = record { start = start_of log; list = calls_of log }

abbrev pub AllPlayed : List Noted → Type 0
AllPlayed [] = Unit {0}
AllPlayed (Began tree ∷ log) = ⊥
AllPlayed (Played call ∷ log) = AllPlayed log

-- the start tree comes first, and then calls alone
abbrev pub IsNoted : List Noted → Type 0
IsNoted [] = ⊥
IsNoted (Began tree ∷ log) = AllPlayed log
IsNoted (Played call ∷ log) = ⊥

-- q goes on from p: it has the same start tree, and its list begins with p's
abbrev pub GoesOn : Past → Past → Type 0
GoesOn p q = (p.start ≡ q.start) × IsPrefix p.list q.list
