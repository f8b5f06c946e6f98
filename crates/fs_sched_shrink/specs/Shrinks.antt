-- The smallest script that still has something.
use Rattle.std.specs.Prelude.{ℕ, ◌≡◌, ◌<◌, ◌⊎◌, Bool, true, false, List, [], length, slice_set, get_or, Ok, Option, Some, None}
use Rattle.fs_script.specs.Limits.{calls_in}
use Rattle.fs_script.specs.Script.{script_of}
use Rattle.fs_script.specs.declared.script.Script.{Script}
use Rattle.fs_sched.specs.Origins.{StopsAtSome}
use Rattle.fs_sched.specs.Runs.{StopsBy}
use Rattle.fs_sched.specs.declared.origin.Origin.{Origin}
use Rattle.fs_sched.specs.declared.origin.Origin.TheVariants.{Root, Tree}
use Rattle.fs_sched.specs.declared.schedule.Schedule.TheVariants.{Given}
use Rattle.fs_verdict.specs.declared.fault.RunFault.{RunFault}
use Rattle.fs_verdict.specs.declared.fault.RunFault.TheVariants.{UnderWay}
use Rattle.fs_sched_start.specs.Starts.{BeginsAt}
use Rattle.fs_sched_find.specs.Finds.{RunHasOn}
use Rattle.fs_sched_find.specs.What.{names_calls}
use Rattle.fs_sched_find.specs.declared.what.Clause.{Clause}
use Rattle.fs_sched_shrink.specs.Kept.{kept_script, items_in}
use Rattle.fs_sched_shrink.specs.Moves.{moved, is_named}
use Rattle.fs_sched_shrink.specs.Telling.{what_text}
use Rattle.fs_sched_shrink.specs.declared.shrinking.Shrunk.{Shrunk}
use Rattle.fs_sched_shrink.specs.declared.limits.TheConstants.{TRIAL_LIMIT}

-- there is no run of a script by its own words from there: it comes to a checkpoint while calls are under way; from a tree it may also come to a begin when all numbers are in use
abbrev pub StopsOn : Origin → Script → Type 0
StopsOn Root script = (c : ℕ) × StopsBy Given script (UnderWay c)
StopsOn (Tree tree) script = (f : RunFault) × StopsAtSome Given script tree f

-- the run of a script by its own words from there has what is said; or it has not, or there is no such run
abbrev pub IsTriedOn : Origin → Script → List (List Clause) → Bool → Type 0
IsTriedOn from script what true = RunHasOn from Given script what true
IsTriedOn from script what false = RunHasOn from Given script what false ⊎ StopsOn from script

-- the same of the script with those of its calls and words that stay, where what is said names its calls by their new places
abbrev pub IsKeptOn : Origin → Script → List (List Clause) → List Bool → Bool → Type 0
IsKeptOn from script what kept b = IsTriedOn from (kept_script kept script) (moved kept script what) b

-- flags of the calls and words of a script: the calls that are named stay, and the script has what is said
pub record IsShrunkOn (from : Origin) (script : Script) (what : List (List Clause)) (kept : List Bool) : Type 0 where
  pub sized : length kept ≡ items_in script
  pub named : (at : ℕ) → at < length kept → is_named script what at ≡ true → get_or kept at false ≡ true
  pub has : IsKeptOn from script what kept true

-- of those that stay no call that is not named, and no word, can go
abbrev pub IsSmallestOn : Origin → Script → List (List Clause) → List Bool → Type 0
IsSmallestOn from script what kept = (at : ℕ) → get_or kept at false ≡ true → is_named script what at ≡ false → IsKeptOn from script what (slice_set kept at false) false

-- what was made of a script by its flags: it is read back as the script with what stays, of which so much is told
pub record IsMadeOn (from : Origin) (script : Script) (what : List (List Clause)) (kept : List Bool) (shrunk : Shrunk) (text : List ℕ) : Type 0 where
  pub stays : IsShrunkOn from script what kept
  pub read : script_of text ≡ Ok (kept_script kept script)
  pub calls : shrunk.calls ≡ calls_in (kept_script kept script).lists
  pub words : shrunk.words ≡ length (kept_script kept script).words
  pub said : shrunk.said.items ≡ what_text (moved kept script what)
  pub smallest : shrunk.is_smallest ≡ true → IsSmallestOn from script what kept
  pub stopped : shrunk.is_smallest ≡ false → shrunk.runs ≡ TRIAL_LIMIT

-- what is made of a script: nothing where its run has not what is said
abbrev pub IsShrinkingOn : Origin → Script → List (List Clause) → Option Shrunk → List ℕ → Type 0
IsShrinkingOn from script what None text = RunHasOn from Given script what false × (text ≡ [])
IsShrinkingOn from script what (Some shrunk) text = (kept : List Bool) × IsMadeOn from script what kept shrunk text

-- the same of the script that an input has, whose runs begin at the tree that a text has by the limits of the script, or at the root alone if there is none
abbrev pub IsShrinkingAt : Option (List ℕ) → List (List Clause) → List ℕ → Option Shrunk → List ℕ → Type 0
IsShrinkingAt tree what input end text = (script : Script) × (from : Origin) × (script_of input ≡ Ok script) × BeginsAt script.limits tree from × (names_calls script what ≡ true) × IsShrinkingOn from script what end text
