-- What is asserted of drawn runs, and which run decides it.
use Rattle.std.specs.Prelude.{ℕ, ◌≡◌, ◌+◌, ◌≤◌, ◌<◌, Bool, true, false, not, ◌&&◌, List, [], ◌∷◌, Ok, Option, is_some, codes}
use Rattle.std.specs.List.{list_all}
use Rattle.fs_script.specs.Script.{script_of}
use Rattle.fs_script.specs.declared.script.Script.{Script}
use Rattle.fs_sched.specs.Schedules.{schedule_by}
use Rattle.fs_sched.specs.declared.policy.Campaign.{Campaign}
use Rattle.fs_sched.specs.declared.policy.Policy.{Policy}
use Rattle.fs_sched_start.specs.Starts.{ArePlanned}
use Rattle.fs_sched_outcomes.specs.Outcomes.{AreLinesOn, AreOutcomes, IsSeen}
use Rattle.fs_sched_outcomes.specs.declared.rows.Row.{Row}
use Rattle.fs_sched_seen.specs.declared.seen.Seen.{Seen}
use Rattle.fs_sched_outcomes.specs.declared.lines.Form.{Form}
use Rattle.fs_sched_find.specs.Finds.{RunHasOn, IsFoundOn}
use Rattle.fs_sched_find.specs.What.{names_calls}
use Rattle.fs_sched_find.specs.declared.what.Clause.{Clause}
use Rattle.fs_sched_outcomes.specs.declared.assertion.Assertion.{Assertion}
use Rattle.fs_sched_outcomes.specs.declared.assertion.Quantifier.{Quantifier}
use Rattle.fs_sched_outcomes.specs.declared.assertion.Quantifier.TheVariants.{Never, Always, Sometimes}

-- the word by which it is asked for
abbrev pub word_of : Quantifier → List ℕ
word_of Never = codes "never"
word_of Always = codes "always"
word_of Sometimes = codes "sometimes"

-- whether a run that decides it has what is said: one that has it decides `never` and `sometimes`, one that has it not `always`
abbrev pub deciding : Quantifier → Bool
deciding Never = true
deciding Always = false
deciding Sometimes = true

-- the first of so many runs that decides an assertion, if one does
abbrev pub IsDecidedOn : Campaign → Script → ℕ → ℕ → Assertion → Option ℕ → Type 0
IsDecidedOn drawn script seed runs a decided = IsFoundOn drawn (deciding a.quantifier) script a.what.items seed runs decided

-- the same of each
abbrev pub AreDecidedOn : Campaign → Script → ℕ → ℕ → List Assertion → List (Option ℕ) → Type 0
AreDecidedOn drawn script seed runs [] [] = Unit {0}
AreDecidedOn drawn script seed runs [] (d ∷ ds) = ⊥
AreDecidedOn drawn script seed runs (a ∷ more) [] = ⊥
AreDecidedOn drawn script seed runs (a ∷ more) (d ∷ ds) = IsDecidedOn drawn script seed runs a d × AreDecidedOn drawn script seed runs more ds

-- whether it holds: a run that decides `never` or `always` breaks it, and `sometimes` asks for one
abbrev pub holds : Quantifier → Option ℕ → Bool
holds Never decided = not (is_some decided)
holds Always decided = not (is_some decided)
holds Sometimes decided = is_some decided

-- whether all do
abbrev pub all_hold : List Assertion → List (Option ℕ) → Bool
all_hold [] ds = true
all_hold (a ∷ more) [] = true
all_hold (a ∷ more) (d ∷ ds) = holds a.quantifier d && all_hold more ds

-- ---- what that says of all the runs

-- each of them has what is said, or each has it not
abbrev pub EachHas : Campaign → Bool → Script → List (List Clause) → ℕ → ℕ → Type 0
EachHas drawn b script what seed runs = (k : ℕ) → seed ≤ k → k < seed + runs → RunHasOn drawn.from (schedule_by drawn.by k) script what b

-- one of them has it, or one has it not
abbrev pub OneHas : Campaign → Bool → Script → List (List Clause) → ℕ → ℕ → Type 0
OneHas drawn b script what seed runs = (k : ℕ) × (seed ≤ k) × (k < seed + runs) × RunHasOn drawn.from (schedule_by drawn.by k) script what b

-- none has it; each has it; one has it
abbrev pub IsSo : Campaign → Quantifier → Script → List (List Clause) → ℕ → ℕ → Type 0
IsSo drawn Never script what seed runs = EachHas drawn false script what seed runs
IsSo drawn Always script what seed runs = EachHas drawn true script what seed runs
IsSo drawn Sometimes script what seed runs = OneHas drawn true script what seed runs

-- one has it; one has it not; none has it
abbrev pub IsBroken : Campaign → Quantifier → Script → List (List Clause) → ℕ → ℕ → Type 0
IsBroken drawn Never script what seed runs = OneHas drawn true script what seed runs
IsBroken drawn Always script what seed runs = OneHas drawn false script what seed runs
IsBroken drawn Sometimes script what seed runs = EachHas drawn false script what seed runs

-- an assertion that holds is so, and one that does not is broken
abbrev pub HoldsAsSaid : Type 0
HoldsAsSaid = (drawn : Campaign) (script : Script) (seed runs : ℕ) (a : Assertion) (decided : Option ℕ) → IsDecidedOn drawn script seed runs a decided
    → (holds a.quantifier decided ≡ true → IsSo drawn a.quantifier script a.what.items seed runs) × (holds a.quantifier decided ≡ false → IsBroken drawn a.quantifier script a.what.items seed runs)

-- ---- of an input

-- a script has each call that assertions name
abbrev pub name_calls : Script → List Assertion → Bool
name_calls script asserts = list_all (λ (a : Assertion). names_calls script a.what.items) asserts

-- the script that an input has lacks a call that is named
abbrev pub LacksCalls : List Assertion → List ℕ → Type 0
LacksCalls asserts input = (script : Script) × (script_of input ≡ Ok script) × (name_calls script asserts ≡ false)

-- the script that an input has names the calls, these are the first of its runs that decide, by the text of a tree, if there is one, and by a policy, and this text has the lines of the ends of these runs, in which so much was seen
abbrev pub AreAssertedAt : List Assertion → Option (List ℕ) → Policy → ℕ → ℕ → Form → List ℕ → List (Option ℕ) → Seen → List ℕ → Type 0
AreAssertedAt asserts tree by seed runs form input decided seen text =
    (script : Script) × (drawn : Campaign) × ArePlanned tree by input script drawn × (name_calls script asserts ≡ true) × AreDecidedOn drawn script seed runs asserts decided × AreLinesOn drawn script seed runs form seen text

-- so much was seen in the runs of the script that an input has, by the text of a tree, if there is one, and by a policy
abbrev pub IsSeenAt : Option (List ℕ) → Policy → ℕ → ℕ → List ℕ → Seen → Type 0
IsSeenAt tree by seed runs input seen =
    (script : Script) × (drawn : Campaign) × ArePlanned tree by input script drawn × (rows : List Row) × AreOutcomes drawn script seed runs rows × IsSeen drawn script seed runs rows seen
