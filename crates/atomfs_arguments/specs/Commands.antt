-- What the command line asks for.
use Rattle.std.specs.Prelude.{ℕ, ◌≡◌, ◌≤◌, ◌<◌, ◌^◌, Bool, true, false, not, ◌&&◌, if◌then◌else◌, List, [], ◌++◌, map, option_map, Option, Some, None, codes}
use Rattle.std.specs.Borrow.{Bor}
use Rattle.std.specs.Str.{bytes_eq}
use Rattle.std.specs.Str.Parse.{IsNumeral, digits_value, without_leading_plus}
use Rattle.clap.specs.Matches.{matched_of, one_text, raw_values}
use Rattle.clap.specs.declared.parser.matches.Found.{Found}
use Rattle.clap.specs.declared.parser.matches.MatchedArg.{MatchedArg}
use Rattle.fs_sched.specs.declared.policy.Policy.{Policy}
use Rattle.fs_sched.specs.declared.policy.Policy.TheVariants as policy
use Rattle.fs_sched.specs.declared.seeding.TheConstants.{SEED_LIMIT, RUN_LIMIT}
use Rattle.fs_sched_outcomes.specs.declared.running.TheConstants.{OUTCOME_LIMIT}
use Rattle.fs_sched_outcomes.specs.declared.lines.Form.{Form}
use Rattle.fs_draw.specs.declared.view.View.{View}
use Rattle.fs_sched_find.specs.declared.finding.TheConstants.{SEARCH_LIMIT}
use Rattle.fs_linearize_text.specs.declared.linearizing.TheConstants.{CONFIGURATION_LIMIT}
use Rattle.fs_trace_replay.specs.declared.asking.Asked.{Asked}
use Rattle.fs_trace_replay.specs.declared.asking.Asked.TheVariants as asked
use Rattle.fs_sched_outcomes.specs.Asserts.{word_of}
use Rattle.fs_sched_outcomes.specs.declared.assertion.Quantifier.{Quantifier}
use Rattle.fs_sched_outcomes.specs.declared.assertion.Quantifier.TheVariants.{Never, Always, Sometimes}
use Rattle.atomfs_arguments.specs.declared.subcommand.Asserted.{Asserted}
use Rattle.atomfs_arguments.specs.declared.subcommand.Color.{Color}
use Rattle.atomfs_arguments.specs.declared.subcommand.Color.TheVariants as color
use Rattle.atomfs_arguments.specs.declared.subcommand.Drawing.{Drawing}
use Rattle.atomfs_arguments.specs.declared.subcommand.Drawing.TheVariants.{Picture, Page}
use Rattle.atomfs_arguments.specs.declared.subcommand.Drawn.{Drawn}
use Rattle.atomfs_arguments.specs.declared.subcommand.Format.{Format}
use Rattle.atomfs_arguments.specs.declared.subcommand.Format.TheVariants.{Text, Json}
use Rattle.atomfs_arguments.specs.declared.subcommand.Subcommand.{Subcommand}
use Rattle.atomfs_arguments.specs.declared.subcommand.Subcommand.TheVariants.{Run, Seeds, Outcomes, AddedOutcomes, Find, Shrink, Tree, Threads, Check, Linearize, Trace, Draw, Schedule, Explain}

-- the word by which a subcommand is asked for
abbrev pub name_of : Subcommand → List ℕ
name_of (Run schedule from) = codes "run"
name_of (Seeds drawn format) = codes "seeds"
name_of (Outcomes drawn form) = codes "outcomes"
name_of (AddedOutcomes form) = codes "outcomes"
name_of (Find what drawn format) = codes "find"
name_of (Shrink what from) = codes "shrink"
name_of (Tree schedule asked) = codes "tree"
name_of (Threads journal) = codes "threads"
name_of (Check format) = codes "check"
name_of (Linearize histories limit recorded) = codes "linearize"
name_of (Trace schedule every format) = codes "trace"
name_of (Draw schedule drawing) = codes "draw"
name_of (Schedule schedule) = codes "schedule"
name_of (Explain first second) = codes "explain"

-- the numbers of drawn runs are within their ranges
abbrev pub AreWithin : ℕ → Drawn → Type 0
AreWithin most drawn = (drawn.seed ≤ SEED_LIMIT) × (1 ≤ drawn.runs) × (drawn.runs ≤ most)

-- and so is the limit of a search
abbrev pub IsWithin : Subcommand → Type 0
IsWithin (Run schedule from) = Unit {0}
IsWithin (Seeds drawn format) = AreWithin RUN_LIMIT drawn
IsWithin (Outcomes drawn form) = AreWithin OUTCOME_LIMIT drawn
IsWithin (AddedOutcomes form) = Unit {0}
IsWithin (Find what drawn format) = AreWithin SEARCH_LIMIT drawn
IsWithin (Shrink what from) = Unit {0}
IsWithin (Tree schedule asked) = Unit {0}
IsWithin (Threads journal) = Unit {0}
IsWithin (Check format) = Unit {0}
IsWithin (Linearize histories limit recorded) = (1 ≤ limit) × (limit ≤ CONFIGURATION_LIMIT)
IsWithin (Trace schedule every format) = Unit {0}
IsWithin (Draw schedule drawing) = Unit {0}
IsWithin (Schedule schedule) = Unit {0}
IsWithin (Explain first second) = Unit {0}

-- ---- what the options say

-- the number that an option gives, by its digits
pub record IsNumberOf (found : Found) (id : List ℕ) (n : ℕ) : Type 0 where
  pub text : List ℕ
  pub given : one_text found id ≡ Some text
  pub numeral : IsNumeral 10 (without_leading_plus text)
  pub value : digits_value 10 (without_leading_plus text) ≡ n
  pub fits : n < 2 ^ 64

-- the number that an option gives, or that it is not there
abbrev pub GivesNumber : Found → List ℕ → Option ℕ → Type 0
GivesNumber found id (Some n) = IsNumberOf found id n
GivesNumber found id None = one_text found id ≡ None

-- the numbers of drawn runs that options give, within their ranges
pub record AreNumbersOf (found : Found) (most seed runs : ℕ) : Type 0 where
  pub first : IsNumberOf found (codes "seed") seed
  pub many : IsNumberOf found (codes "runs") runs
  pub greatest : seed ≤ SEED_LIMIT
  pub some : 1 ≤ runs
  pub fewest : runs ≤ most

-- how schedules are drawn: by priorities of the depth that is given, or with each thread as likely as the others
abbrev pub IsPolicyOf : Found → Policy → Type 0
IsPolicyOf found policy.Uniform = one_text found (codes "priorities") ≡ None
IsPolicyOf found (policy.Priorities depth) = IsNumberOf found (codes "priorities") depth

-- whether a flag is given
abbrev pub IsFlagOf : Found → List ℕ → Bool → Type 0
IsFlagOf found id given = one_text found id ≡ Some (if given then codes "true" else codes "false")

-- how what comes of a command is written
abbrev pub IsFormatOf : Found → Format → Type 0
IsFormatOf found Text = IsFlagOf found (codes "json") false
IsFormatOf found Json = IsFlagOf found (codes "json") true

-- what a picture shows, and how
pub record IsViewOf (found : Found) (view : View) : Type 0 where
  pub around : GivesNumber found (codes "around") view.around
  pub width : GivesNumber found (codes "width") view.width
  pub folds : IsFlagOf found (codes "fold") view.folds

-- a picture of all that a history has is drawn
abbrev pub IsWholePicture : Drawing → Type 0
IsWholePicture (Picture view) = view.around ≡ None
IsWholePicture Page = ⊥

abbrev pub IsSomePicture : Option Drawing → Type 0
IsSomePicture (Some drawing) = IsWholePicture drawing
IsSomePicture None = ⊥

-- when there are colours, by the word that says so
abbrev pub color_named : List ℕ → Color
color_named word = if bytes_eq word (codes "always") then color.Always else (if bytes_eq word (codes "never") then color.Never else color.Auto)

-- whether there are colours, on a terminal or not, where the environment asks for none or does not
abbrev pub is_on : Color → Bool → Bool → Bool
is_on color.Auto terminal no_color = terminal && not no_color
is_on color.Always terminal no_color = true
is_on color.Never terminal no_color = false

-- what is written of the ends of runs
abbrev pub IsFormOf : Found → Form → Type 0
IsFormOf found form = IsFlagOf found (codes "all") form.all × IsFlagOf found (codes "trees") form.trees × IsFlagOf found (codes "json") form.json

-- an assertion's quantifier and its words
abbrev pub said : Asserted → Quantifier × List ℕ
said a = (a.quantifier, a.text.now)

-- the values of an option, in the order in which they are given
abbrev pub values_in : Option MatchedArg → List (List ℕ)
values_in None = []
values_in (Some given) = raw_values given

-- what is asserted by the option of a quantifier's word
abbrev pub said_by : Found → Quantifier → List (Quantifier × List ℕ)
said_by found quantifier = map (λ text. (quantifier, text)) (values_in (matched_of found (word_of quantifier)))

-- and by all three
abbrev pub all_said : Found → List (Quantifier × List ℕ)
all_said found = (said_by found Never ++ said_by found Always) ++ said_by found Sometimes

-- drawn runs from this number on, so many, by this policy, from the tree in the file that is named
pub record AreDrawnSo (file : Option (List ℕ)) (first most : ℕ) (wanted : Policy) (drawn : Drawn) : Type 0 where
  pub from : option_map (λ (word : Bor (List ℕ)). word.now) drawn.from ≡ file
  pub seed : drawn.seed ≡ first
  pub runs : drawn.runs ≡ most
  pub by : drawn.by ≡ wanted

abbrev pub IfDrawn : Option (List ℕ) → ℕ → ℕ → Policy → Option Drawn → Type 0
IfDrawn file first most by (Some drawn) = AreDrawnSo file first most by drawn
IfDrawn file first most by None = ⊥

-- they are checked, and written so
abbrev pub IsSeeds : Option (List ℕ) → ℕ → ℕ → Policy → Format → Subcommand → Type 0
IsSeeds file first most by wanted (Seeds drawn format) = AreDrawnSo file first most by drawn × (format ≡ wanted)
IsSeeds file first most by wanted other = ⊥

abbrev pub DrawsRuns : Option (List ℕ) → ℕ → ℕ → Policy → Format → Option Subcommand → Type 0
DrawsRuns file first most by wanted (Some subcommand) = IsSeeds file first most by wanted subcommand
DrawsRuns file first most by wanted None = ⊥

-- their ends are counted, and written so
abbrev pub IsOutcomes : Option (List ℕ) → ℕ → ℕ → Policy → Form → Subcommand → Type 0
IsOutcomes file first most by wanted (Outcomes drawn form) = AreDrawnSo file first most by drawn × (form ≡ wanted)
IsOutcomes file first most by wanted other = ⊥

abbrev pub CountsEnds : Option (List ℕ) → ℕ → ℕ → Policy → Form → Option Subcommand → Type 0
CountsEnds file first most by wanted (Some subcommand) = IsOutcomes file first most by wanted subcommand
CountsEnds file first most by wanted None = ⊥

-- they are searched for this, and what is found is written so
abbrev pub IsSearch : Option (List ℕ) → List ℕ → ℕ → ℕ → Policy → Format → Subcommand → Type 0
IsSearch file text first most by wanted (Find what drawn format) = (what.now ≡ text) × AreDrawnSo file first most by drawn × (format ≡ wanted)
IsSearch file text first most by wanted other = ⊥

abbrev pub SearchesFor : Option (List ℕ) → List ℕ → ℕ → ℕ → Policy → Format → Option Subcommand → Type 0
SearchesFor file text first most by wanted (Some subcommand) = IsSearch file text first most by wanted subcommand
SearchesFor file text first most by wanted None = ⊥

-- a script is to shrink to what has this, from the tree in the file that is named
abbrev pub IsShrink : Option (List ℕ) → List ℕ → Subcommand → Type 0
IsShrink file text (Shrink what from) = (option_map (λ (word : Bor (List ℕ)). word.now) from ≡ file) × (what.now ≡ text)
IsShrink file text other = ⊥

abbrev pub ShrinksFor : Option (List ℕ) → List ℕ → Option Subcommand → Type 0
ShrinksFor file text (Some subcommand) = IsShrink file text subcommand
ShrinksFor file text None = ⊥

-- a trace of every event, or of those with news, is written so
abbrev pub TracesSo : Bool → Format → Subcommand → Type 0
TracesSo all wanted (Trace schedule every format) = (every ≡ all) × (format ≡ wanted)
TracesSo all wanted other = ⊥

-- the question that asks for the tree before the commit of this call
abbrev pub AsksBefore : List ℕ → Asked → Type 0
AsksBefore text (asked.Before word) = word.now ≡ text
AsksBefore text other = ⊥

-- the question that asks who last changed what stands at this path
abbrev pub AsksWho : List ℕ → Asked → Type 0
AsksWho text (asked.Who word) = word.now ≡ text
AsksWho text other = ⊥
