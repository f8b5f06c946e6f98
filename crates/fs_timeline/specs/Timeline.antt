-- Timelines: lists of entries, and which of them are well formed and lawful.
use Rattle.std.specs.Prelude.{◌≡◌, ℕ, ◌+◌, Bool, true, false, List, [], ◌∷◌, ◌++◌, not, map, ◌==◌, if◌then◌else◌, Option, Some, None}
use Rattle.std.specs.List.{list_any}
use Rattle.fs_names.specs.Failures.{or_else, first_failure}
use Rattle.fs_calls.specs.Starts.{Start}
use Rattle.fs_calls.specs.Outcomes.{reply_at, next_start}
use Rattle.fs_calls.specs.declared.call.Call.{Call}
use Rattle.fs_calls.specs.declared.reply.Reply.{Reply}
use Rattle.fs_timeline.specs.declared.entry.Entry.{Entry}
use Rattle.fs_timeline.specs.declared.entry.Entry.TheVariants.{Begin, Commit, Return}

-- a timeline in memory: its entries, and for how many more a place is reserved
pub record TimelineValue : Type 0 where
  pub entries : List Entry
  pub reserved : ℕ

-- whether an entry is the Begin of the call of a number
abbrev pub is_begin : ℕ → Entry → Bool
is_begin c (Begin d seat call) = c == d
is_begin c (Commit d) = false
is_begin c (Return d r) = false

-- whether an entry is its Commit
abbrev pub is_commit : ℕ → Entry → Bool
is_commit c (Begin d seat call) = false
is_commit c (Commit d) = c == d
is_commit c (Return d r) = false

-- whether an entry is its Return
abbrev pub is_return : ℕ → Entry → Bool
is_return c (Begin d seat call) = false
is_return c (Commit d) = false
is_return c (Return d r) = c == d

-- whether the call of a number has begun
abbrev pub has_begun : ℕ → List Entry → Bool
has_begun c es = list_any (is_begin c) es

-- whether it has committed
abbrev pub has_committed : ℕ → List Entry → Bool
has_committed c es = list_any (is_commit c) es

-- whether it has returned
abbrev pub has_returned : ℕ → List Entry → Bool
has_returned c es = list_any (is_return c) es

-- the number of the call that an entry begins on a seat
abbrev pub begun_on : ℕ → Entry → Option ℕ
begun_on s (Begin c seat call) = if s == seat then Some c else None
begun_on s (Commit c) = None
begun_on s (Return c r) = None

-- the number of the last call that began on a seat
abbrev pub last_on : ℕ → List Entry → Option ℕ
last_on s [] = None
last_on s (e ∷ es) = or_else (last_on s es) (begun_on s e)

-- whether there is such a call, and it has not returned
abbrev pub is_open : Option ℕ → List Entry → Bool
is_open None es = false
is_open (Some c) es = not (has_returned c es)

-- whether a seat's last call has not returned
abbrev pub is_busy : ℕ → List Entry → Bool
is_busy s es = is_open (last_on s es) es

-- the call that an entry begins under a number
abbrev pub begun_as : ℕ → Entry → Option Call
begun_as c (Begin d seat call) = if c == d then Some call else None
begun_as c (Commit d) = None
begun_as c (Return d r) = None

-- the call of a number, by its first Begin
abbrev pub call_of : ℕ → List Entry → Option Call
call_of c es = first_failure (map (begun_as c) es)

-- a list with one call more in front, if there is one
abbrev pub with_call : Option Call → List Call → List Call
with_call None calls = calls
with_call (Some call) calls = call ∷ calls

-- the calls of the Commit entries, in order; their Begins stand in `whole`
abbrev pub commits_of : List Entry → List Entry → List Call
commits_of whole [] = []
commits_of whole (Begin c seat call ∷ es) = commits_of whole es
commits_of whole (Commit c ∷ es) = with_call (call_of c whole) (commits_of whole es)
commits_of whole (Return c r ∷ es) = commits_of whole es

-- the calls that a timeline commits
abbrev pub commits : List Entry → List Call
commits es = commits_of es es

-- what stands before the Commit of a call
abbrev pub before_commit : ℕ → List Entry → List Entry
before_commit c [] = []
before_commit c (e ∷ es) = if is_commit c e then [] else e ∷ before_commit c es

-- the reply that the sequential tree gives a call after these calls, from a start tree
abbrev pub reply_after : Start → List Call → Option Call → Option Reply
reply_after start calls None = None
reply_after start calls (Some call) = Some (reply_at (next_start start calls) call)

-- the reply that is due to the call of a number
abbrev pub due : Start → ℕ → List Entry → Option Reply
due start c es = reply_after start (commits (before_commit c es)) (call_of c es)

-- the entry may come next: a call begins once, on a seat whose last call has returned; commits once, after its Begin; returns once, after its Commit
abbrev pub IsNext : List Entry → Entry → Type 0
IsNext before (Begin c seat call) = (has_begun c before ≡ false) × (is_busy seat before ≡ false)
IsNext before (Commit c) = (has_begun c before ≡ true) × (has_committed c before ≡ false)
IsNext before (Return c r) = (has_committed c before ≡ true) × (has_returned c before ≡ false)

-- a returned reply is the one that is due
abbrev pub IsAnswered : Start → List Entry → Entry → Type 0
IsAnswered start before (Begin c seat call) = Unit {0}
IsAnswered start before (Commit c) = Unit {0}
IsAnswered start before (Return c r) = due start c before ≡ Some r

-- each entry has its property with those before it
abbrev pub Each : (List Entry → Entry → Type 0) → List Entry → List Entry → Type 0
Each P before [] = Unit {0}
Each P before (e ∷ es) = P before e × Each P (before ++ e ∷ []) es

-- each entry may come next after those before it
abbrev pub IsWellFormed : List Entry → Type 0
IsWellFormed es = Each IsNext [] es

-- well formed, and each reply is the one that is due, where the commits are played from a start tree
pub record IsLawful (start : Start) (es : List Entry) : Type 0 where
  pub well_formed : IsWellFormed es
  pub replies : Each (IsAnswered start) [] es

-- how many calls began
abbrev pub begins : List Entry → ℕ
begins [] = 0
begins (Begin n seat call ∷ es) = begins es + 1
begins (Commit n ∷ es) = begins es
begins (Return n r ∷ es) = begins es

-- how many calls committed
abbrev pub commit_count : List Entry → ℕ
commit_count [] = 0
commit_count (Begin n seat call ∷ es) = commit_count es
commit_count (Commit n ∷ es) = commit_count es + 1
commit_count (Return n r ∷ es) = commit_count es
