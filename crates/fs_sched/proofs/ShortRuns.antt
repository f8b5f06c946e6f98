-- The paths of a run are those of its script's calls, so they keep the limits by which these were read, and all names do; a list is begun only
-- where these have it.
use Rattle.std.proofs.Common.{◌≡◌, ℕ, zero, suc, Bool, true, false, List, [], ◌∷◌, ◌++◌, length, get_or, replicate, Option, Some, None, slice_get, sym, ap, ◌∙◌, subst, Ok}
use Rattle.std.specs.Prelude.{IsTrue}
use Rattle.std.specs.List.{AllByRecursion, range_with_len}
use Rattle.fs_names.specs.Names.{Name}
use Rattle.fs_names.specs.Keys.{Key}
use Rattle.fs_names.specs.Limits.{largest, has_list}
use Rattle.fs_names.specs.Shapes.{Shape}
use Rattle.fs_names.specs.declared.limits.Limits.{Limits}
use Rattle.fs_names.proofs.ReadingLemmas.{KeepsLimits}
use Rattle.fs_calls.specs.Forms.{reserved_by}
use Rattle.fs_calls.specs.Starts.{Start}
use Rattle.fs_calls.specs.Tree.{Tree, Dir, File}
use Rattle.fs_calls.specs.declared.call.Call.{Call}
use Rattle.fs_timeline.specs.declared.entry.Entry.{Entry}
use Rattle.fs_timeline.specs.declared.entry.Entry.TheVariants.{Begin, Commit, Return}
use Rattle.fs_timeline.proofs.KeptNames.{NamesCall, NamesBegun, NamesEntry, NamesTree, lawful_kept, spelled_kept, one_more}
use Rattle.fs_nodes.specs.Graphs.{Graph}
use Rattle.fs_machine.specs.States.{State, Begins, Reserves, Step, Run, fresh}
use Rattle.fs_machine.specs.declared.answers.Stepped.{Stepped}
use Rattle.fs_machine.specs.declared.answers.Stepped.TheVariants.{Idle, Took, Busy, LetGo, Helped, Committed, CarriedOut, Returned}
use Rattle.fs_laws.proofs.journal.ViewOfTimeline.{begin_start, step_start, linearizes}
use Rattle.fs_words.proofs.PathLemmas.{IsShort}
use Rattle.fs_script.specs.Script.{script_of}
use Rattle.fs_script.specs.declared.script.Script.{Script}
use Rattle.fs_script.specs.declared.script.Word.{Word}
use Rattle.fs_script.specs.declared.script.Word.TheVariants as words
use Rattle.fs_seq.specs.Rows.{IsWithinLimits}
use Rattle.fs_text.specs.Fits.{AllFit}
use Rattle.fs_text.proofs.ShortLemmas.{short_names, all_short}
use Rattle.fs_script.specs.Journals.{is_told}
use Rattle.fs_script.specs.Laws.{FitsNode}
use Rattle.fs_script.proofs.JournalLemmas.{reads_journals_back}
use Rattle.fs_script.proofs.ShortNames.{ShortLists, short_lists}
use Rattle.fs_sched.specs.Runs.{Stage, before_all, Event, Goes, Starts, Spent, Events, ToEnd, Over, More, EndsBy, Does, Words, RunsFrom}
use Rattle.fs_sched.specs.EachRun.{IsReadAgain}
use Rattle.fs_sched.specs.Schedules.{words_by, goes_on}
use Rattle.fs_sched.specs.declared.schedule.Schedule.{Schedule}

module _ (P : Name → Type 0) (Q : Key → Type 0) (L : Type 0) (named : (k : Key) → Q k → AllByRecursion P k) (limits : Limits) where
  -- what a stage has begun has such keys, and its start tree such names
  record Named (s : Stage) : Type 0 where
    begun : AllByRecursion (NamesBegun Q L) s.state.timeline
    tree : NamesTree P s.state.start.tree
    kept : s.state.start.limits ≡ limits

  -- the calls of lists have such keys, and what a list needs besides
  abbrev Lists : List (List Call) → Type 0
  Lists lists = AllByRecursion (λ (calls : List Call). AllByRecursion (NamesCall Q L) calls) lists

  call_at : (calls : List Call) (n : ℕ) (call : Call) → AllByRecursion (NamesCall Q L) calls → slice_get calls n ≡ Some call → NamesCall Q L call
  call_at [] n call h is = absurd (cc)
  call_at (c ∷ calls) zero call h is = let same : c ≡ call = cc in subst (NamesCall Q L) same h.0
  call_at (c ∷ calls) (suc n) call h is = call_at calls n call h.1 is

  list_at : (lists : List (List Call)) (seat : ℕ) → Lists lists → AllByRecursion (NamesCall Q L) (get_or lists seat [])
  list_at [] seat h = tt
  list_at (calls ∷ lists) zero h = h.0
  list_at (calls ∷ lists) (suc seat) h = list_at lists seat h.1

  -- a state with this start and this timeline
  same_named : (old new : Stage) → new.state.start ≡ old.state.start → new.state.timeline ≡ old.state.timeline → Named old → Named new
  same_named old new a b h = record {
    begun = subst (AllByRecursion (NamesBegun Q L)) (sym b) h.begun;
    tree = subst (λ (s : Start). NamesTree P s.tree) (sym a) h.tree;
    kept = ap (λ (s : Start). s.limits) a ∙ h.kept;
  }

  more_named : (old new : Stage) (e : Entry) → new.state.start ≡ old.state.start → new.state.timeline ≡ old.state.timeline ++ e ∷ [] → NamesBegun Q L e → Named old → Named new
  more_named old new e a b g h = record {
    begun = subst (AllByRecursion (NamesBegun Q L)) (sym b) (one_more P Q L named old.state.timeline e h.begun g);
    tree = subst (λ (s : Start). NamesTree P s.tree) (sym a) h.tree;
    kept = ap (λ (s : Start). s.limits) a ∙ h.kept;
  }

  step_named : (old new : Stage) (seat : ℕ) (answer : Stepped) → Step old.state seat answer new.state → Named old → Named new
  step_named old new seat Idle (off, same) h = same_named old new (step_start old.state seat Idle new.state (off, same)) (ap (λ (s : State). s.timeline) same) h
  step_named old new seat (Busy n d) (c, op, moves, held, same) h = same_named old new (step_start old.state seat (Busy n d) new.state (c, op, moves, held, same)) (ap (λ (s : State). s.timeline) same) h
  step_named old new seat (Took n) (c, op, moves, free, same) h = same_named old new (step_start old.state seat (Took n) new.state (c, op, moves, free, same)) (ap (λ (s : State). s.timeline) same) h
  step_named old new seat (LetGo n) (c, op, moves, same) h = same_named old new (step_start old.state seat (LetGo n) new.state (c, op, moves, same)) (ap (λ (s : State). s.timeline) same) h
  step_named old new seat (Helped d) (c, op, u, moves, w, pick, q, is, same) h =
      more_named old new (Commit d) (step_start old.state seat (Helped d) new.state (c, op, u, moves, w, pick, q, is, same)) (ap (λ (s : State). s.timeline) same) tt h
  step_named old new seat Committed (c, op, o, moves, w, below, same) h =
      more_named old new (Commit c) (step_start old.state seat Committed new.state (c, op, o, moves, w, below, same)) (ap (λ (s : State). s.timeline) same) tt h
  step_named old new seat CarriedOut (c, op, o, i, moves, placed, same) h = same_named old new (step_start old.state seat CarriedOut new.state (c, op, o, i, moves, placed, same)) (ap (λ (s : State). s.timeline) same) h
  step_named old new seat (Returned r) (c, op, moves, ph, same) h =
      more_named old new (Return c r) (step_start old.state seat (Returned r) new.state (c, op, moves, ph, same)) (ap (λ (s : State). s.timeline) same) tt h

  begin_timeline : (old new : State) (seat c : ℕ) (call : Call) → Begins old seat call (Ok c) new → new.timeline ≡ old.timeline ++ Begin c seat call ∷ []
  begin_timeline old new seat c call (off, number, r) = go (reserved_by call) r
    where
      go : (o : Option Shape) → Reserves old seat call c o new → new.timeline ≡ old.timeline ++ Begin c seat call ∷ []
      go None same = ap (λ (s : State). s.timeline) same
      go (Some shape) (n, less, unused, same) = ap (λ (s : State). s.timeline) same

  event_named : (lists : List (List Call)) (old new : Stage) (seat : ℕ) → Lists lists → Event lists old seat new → Named old → Named new
  event_named lists old new seat all (Goes c answer on step kept) h = step_named old new seat answer step h
  event_named lists old new seat all (Starts c call off is begins set) h =
      more_named old new (Begin c seat call) (begin_start old.state seat call (Ok c) new.state begins) (begin_timeline old.state new.state seat c call begins)
      (call_at (get_or lists seat []) (get_or old.begun seat 0) call (list_at lists seat all) is) h
  event_named lists old new seat all (Spent off none same) h = subst Named (sym same) h

  events_named : (lists : List (List Call)) (seats : List ℕ) (old new : Stage) → Lists lists → Events lists old seats new → Named old → Named new
  events_named lists [] old new all same h = subst Named (sym same) h
  events_named lists (seat ∷ seats) old new all (middle, event, rest) h = events_named lists seats middle new all rest (event_named lists old middle seat all event h)

  does_named : (lists : List (List Call)) (w : Word) (told : List Entry) (old new : Stage) → Lists lists → Does lists old w told new → Named old → Named new
  does_named lists (words.Events seat times) told old new all (events, none) h = events_named lists (replicate times seat) old new all events h
  does_named lists words.Checkpoint told old new all (idle, is, again) h = subst Named (sym again) (record {
    begun = tt;
    tree = spelled_kept P Q L named old.state.start old.state.timeline h.tree h.begun;
    kept = h.kept;
  })
  does_named lists words.Finish told old new all (same, none) h = subst Named (sym same) h
  does_named lists words.Drawn told old new all (same, none) h = subst Named (sym same) h

  words_named : (lists : List (List Call)) (ws : List Word) (told : List Entry) (old new : Stage) → Lists lists → Words lists old ws told new → Named old → Named new
  words_named lists [] told old new all (same, none) h = subst Named (sym same) h
  words_named lists (w ∷ ws) told old new all (middle, first, rest, does, after, both) h = words_named lists ws rest middle new all after (does_named lists w first old middle all does h)

  end_named : (lists : List (List Call)) (old last : Stage) → Lists lists → ToEnd lists old last → Named old → Named last
  end_named lists old last all (Over over) h = h
  end_named lists old last all (More {middle} more round rest) h = end_named lists middle last all rest (events_named lists (range_with_len 0 (length lists)) old middle all round h)

  ends_named : (b : Bool) (lists : List (List Call)) (old last : Stage) → Lists lists → EndsBy b lists old last → Named old → Named last
  ends_named true lists old last all ends h = end_named lists old last all ends h
  ends_named false lists old last all same h = subst Named (sym same) h

  fresh_named : (limit : ℕ) (first : Start) (graph : Graph) (threads : ℕ) → NamesTree P first.tree → first.limits ≡ limits → Named (before_all (fresh limit first graph) threads)
  fresh_named limit first graph threads tree kept = record { begun = tt; tree = tree; kept = kept }

-- what the last stage of a run of a script that was read names, by the limits of the script
pub record Short (limits : Limits) (s : State) : Type 0 where
  pub entries : AllByRecursion (NamesEntry (IsShort limits) (KeepsLimits limits) (IsTrue (has_list limits))) s.timeline
  pub tree : NamesTree (IsShort limits) s.start.tree
  pub kept : s.start.limits ≡ limits

pub short_from : (schedule : Schedule) (input : List ℕ) (script : Script) (limit : ℕ) (first : Start) (graph : Graph) (told : List Entry) (last : Stage) → script_of input ≡ Ok script → NamesTree (IsShort script.limits) first.tree → first.limits ≡ script.limits → Run last.state
    → RunsFrom schedule script (before_all (fresh limit first graph) (length script.lists)) told last → Short script.limits last.state
short_from schedule input script limit first graph told last is tree kept run (middle, done, ends) =
    let all : ShortLists script = short_lists input script is in
    let names : Name → Type 0 = IsShort script.limits in
    let keys : Key → Type 0 = KeepsLimits script.limits in
    let list : Type 0 = IsTrue (has_list script.limits) in
    let named : (k : Key) → keys k → AllByRecursion names k = λ k h. h.short in
    let h = ends_named names keys list named script.limits (goes_on schedule script.words) script.lists middle last all ends
    (words_named names keys list named script.limits script.lists (words_by schedule script.words script.lists) told (before_all (fresh limit first graph) (length script.lists)) middle all done (fresh_named names keys list named script.limits limit first graph (length script.lists) tree kept)) in
    record {
      entries = lawful_kept names keys list named last.state.start last.state.timeline (linearizes last.state run).lawful h.tree h.begun;
      tree = h.tree;
      kept = h.kept;
    }

-- ---- what such a run writes is read again

-- where a start tree is told, its nodes are such as the code has
abbrev pub IsToldFit : Start → Type 0
IsToldFit start = is_told start.limits (length start.tree) ≡ true → AllByRecursion (FitsNode largest) start.tree

short_nodes : (more limits : Limits) (t : Tree) → AllByRecursion (FitsNode more) t → NamesTree (IsShort limits) t → AllByRecursion (FitsNode limits) t
short_nodes more limits [] h s = tt
short_nodes more limits ((key, Dir) ∷ t) h s = (short_names more limits key h.0 s.0, short_nodes more limits t h.1 s.1)
short_nodes more limits ((key, File bytes) ∷ t) h s = ((short_names more limits key h.0.0 s.0, h.0.1), short_nodes more limits t h.1 s.1)

pub again_short : (limits : Limits) (start : Start) (es : List Entry) → IsWithinLimits start.limits start.tree → IsToldFit start → AllFit largest es
    → AllByRecursion (NamesEntry (IsShort limits) (KeepsLimits limits) (IsTrue (has_list limits))) es → NamesTree (IsShort limits) start.tree → start.limits ≡ limits → IsReadAgain start es
again_short limits start es within told fit entries tree kept short =
    let named = subst (λ (l : Limits). AllByRecursion (NamesEntry (IsShort l) (KeepsLimits l) (IsTrue (has_list l))) es) (sym kept) entries in
    let nodes = subst (λ (l : Limits). NamesTree (IsShort l) start.tree) (sym kept) tree in
    reads_journals_back start es
    (record { within = within; told = λ is. short_nodes largest start.limits start.tree (told is) nodes })
    (all_short largest start.limits es fit named) short
