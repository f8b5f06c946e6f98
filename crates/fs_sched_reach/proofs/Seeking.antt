-- What is found of a word, step by step.
use Rattle.std.proofs.Common.{◌≡◌, ◌≢◌, ℕ, ◌+◌, ◌<◌, ◌≤◌, true, List, [], ◌++◌, length, Option, Some, None, Ok, MatchOption, refl, sym, ap, ◌∙◌, subst, inl, inr, get_or, drop, length-append, arith}
use Rattle.std.proofs.lemmas.List.{at_drop_more, at_drop_all}
use Rattle.fs_names.specs.declared.limits.Limits.{Limits}
use Rattle.fs_script.specs.Script.{script_of}
use Rattle.fs_script.specs.declared.script.Script.{Script}
use Rattle.fs_script.specs.declared.script.Word.{Word}
use Rattle.fs_sched_witness.specs.declared.moments.Moment.{Moment}
use Rattle.fs_sched.specs.Gives.{given_words, single_words}
use Rattle.fs_sched.specs.Watching.{WatchesOn}
use Rattle.fs_sched.specs.code.Done.{IsStopOn}
use Rattle.fs_sched.specs.declared.origin.Origin.{Origin}
use Rattle.fs_sched.specs.declared.origin.Origin.TheVariants.{Root, Tree}
use Rattle.fs_sched.specs.declared.schedule.Schedule.TheVariants.{Given}
use Rattle.fs_sched.specs.declared.watching.Ran.{Ran}
use Rattle.fs_verdict.specs.declared.fault.RunFault.{RunFault}
use Rattle.fs_verdict.specs.declared.fault.RunFault.TheVariants.{Input, Read, Write, OutOfMemory, Full, UnderWay}
use Rattle.fs_sched_reach.specs.Counts.{moments_before, ComesBy, NeverComes, HasNoCount, IsCount}
use Rattle.fs_sched_reach.specs.Counts as counts
use Rattle.fs_sched_reach.specs.Words.{CallWord, times_word}
use Rattle.fs_sched_reach.specs.code.Counting.{CountsBy, HasNoScript, HasNoTarget, IsSought, RunCounts, RunFails, is_stop}
use Rattle.fs_sched_reach.specs.code.Hearing.{Answers, Follows, HasHeard}
use Rattle.fs_sched_reach.specs.declared.counting.Sought.{Sought}
use Rattle.fs_sched_reach.specs.declared.lookout.Lookout.{Lookout}
use Rattle.fs_sched_reach.specs.declared.target.Target.{Target}

-- ---- a run

pub stops_by : (from : Origin) (script : Script) (target : Target) (fault : RunFault) → is_stop fault ≡ true → IsStopOn from Given script fault → RunFails from script target
stops_by from script target (Input f) is stops = absurd (cc)
stops_by from script target Read is stops = absurd (cc)
stops_by from script target Write is stops = absurd (cc)
stops_by from script target OutOfMemory is stops = absurd (cc)
stops_by Root script target Full is stops = absurd stops
stops_by (Tree tree) script target Full is stops = inl (Full, stops)
stops_by Root script target (UnderWay c) is stops = inl (UnderWay c, stops)
stops_by (Tree tree) script target (UnderWay c) is stops = inl (UnderWay c, stops)

pub run_stopped : (from : Origin) (script : Script) (target : Target) (before : ℕ) (fault : RunFault) (answer : Option ℕ) → (answer ≡ None) × (is_stop fault ≡ true) → IsStopOn from Given script fault → RunCounts from script target before answer
run_stopped from script target before fault None (none, is) stops = stops_by from script target fault is stops
run_stopped from script target before fault (Some n) (none, is) stops = absurd (cc)

counted_by : (from : Origin) (script : Script) (target : Target) (before : ℕ) (answer : Option ℕ) (old new : Lookout) (ran : Ran) (w : WatchesOn (λ first l ms. Follows first l ms) from Given script old ran new) → Answers target w.moments before answer
    → RunCounts from script target before answer
counted_by from script target before None old new ran w a = inr (w.moments, w.last, w.tells, a)
counted_by from script target before (Some n) old new ran w a = (w.moments, w.last, w.tells, a)

pub run_counted : (from : Origin) (script : Script) (target : Target) (before : ℕ) (answer : Option ℕ) (old new : Lookout) (ran : Ran) → old.target ≡ target → HasHeard old [] → WatchesOn (λ first l ms. Follows first l ms) from Given script old ran new
    → ((ms : List Moment) → HasHeard new ms → Answers new.target ms before answer) → RunCounts from script target before answer
run_counted from script target before answer old new ran is heard w answers =
    let follows : Follows old new w.moments = w.hears old [] (refl, heard) in
    counted_by from script target before answer old new ran w (subst (λ (t : Target). Answers t w.moments before answer) (follows.0 ∙ is) (answers w.moments follows.1))

-- ---- the run of a text

pub not_read : (from : Origin) (limits : Limits) (target : Target) (text read : List ℕ) → read ≡ text → HasNoScript read → NeverComes from limits target text
not_read from limits target text read same (f, e) = counts.NotRead f (ap script_of (sym same) ∙ e)

counts_by : (from : Origin) (limits : Limits) (target : Target) (before : ℕ) (text : List ℕ) (script : Script) → script_of text ≡ Ok script → script.limits ≡ limits → (answer : Option ℕ) → RunCounts from script target before answer → CountsBy from limits target before text answer
counts_by from limits target before text script read same None (inl (f, stops)) = counts.Stops script f read stops
counts_by from limits target before text script read same None (inr (ms, last, tells, lacks)) = counts.Ends script ms last read tells lacks
counts_by from limits target before text script read same (Some n) (ms, last, tells, (comes, least)) =
    record { script = script; moments = ms; last = last; read = read; by = same; tells = tells; comes = comes; least = least }

pub by_others : (from : Origin) (limits : Limits) (target : Target) (text read : List ℕ) (script : Script) → read ≡ text → script_of read ≡ Ok script → script.limits ≢ limits → NeverComes from limits target text
by_others from limits target text read script same is other = counts.ByOthers script (ap script_of (sym same) ∙ is) other

pub read_by : (from : Origin) (limits : Limits) (target : Target) (before : ℕ) (text read : List ℕ) (script : Script) → read ≡ text → script_of read ≡ Ok script → script.limits ≡ limits → (answer : Option ℕ) → RunCounts from script target before answer → CountsBy from limits target before text answer
read_by from limits target before text read script same is by answer found = counts_by from limits target before text script (ap script_of (sym same) ∙ is) by answer found

-- ---- a word

pub no_target : (from : Origin) (limits : Limits) (text : List ℕ) (w : CallWord) → HasNoTarget text w → HasNoCount from limits text w
no_target from limits text w (inl (f, e)) = counts.Unread f e
no_target from limits text w (inr (script, read, none)) = counts.NoCall script read none

pub is_count : (from : Origin) (limits : Limits) (text : List ℕ) (w : CallWord) (s : Sought) (many n : ℕ) → IsSought text w s → CountsBy from limits s.target s.before (text ++ times_word w.name many) (Some n) → IsCount from limits text w n
is_count from limits text w s many n sought comes = record {
  script = sought.script;
  target = s.target;
  many = many;
  read = sought.read;
  means = sought.means;
  comes = subst (λ (before : ℕ). ComesBy from limits s.target before (text ++ times_word w.name many) n) sought.before comes;
}

pub at_last : (from : Origin) (limits : Limits) (text : List ℕ) (w : CallWord) (s : Sought) (answer : Option ℕ) → IsSought text w s → CountsBy from limits s.target s.before (text ++ times_word w.name s.room) answer
    → MatchOption answer (HasNoCount from limits text w) (IsCount from limits text w)
at_last from limits text w s None sought fails =
    counts.Never sought.script s.target sought.read sought.means (subst (λ (many : ℕ). NeverComes from limits s.target (text ++ times_word w.name many)) sought.room fails)
at_last from limits text w s (Some n) sought comes = is_count from limits text w s s.room n sought comes

-- ---- moments that words give

pub moments_more : (words : List Word) (i : ℕ) (w : Word) (n now new : ℕ) → i < length words → length (given_words words) ≡ now + length (given_words (drop i words)) → n ≡ length (single_words (get_or words i w)) → new ≡ now + n
    → length (given_words words) ≡ new + length (given_words (drop (i + 1) words))
moments_more words i w n now new less so_far one sum =
    let x = get_or words i w in
    let e : length (given_words (drop i words)) ≡ length (single_words x) + length (given_words (drop (i + 1) words)) = ap (λ (l : List Word). length (given_words l)) (at_drop_more (λ (l : List Word). l) words i w less) ∙ length-append (single_words x) (given_words (drop (i + 1) words)) in
    omega (arith, so_far, one, sum, e)

pub moments_end : (words : List Word) (i now : ℕ) → length words ≤ i → length (given_words words) ≡ now + length (given_words (drop i words)) → now ≡ length (given_words words)
moments_end words i now past so_far =
    let e : length (given_words (drop i words)) ≡ 0 = ap (λ (l : List Word). length (given_words l)) (at_drop_all (λ (l : List Word). l) words i past) in
    omega (arith, so_far, e)
