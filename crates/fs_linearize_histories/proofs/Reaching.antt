-- A closed set of configurations reaches each front that is explained.
use Rattle.std.proofs.Common.{◌≡◌, ℕ, zero, suc, ◌≤◌, true, false, List, [], ◌∷◌, ◌++◌, length, slice_get, ◌==◌, Some, refl, sym, ap, ◌∙◌, subst, ⊎_elim, arith, append_assoc, length-append}
use Rattle.std.proofs.lemmas.Bool.{cases_Bool, eq-eqb, or_right}
use Rattle.fs_calls.specs.Starts.{Start}
use Rattle.fs_calls.specs.Outcomes.{next_start, reply_at}
use Rattle.fs_calls.specs.declared.call.Call.{Call}
use Rattle.fs_calls.specs.declared.reply.Reply.{Reply}
use Rattle.fs_timeline.specs.Timeline.{is_commit, has_committed, has_returned, call_of, commits, reply_after}
use Rattle.fs_timeline.specs.declared.entry.Entry.{Entry}
use Rattle.fs_timeline.specs.declared.entry.Entry.TheVariants.{Begin, Commit, Return}
use Rattle.fs_timeline.proofs.AppendLemmas.{begun_first, list_any-push, is_some-call_of, due-first}
use Rattle.fs_timeline.proofs.TimelineLemmas.{append_nil, lawful_appended}
use Rattle.fs_linearizable.specs.Linearizable.{history}
use Rattle.fs_linearizable.proofs.LawfulLemmas.{history-append}
use Rattle.fs_linearize_histories.specs.declared.heard.Heard.{Heard}
use Rattle.fs_linearize_histories.specs.declared.heard.Heard.TheVariants as heard
use Rattle.fs_linearize_histories.specs.declared.heard.Pattern.{Pattern}
use Rattle.fs_linearize_histories.specs.Heard.{IsHeardAs, AreHeardIn}
use Rattle.fs_linearize_histories.specs.Histories.{ExplainsFront}
use Rattle.fs_linearize_histories.specs.Configurations.{Configuration, at_start, is_in, passed, returned, committed, CanCommit, FollowedBy, IsFollowed}
use Rattle.std.specs.List.{Contains}
use Rattle.fs_linearize_histories.specs.Laws.{ClosedSetsReach, ClosedSetsRefute}
use Rattle.fs_linearize_histories.proofs.HistoryLemmas.{some_from, explained_before, explained_front, passed_call, passed_return}
use Rattle.fs_linearize_histories.specs.Early.{SettlesIn}
use Rattle.fs_linearize_histories.proofs.EarlyCommits.{follows_settled}
use Rattle.fs_linearize_histories.proofs.Bringing.{first_near, follows_brought}
use Rattle.fs_linearize_histories.proofs.Following.{FitsAt, Follows, follows_passed, follows_returned, follows_commit_held, follows_commit, follows_committed}

-- each configuration of the second set leads to a member of the first that follows the timelines that it followed, and lags behind by no more calls
abbrev pub Keeps : Start → (Configuration → Type 0) → (Configuration → Type 0) → List Heard → Type 0
Keeps start S T h = (es : List Entry) (x : Configuration) (p : List (ℕ × Call)) → T x → ExplainsFront start h es → Follows start h x es p
    → (y : Configuration) × (lag : List (ℕ × Call)) × S y × (length lag ≤ length p) × Follows start h y es lag

-- a member of the set follows the timeline
record Reached (start : Start) (S : Configuration → Type 0) (h : List Heard) (es : List Entry) : Type 0 where
  pub config : Configuration
  pub seen : S config
  pub lag : List (ℕ × Call)
  pub follows : Follows start h config es lag

-- the entry that comes next in the history
heard_next : (es : List Entry) (e : Entry) (h : List Heard) → AreHeardIn (es ++ e ∷ []) h → (x : Heard) × (slice_get h (length es) ≡ Some x) × IsHeardAs e x
heard_next [] e [] k = absurd k
heard_next [] e (x ∷ h) k = (x, refl, k.0)
heard_next (d ∷ es) e [] k = absurd k
heard_next (d ∷ es) e (x ∷ h) k = heard_next es e h k.1

next_entry : (start : Start) (h : List Heard) (es : List Entry) (e : Entry) (n : ℕ) → history (e ∷ []) ≡ e ∷ [] → ExplainsFront start h (es ++ e ∷ []) → n ≡ length (history es)
    → (x : Heard) × (slice_get h n ≡ Some x) × IsHeardAs e x
next_entry start h es e n one x at =
    let pushed : history (es ++ e ∷ []) ≡ history es ++ e ∷ [] = history-append es (e ∷ []) ∙ ap (λ xs. history es ++ xs) one in
    let found = heard_next (history es) e h (subst (λ (xs : List Entry). AreHeardIn xs h) pushed x.heard_as) in
    (found.0, ap (slice_get h) at ∙ found.1, found.2)

next_begin : (start : Start) (h : List Heard) (es : List Entry) (c seat : ℕ) (call : Call) (n : ℕ) → ExplainsFront start h (es ++ Begin c seat call ∷ []) → n ≡ length (history es)
    → slice_get h n ≡ Some (heard.Begin c seat call)
next_begin start h es c seat call n x at = let found = next_entry start h es (Begin c seat call) n refl x at in found.1 ∙ ap Some found.2

next_return : (start : Start) (h : List Heard) (es : List Entry) (c : ℕ) (r : Reply) (n : ℕ) → ExplainsFront start h (es ++ Return c r ∷ []) → n ≡ length (history es)
    → (p : Pattern) × (slice_get h n ≡ Some (heard.Return c p))
next_return start h es c r n x at = let found = next_entry start h es (Return c r) n refl x at in (found.2.0, found.1 ∙ ap Some found.2.1)

-- the first call that waits can commit
can_commit : (start : Start) (h : List Heard) (x : Configuration) (es : List Entry) (q : ℕ × Call) (p : List (ℕ × Call)) → ExplainsFront start h es → Follows start h x es (q ∷ p) → CanCommit h x q.0 q.1
can_commit start h x es q p explains f =
    record {
      begun = passed_call start h es x.at q.0 explains f.place ∙ f.waiting.0.begun;
      open_still = passed_return start h es x.at q.0 explains f.place ∙ f.waiting.0.open_still;
      not_yet = f.waiting.0.not_held;
      fits = f.replays.0;
    }

-- where a committed call returns next, some member that follows the timeline holds it
reach_holding : (start : Start) (n : ℕ) (S T : Configuration → Type 0) (h : List Heard) (es : List Entry) (c : ℕ) (r : Reply)
    → Keeps start S T h → ((x : Configuration) → S x → IsFollowed h T x)
    → ExplainsFront start h es → ExplainsFront start h (es ++ Return c r ∷ []) → has_committed c es ≡ true → has_returned c es ≡ false
    → (x : Configuration) (p : List (ℕ × Call)) → S x → Follows start h x es p → length p ≤ n
    → (y : Reached start S h es) × (is_in c y.config.held ≡ true)
reach_holding start n S T h es c r keeps closed explains more done under_way x [] seen f short =
    ⊎_elim (λ held. (record { config = x; seen = seen; lag = []; follows = f }, held)) (λ w. absurd (cc)) (f.covers c done under_way)
reach_holding start zero S T h es c r keeps closed explains more done under_way x (q ∷ p) seen f short = absurd (omega arith)
reach_holding start (suc n) S T h es c r keeps closed explains more done under_way x (q ∷ p) seen f short =
    ⊎_elim
    (λ held. (record { config = x; seen = seen; lag = q ∷ p; follows = f }, held))
    (λ waits_now. ⊎_elim
    (λ held. (record { config = x; seen = seen; lag = q ∷ p; follows = f }, held))
    (λ not_held.
    let next = (subst (λ o. FollowedBy h T x o) (next_return start h es c r x.at more f.place).1 (closed x seen)).1 not_held in
    let first = first_near next.0 c (q ∷ p) next.1.itself waits_now in
    let s = first.first in
    let lag = first.before ++ first.behind in
    let g = follows_brought start h x es c next.0 first.before s first.behind explains next.1 first.inside first.left (subst (Follows start h x es) first.is f) in
    let now = next.2 s.0 s.1 first.inside (can_commit start h x es s lag explains g) in
    let kept = keeps es (committed x s.0 s.1) lag now explains (follows_committed start h x es lag s g) in
    let long = ap length first.is ∙ length-append first.before (s ∷ first.behind) in
    let all = length-append first.before first.behind in
    reach_holding start n S T h es c r keeps closed explains more done under_way kept.0 kept.1 kept.2 kept.4 (omega (arith, kept.3, long, all)))
    (cases_Bool (is_in c x.held)))
    (f.covers c done under_way)

-- the set follows the timeline with one entry more
reach_more : (start : Start) (S T : Configuration → Type 0) (h : List Heard) (es : List Entry) (e : Entry)
    → Keeps start S T h → ((x : Configuration) → S x → IsFollowed h T x)
    → ExplainsFront start h (es ++ e ∷ []) → Reached start S h es → Reached start S h (es ++ e ∷ [])
reach_more start S T h es (Begin c seat call) keeps closed more so_far =
    let x = so_far.config in
    let explains = explained_before start h es (Begin c seat call) more in
    let now = subst (λ o. FollowedBy h T x o) (next_begin start h es c seat call x.at more so_far.follows.place) (closed x so_far.seen) in
    let kept = keeps (es ++ Begin c seat call ∷ []) (passed x) so_far.lag now more (follows_passed start h x es so_far.lag c seat call (begun_first es explains.lawful.well_formed) so_far.follows) in
    record { config = kept.0; lag = kept.1; seen = kept.2; follows = kept.4 }
reach_more start S T h es (Return c r) keeps closed more so_far =
    let explains = explained_before start h es (Return c r) more in
    let fits = ((lawful_appended start es (Return c r)).0 more.lawful).1 in
    let holding = reach_holding start (length so_far.lag) S T h es c r keeps closed explains more fits.0 fits.1 so_far.config so_far.lag so_far.seen so_far.follows (omega arith) in
    let y = holding.0 in
    let next = subst (λ o. FollowedBy h T y.config o) (next_return start h es c r y.config.at more y.follows.place).1 (closed y.config y.seen) in
    let kept = keeps (es ++ Return c r ∷ []) (returned y.config c) y.lag (next.0 holding.1) more (follows_returned start h y.config es y.lag c r (begun_first es explains.lawful.well_formed) holding.1 y.follows) in
    record { config = kept.0; lag = kept.1; seen = kept.2; follows = kept.4 }
reach_more start S T h es (Commit c) keeps closed more so_far =
    let explains = explained_before start h es (Commit c) more in
    let fits = ((lawful_appended start es (Commit c)).0 more.lawful).1 in
    let well = explains.lawful.well_formed in
    let found = some_from (call_of c es) (is_some-call_of c es ∙ fits.0) in
    let now : has_committed c (es ++ Commit c ∷ []) ≡ true = list_any-push (is_commit c) es (Commit c) ∙ or_right (has_committed c es) (c == c) (eq-eqb c c refl) in
    let answers : FitsAt h (next_start start (commits es)) (c, found.0) =
    more.held_to c (reply_at (next_start start (commits es)) found.0) now (due-first start c es fits.0 fits.1 ∙ ap (reply_after start (commits es)) found.1) in
    ⊎_elim
    (λ held. record {
      config = so_far.config;
      seen = so_far.seen;
      lag = so_far.lag;
      follows = follows_commit_held start h so_far.config es so_far.lag c found.0 (begun_first es well) found.1 fits.1 answers held so_far.follows;
    })
    (λ not_held. record {
      config = so_far.config;
      seen = so_far.seen;
      lag = so_far.lag ++ (c, found.0) ∷ [];
      follows = follows_commit start h so_far.config es so_far.lag c found.0 well found.1 fits.1 answers not_held so_far.follows;
    })
    (cases_Bool (is_in c so_far.config.held))

-- each front of what explains a front does
explained_prefix : (start : Start) (h : List Heard) (before es : List Entry) → ExplainsFront start h (before ++ es) → ExplainsFront start h before
explained_prefix start h before [] x = subst (ExplainsFront start h) (append_nil before) x
explained_prefix start h before (e ∷ es) x =
    explained_before start h before e (explained_prefix start h (before ++ e ∷ []) es (subst (ExplainsFront start h) (sym (append_assoc before (e ∷ []) es)) x))

reach_along : (start : Start) (S T : Configuration → Type 0) (h : List Heard) (before es : List Entry)
    → Keeps start S T h → ((x : Configuration) → S x → IsFollowed h T x)
    → ExplainsFront start h (before ++ es) → Reached start S h before → Reached start S h (before ++ es)
reach_along start S T h before [] keeps closed x so_far = subst (Reached start S h) (sym (append_nil before)) so_far
reach_along start S T h before (e ∷ es) keeps closed x so_far =
    let whole = subst (ExplainsFront start h) (sym (append_assoc before (e ∷ []) es)) x in
    subst (Reached start S h) (append_assoc before (e ∷ []) es)
    (reach_along start S T h (before ++ e ∷ []) es keeps closed whole (reach_more start S T h before e keeps closed (explained_prefix start h (before ++ e ∷ []) es whole) so_far))

follows_start : (start : Start) (h : List Heard) → Follows start h (at_start start) [] []
follows_start start h = record { place = refl; replays = refl; waiting = tt; distinct = tt; covers = λ c no. absurd (cc); ahead = λ c no. absurd (cc) }

-- a closed set has a configuration at the end of each front that is explained
pub reached : (start : Start) (S T : Configuration → Type 0) (h : List Heard) (es : List Entry)
    → Keeps start S T h → ((x : Configuration) → S x → IsFollowed h T x) → T (at_start start)
    → ExplainsFront start h es → (x : Configuration) × S x × (x.at ≡ length (history es))
reached start S T h es keeps closed starts x =
    let kept = keeps [] (at_start start) [] starts (explained_prefix start h [] es x) (follows_start start h) in
    let found = reach_along start S T h [] es keeps closed x (record { config = kept.0; lag = kept.1; seen = kept.2; follows = kept.4 }) in
    (found.config, found.seen, found.follows.place)

-- calls that commit early keep up
keeps_settled : (start : Start) (h : List Heard) (seen : List Configuration) → Keeps start (Contains seen) (SettlesIn h seen) h
keeps_settled start h seen es x p settles explains f =
    let kept = follows_settled start h es x settles.0 settles.1 p explains settles.2 f in
    (settles.0, kept.0, settles.3, kept.1, kept.2)

pub closed_set_reaches : ClosedSetsReach
closed_set_reaches start h es seen closed x = reached start (Contains seen) (SettlesIn h seen) h es (keeps_settled start h seen) closed.followed closed.starts x

pub closed_set_refutes : ClosedSetsRefute
closed_set_refutes start h seen closed none es x =
    let found = closed_set_reaches start h es seen closed (explained_front start h es x) in
    let at_end : found.0.at ≡ length h = found.2 ∙ x.whole in
    let before = none found.0 found.1 in
    absurd (omega arith)
