-- The view of a timeline, against the definitions of `fs_timeline`.
use Rattle.std.proofs.Common.{◌≡◌, ℕ, Bool, true, false, cond, not, eqb, List, [], ◌∷◌, ◌++◌, Option, Some, None, is_some, refl, sym, ap, ap₂, ◌∙◌, append_assoc, append-nil, subst, ◌==◌, Ok, Err}
use Rattle.fs_names.specs.Failures.{check, first_failure}
use Rattle.fs_names.specs.Shapes.{Shape}
use Rattle.fs_laws.specs.Changes.{reply, after}
use Rattle.fs_calls.specs.Forms.{form, reserved_by}
use Rattle.fs_laws.specs.Maps.{Map}
use Rattle.fs_calls.specs.Outcomes as tree
use Rattle.fs_calls.specs.Sights.{tree_shapes}
use Rattle.fs_calls.specs.Tree.{IsTree}
use Rattle.fs_calls.specs.Starts.{Start}
use Rattle.fs_calls.specs.declared.call.Call.{Call}
use Rattle.fs_calls.specs.declared.reply.Reply.{Reply}
use Rattle.fs_calls.proofs.TreeLaws.{stays_a_tree}
use Rattle.fs_names.specs.declared.limits.Limits.{Limits}
use Rattle.fs_calls.specs.Graphs.{set_at}
use Rattle.fs_timeline.specs.Timeline as journal
use Rattle.fs_timeline.specs.Verdicts.{entry_fault, is_due}
use Rattle.fs_timeline.specs.JournalStates.{JournalState, IsTrueOf, changed, is_waiting, known_fault, played, taken_in}
use Rattle.fs_timeline.specs.declared.entry.Entry.{Entry}
use Rattle.fs_timeline.specs.declared.entry.Entry.TheVariants.{Begin, Commit, Return}
use Rattle.fs_timeline.specs.declared.verdict.FaultKind.TheVariants.{BeginTwice, SeatBusy, CommitUnbegun, CommitTwice, ReturnUncommitted, ReturnTwice, WrongReply}
use Rattle.fs_timeline.proofs.ReplyLemmas.{same_reply_refl}
use Rattle.fs_timeline.proofs.TimelineLemmas.{lawful_appended}
use Rattle.fs_timeline.proofs.VerdictLemmas.{fits_from_none}
use Rattle.fs_timeline.proofs.JournalStateLemmas.{known_fault-entry_fault, true_of_taken_in}
use Rattle.fs_laws.specs.JournalViews.{JournalView, start, commit_of, free_seat, noted, view_after, IsNext, IsLawful}
use Rattle.fs_laws.specs.Laws.{TreesAsMaps, Linearization}
use Rattle.fs_laws.proofs.trees.TreesAsMaps.{trees_as_maps}
use Rattle.fs_laws.proofs.graphs.Walks.{eqb_refl, eqb_true}
use Rattle.fs_laws.proofs.events.OneCallChanged.{Place, Here, Else, place}
use Rattle.fs_laws.proofs.journal.OneMoreEntry.{Unknown, unknown_step}
use Rattle.fs_laws.proofs.states.Headline.{Headline, run_keeps, headline_of, view_plays}
use Rattle.fs_machine.specs.States.{State, Begun, Begins, Reserves, Step, Run, Starting, Beginning, Stepping}
use Rattle.fs_machine.specs.declared.answers.Refusal.TheVariants as refusals
use Rattle.fs_machine.specs.declared.answers.Stepped.{Stepped}
use Rattle.fs_machine.specs.declared.answers.Stepped.TheVariants.{Idle, Took, Busy, LetGo, Helped, Committed, CarriedOut, Returned}

-- two words for one changed value
changed_is : {A : Type 0} (n : ℕ) (v : A) (f g : ℕ → A) (m : ℕ) → f m ≡ g m → set_at n v f m ≡ changed g n v m
changed_is n v f g m same = go (eqb m n) (n == m) refl refl
  where
    go : (b c : Bool) → eqb m n ≡ b → (n == m) ≡ c → cond b v (f m) ≡ cond c v (g m)
    go true true e h = refl
    go false false e h = same
    go true false e h = let z : (n == m) ≡ true = ap (λ (x : ℕ). n == x) (eqb_true m n e) ∙ eqb_refl n in let y : false ≡ true = sym h ∙ z in cc
    go false true e h = let z : eqb m n ≡ true = ap (λ (x : ℕ). eqb x n) (sym (eqb_true n m h)) ∙ eqb_refl n in let y : false ≡ true = sym e ∙ z in cc

-- what the view and a checker's knowledge have in common
pub record Agrees (view : JournalView) (k : JournalState) : Type 0 where
  pub call : (c : ℕ) → view.call c ≡ k.calls c
  pub due : (c : ℕ) → view.due c ≡ k.replies c
  pub back : (c : ℕ) → view.back c ≡ k.returned c
  pub busy : (s : ℕ) → view.busy s ≡ cond (is_waiting k.returned (k.last s)) (k.last s) None
  pub limits : view.limits ≡ k.now.limits
  pub tree : view.tree ≡ tree_shapes k.now.tree
  pub is_tree : IsTree k.now.tree
  pub unknown : Unknown view
  -- the last call on a seat began there, and a call that has not returned is the last one on its seat
  pub seat : (s c : ℕ) → k.last s ≡ Some c → view.seat_of c ≡ Some s
  pub known : (s c : ℕ) → k.last s ≡ Some c → k.calls c ≡ None → ⊥
  pub lasts : (s c : ℕ) → view.seat_of c ≡ Some s → k.returned c ≡ false → k.last s ≡ Some c

waits_some : (returned : ℕ → Bool) (o : Option ℕ) → cond (is_waiting returned o) o None ≡ None → is_waiting returned o ≡ false
waits_some returned None e = refl
waits_some returned (Some c) e = go (returned c) e
  where
    go : (b : Bool) → cond (not b) (Some c) None ≡ None → not b ≡ false
    go true e = refl
    go false e = cc

is_none : {A : Type 0} (o : Option A) → o ≡ None → is_some o ≡ false
is_none None e = refl
is_none (Some a) e = cc

is_there : {A : Type 0} (o : Option A) (a : A) → o ≡ Some a → not (is_some o) ≡ false
is_there None a e = cc
is_there (Some b) a e = refl

-- an entry that may come next has no fault
no_fault : (view : JournalView) (k : JournalState) (e : Entry) → Agrees view k → IsNext view e → known_fault k e ≡ None
no_fault view k (Begin c seat call) a next =
    ap₂ (λ (x y : Bool). first_failure (check x BeginTwice ∷ check y SeatBusy ∷ [])) (is_none (k.calls c) (sym (a.call c) ∙ next.0)) (waits_some k.returned (k.last seat) (sym (a.busy seat) ∙ next.1))
no_fault view k (Commit c) a next =
    ap₂ (λ (x y : Bool). first_failure (check x CommitUnbegun ∷ check y CommitTwice ∷ [])) (is_there (k.calls c) next.0.0 (sym (a.call c) ∙ next.0.1)) (is_none (k.replies c) (sym (a.due c) ∙ next.1))
no_fault view k (Return c r) a next =
    let due : k.replies c ≡ Some r = sym (a.due c) ∙ next.0 in
    let right : not (is_due (k.replies c) r) ≡ false = ap (λ (o : Option Reply). not (is_due o r)) due ∙ ap not (same_reply_refl r) in
    ap₂ (λ (x y : Bool). first_failure (check x ReturnUncommitted ∷ check y ReturnTwice ∷ check (not (is_due (k.replies c) r)) WrongReply ∷ [])) (is_there (k.replies c) r due) (sym (a.back c) ∙ next.1)
    ∙ ap (λ (z : Bool). first_failure (check false ReturnUncommitted ∷ check false ReturnTwice ∷ check z WrongReply ∷ [])) right

waiting_last : (k : JournalState) (s c : ℕ) → k.last s ≡ Some c → k.returned c ≡ false → is_waiting k.returned (k.last s) ≡ true
waiting_last k s c e r = ap (is_waiting k.returned) e ∙ ap not r

-- after one more entry they agree again
agrees_step : TreesAsMaps → (view : JournalView) (k : JournalState) (e : Entry) → Agrees view k → IsNext view e → Agrees (noted view e) (taken_in k e)
agrees_step t view k (Begin c seat call) a next = record {
  call = λ d. changed_is c (Some call) view.call k.calls d (a.call d);
  due = a.due;
  back = a.back;
  busy = λ s. busy s (place seat (Some c) view.busy s) (changed_is seat (Some c) k.last k.last s refl);
  limits = a.limits;
  tree = a.tree;
  is_tree = a.is_tree;
  unknown = unknown_step view (Begin c seat call) a.unknown next;
  seat = λ s d e. seat_of s d (place seat (Some c) k.last s) (changed_is seat (Some c) k.last k.last s refl ∙ e);
  known = λ s d e f. known s d (place seat (Some c) k.last s) (changed_is seat (Some c) k.last k.last s refl ∙ e) (place c (Some call) k.calls d) (changed_is c (Some call) k.calls k.calls d refl ∙ f);
  lasts = λ s d e f. sym (changed_is seat (Some c) k.last k.last s refl) ∙ opened s d (place c (Some seat) view.seat_of d) (place seat (Some c) k.last s) e f;
}
  where
    new : k.calls c ≡ None
    new = sym (a.call c) ∙ next.0

    not_back : k.returned c ≡ false
    not_back = sym (a.back c) ∙ (a.unknown c next.0).1

    free : is_waiting k.returned (k.last seat) ≡ false
    free = waits_some k.returned (k.last seat) (sym (a.busy seat) ∙ next.1)

    busy : (s : ℕ) → Place (Option ℕ) seat (Some c) view.busy s → set_at seat (Some c) k.last s ≡ changed k.last seat (Some c) s → set_at seat (Some c) view.busy s ≡ cond (is_waiting k.returned (changed k.last seat (Some c) s)) (changed k.last seat (Some c) s) None
    busy s p same = subst (λ (o : Option ℕ). set_at seat (Some c) view.busy s ≡ cond (is_waiting k.returned o) o None) same (by p (place seat (Some c) k.last s))
      where
        by : Place (Option ℕ) seat (Some c) view.busy s → Place (Option ℕ) seat (Some c) k.last s → set_at seat (Some c) view.busy s ≡ cond (is_waiting k.returned (set_at seat (Some c) k.last s)) (set_at seat (Some c) k.last s) None
        by (Here i j) (Here _ l) = j ∙ sym (ap (λ (o : Option ℕ). cond (is_waiting k.returned o) o None) l ∙ ap (λ (b : Bool). cond (not b) (Some c) None) not_back)
        by (Here i j) (Else n l) = absurd (n i)
        by (Else n j) (Here i l) = absurd (n i)
        by (Else n j) (Else m l) = j ∙ a.busy s ∙ sym (ap (λ (o : Option ℕ). cond (is_waiting k.returned o) o None) l)

    some_is : (x y : ℕ) → ◌≡◌ {A = Option ℕ} (Some x) (Some y) → x ≡ y
    some_is x y e = cc

    new_else : (s d : ℕ) → k.last s ≡ Some d → d ≡ c → ⊥
    new_else s d e i = a.known s d e (ap k.calls i ∙ new)

    seat_of : (s d : ℕ) → Place (Option ℕ) seat (Some c) k.last s → set_at seat (Some c) k.last s ≡ Some d → set_at c (Some seat) view.seat_of d ≡ Some s
    seat_of s d (Here i j) e = go (place c (Some seat) view.seat_of d) (some_is c d (sym j ∙ e))
      where
        go : Place (Option ℕ) c (Some seat) view.seat_of d → c ≡ d → set_at c (Some seat) view.seat_of d ≡ Some s
        go (Here x y) z = y ∙ ap (λ (n : ℕ). Some n) (sym i)
        go (Else n y) z = absurd (n (sym z))
    seat_of s d (Else n j) e = go (place c (Some seat) view.seat_of d)
      where
        go : Place (Option ℕ) c (Some seat) view.seat_of d → set_at c (Some seat) view.seat_of d ≡ Some s
        go (Here x y) = absurd (new_else s d (sym j ∙ e) x)
        go (Else m y) = y ∙ a.seat s d (sym j ∙ e)

    known : (s d : ℕ) → Place (Option ℕ) seat (Some c) k.last s → set_at seat (Some c) k.last s ≡ Some d → Place (Option Call) c (Some call) k.calls d → set_at c (Some call) k.calls d ≡ None → ⊥
    known s d p e (Here x y) f = none (sym y ∙ f)
      where
        none : ◌≡◌ {A = Option Call} (Some call) None → ⊥
        none e = cc
    known s d (Here i j) e (Else m y) f = m (sym (some_is c d (sym j ∙ e)))
    known s d (Else n j) e (Else m y) f = a.known s d (sym j ∙ e) (sym y ∙ f)

    opened : (s d : ℕ) → Place (Option ℕ) c (Some seat) view.seat_of d → Place (Option ℕ) seat (Some c) k.last s → set_at c (Some seat) view.seat_of d ≡ Some s → k.returned d ≡ false → set_at seat (Some c) k.last s ≡ Some d
    opened s d (Here i j) (Here x y) e f = y ∙ ap (λ (n : ℕ). Some n) (sym i)
    opened s d (Here i j) (Else n y) e f = absurd (n (sym (some_is seat s (sym j ∙ e))))
    opened s d (Else n j) (Else m y) e f = y ∙ a.lasts s d (sym j ∙ e) f
    opened s d (Else n j) (Here x y) e f =
        let l : k.last seat ≡ Some d = ap k.last (sym x) ∙ a.lasts s d (sym j ∙ e) f in
        let z : false ≡ true = sym free ∙ waiting_last k seat d l f in
        cc
agrees_step t view k (Commit c) a ((call, known), new) = subst (λ (o : Option Call). Agrees (commit_of view c (view.call c)) (played k c o)) (sym (sym (a.call c) ∙ known)) (subst (λ (o : Option Call). Agrees (commit_of view c o) (played k c (Some call))) (sym known) made)
  where
    limits : Limits
    limits = k.now.limits

    tie : (tree.reply limits k.now.tree call ≡ reply (tree_shapes k.now.tree) (form limits call)) × (tree_shapes (tree.after limits k.now.tree call) ≡ after (tree_shapes k.now.tree) (form limits call))
    tie = t limits k.now.tree call a.is_tree

    same_reply_is : ◌≡◌ {A = Option Reply} (Some (reply view.tree (form view.limits call))) (Some (tree.reply_at k.now call))
    same_reply_is = ap₂ (λ (u : Map Shape) (l : Limits). Some (reply u (form l call))) a.tree a.limits ∙ ap (λ (r : Reply). Some r) (sym tie.0)

    made : Agrees (commit_of view c (Some call)) (played k c (Some call))
    made = record {
      call = a.call;
      due = λ d. ap (λ (o : Option Reply). set_at c o view.due d) same_reply_is ∙ changed_is c (Some (tree.reply_at k.now call)) view.due k.replies d (a.due d);
      back = a.back;
      busy = a.busy;
      limits = a.limits;
      tree = ap₂ (λ (u : Map Shape) (l : Limits). after u (form l call)) a.tree a.limits ∙ sym tie.1;
      is_tree = stays_a_tree limits k.now.tree call a.is_tree;
      unknown = subst (λ (o : Option Call). Unknown (commit_of view c o)) known (unknown_step view (Commit c) a.unknown ((call, known), new));
      seat = a.seat;
      known = a.known;
      lasts = a.lasts;
    }
agrees_step t view k (Return c r) a next = record {
  call = a.call;
  due = a.due;
  back = λ d. changed_is c true view.back k.returned d (a.back d);
  busy = λ s. busy s (k.last s) refl;
  limits = a.limits;
  tree = a.tree;
  is_tree = a.is_tree;
  unknown = unknown_step view (Return c r) a.unknown next;
  seat = a.seat;
  known = a.known;
  lasts = λ s d e f. a.lasts s d e (earlier d (place c true k.returned d) (changed_is c true k.returned k.returned d refl ∙ f));
}
  where
    not_back : k.returned c ≡ false
    not_back = sym (a.back c) ∙ next.1

    earlier : (d : ℕ) → Place Bool c true k.returned d → set_at c true k.returned d ≡ false → k.returned d ≡ false
    earlier d (Here i j) e = let z : true ≡ false = sym j ∙ e in cc
    earlier d (Else n j) e = sym j ∙ e

    -- the seat of the call is free, each other as it was
    freed : (s : ℕ) → (view.seat_of c ≡ Some s) → free_seat view (view.seat_of c) s ≡ None
    freed s e = ap (λ (o : Option ℕ). free_seat view o s) e ∙ go (place s None view.busy s)
      where
        go : Place (Option ℕ) s None view.busy s → set_at s None view.busy s ≡ None
        go (Here i j) = j
        go (Else n j) = absurd (n refl)

    stays : (s : ℕ) → (view.seat_of c ≡ Some s → ⊥) → free_seat view (view.seat_of c) s ≡ view.busy s
    stays s h = go (view.seat_of c) refl
      where
        go : (o : Option ℕ) → view.seat_of c ≡ o → free_seat view o s ≡ view.busy s
        go None e = refl
        go (Some seat) e = by (place seat None view.busy s)
          where
            by : Place (Option ℕ) seat None view.busy s → set_at seat None view.busy s ≡ view.busy s
            by (Here i j) = absurd (h (e ∙ ap (λ (n : ℕ). Some n) (sym i)))
            by (Else n j) = j

    busy : (s : ℕ) (o : Option ℕ) → k.last s ≡ o → free_seat view (view.seat_of c) s ≡ cond (is_waiting (changed k.returned c true) (k.last s)) (k.last s) None
    busy s None e =
        stays s (λ h. (let z : ◌≡◌ {A = Option ℕ} None (Some c) = sym e ∙ a.lasts s c h not_back in cc))
        ∙ a.busy s ∙ ap (λ (o : Option ℕ). cond (is_waiting k.returned o) o None) e ∙ sym (ap (λ (o : Option ℕ). cond (is_waiting (changed k.returned c true) o) o None) e)
    busy s (Some d) e = by (place c true k.returned d)
      where
        at_d : k.last s ≡ Some d → (b : Bool) → changed k.returned c true d ≡ b → cond (is_waiting (changed k.returned c true) (k.last s)) (k.last s) None ≡ cond (not b) (Some d) None
        at_d e b f = ap (λ (o : Option ℕ). cond (is_waiting (changed k.returned c true) o) o None) e ∙ ap (λ (x : Bool). cond (not x) (Some d) None) f

        by : Place Bool c true k.returned d → free_seat view (view.seat_of c) s ≡ cond (is_waiting (changed k.returned c true) (k.last s)) (k.last s) None
        by (Here i j) = freed s (ap view.seat_of (sym i) ∙ a.seat s d e) ∙ sym (at_d e true (sym (changed_is c true k.returned k.returned d refl) ∙ j))
        by (Else n j) =
            stays s (λ h. (let z : ◌≡◌ {A = Option ℕ} (Some d) (Some c) = sym e ∙ a.lasts s c h not_back in n (let y : d ≡ c = cc in y)))
            ∙ a.busy s ∙ ap (λ (o : Option ℕ). cond (is_waiting k.returned o) o None) e
            ∙ sym (at_d e (k.returned d) (sym (changed_is c true k.returned k.returned d refl) ∙ j))

-- before the first entry
abbrev empty_knowledge : Start → JournalState
empty_knowledge t = record { calls = λ c. None; replies = λ c. None; returned = λ c. false; last = λ s. None; now = t }

agrees_start : (t : Start) → IsTree t.tree → Agrees (start t) (empty_knowledge t)
agrees_start t is = record {
  call = λ c. refl;
  due = λ c. refl;
  back = λ c. refl;
  busy = λ s. refl;
  limits = refl;
  tree = refl;
  is_tree = is;
  unknown = λ c e. (refl, refl);
  seat = λ s c e. cc;
  known = λ s c e. cc;
  lasts = λ s c e. cc;
}

true_start : (t : Start) → IsTrueOf t (empty_knowledge t) []
true_start t = record { calls_are = λ c. refl; replies_are = λ c. refl; returned_are = λ c. refl; last_are = λ s. refl; now_is = refl; begun_first = λ c e. cc }

-- a lawful view is a lawful journal, with the tree that it plays
pub record Ties (first : Start) (view : JournalView) (es : List Entry) : Type 0 where
  pub lawful : journal.IsLawful first es
  pub tree : view.tree ≡ tree_shapes (tree.play first (journal.commits es))
  pub due : (c : ℕ) (r : Reply) → view.due c ≡ Some r → journal.due first c es ≡ Some r

ties_from : TreesAsMaps → (first : Start) (view : JournalView) (k : JournalState) (before es : List Entry) → Agrees view k → IsTrueOf first k before → journal.IsLawful first before → IsLawful view es → Ties first (view_after view es) (before ++ es)
ties_from t first view k before [] a true_of lawful l = record {
  lawful = subst (journal.IsLawful first) (sym (append-nil before)) lawful;
  tree = a.tree ∙ ap (λ (s : Start). tree_shapes s.tree) true_of.now_is ∙ ap (λ (x : List Entry). tree_shapes (tree.play first (journal.commits x))) (sym (append-nil before));
  due = λ c r e. ap (journal.due first c) (append-nil before) ∙ due_of (journal.has_committed c before) (journal.due first c before) r (sym (true_of.replies_are c) ∙ sym (a.due c) ∙ e);
}
  where
    due_of : (b : Bool) (o : Option Reply) (r : Reply) → cond b o None ≡ Some r → o ≡ Some r
    due_of true o r e = e
    due_of false o r e = cc
ties_from t first view k before (e ∷ es) a true_of lawful l =
    let none : entry_fault first before e ≡ None = sym (known_fault-entry_fault first k before e true_of) ∙ no_fault view k e a l.0 in
    let fits : journal.IsNext before e × journal.IsAnswered first before e = fits_from_none first before e none in
    subst (λ (x : List Entry). Ties first (view_after (noted view e) es) x) (append_assoc before (e ∷ []) es)
    (ties_from t first (noted view e) (taken_in k e) (before ++ e ∷ []) es (agrees_step t view k e a l.0) (true_of_taken_in first k before e true_of none) ((lawful_appended first before e).1 (lawful, fits.0, fits.1)) l.1)

-- no event changes the start
pub begin_start : (old : State) (seat : ℕ) (call : Call) (answer : Begun) (new : State) → Begins old seat call answer new → new.start ≡ old.start
begin_start old seat call (Err refusals.SeatBusy) new (c, on, same) = ap (λ (s : State). s.start) same
begin_start old seat call (Err refusals.Full) new (on, full, same) = ap (λ (s : State). s.start) same
begin_start old seat call (Err refusals.OutOfMemory) new (on, full, same) = ap (λ (s : State). s.start) same
begin_start old seat call (Ok c) new (free, number, r) = go (reserved_by call) r
  where
    go : (o : Option Shape) → Reserves old seat call c o new → new.start ≡ old.start
    go None same = ap (λ (s : State). s.start) same
    go (Some shape) (n, less, unused, same) = ap (λ (s : State). s.start) same

pub step_start : (old : State) (seat : ℕ) (answer : Stepped) (new : State) → Step old seat answer new → new.start ≡ old.start
step_start old seat Idle new (free, same) = ap (λ (s : State). s.start) same
step_start old seat (Took n) new (c, op, m, free, same) = ap (λ (s : State). s.start) same
step_start old seat (Busy n d) new (c, op, m, on, same) = ap (λ (s : State). s.start) same
step_start old seat (LetGo n) new (c, op, m, same) = ap (λ (s : State). s.start) same
step_start old seat (Helped d) new (c, op, t, m, walks, pick, q, is, same) = ap (λ (s : State). s.start) same
step_start old seat Committed new (c, op, t, m, walks, none, same) = ap (λ (s : State). s.start) same
step_start old seat CarriedOut new (c, op, t, i, m, at, same) = ap (λ (s : State). s.start) same
step_start old seat (Returned r) new (c, op, m, ph, same) = ap (λ (s : State). s.start) same

-- the start tree of a run is a tree
pub run_starts : (s : State) → Run s → IsTree s.start.tree
run_starts s (Starting limit tree graph h) = h.tree
run_starts s (Beginning {old} seat call answer new run b) = subst (λ (x : Start). IsTree x.tree) (sym (begin_start old seat call answer new b)) (run_starts old run)
run_starts s (Stepping {old} seat answer new run st) = subst (λ (x : Start). IsTree x.tree) (sym (step_start old seat answer new st)) (run_starts old run)

-- the view of a run's timeline, in the words of `fs_timeline`
pub run_ties : (s : State) → Run s → Ties s.start (view_after (start s.start) s.timeline) s.timeline
run_ties s run = ties_from trees_as_maps s.start (start s.start) (empty_knowledge s.start) [] s.timeline (agrees_start s.start (run_starts s run)) (true_start s.start) (record { well_formed = tt; replies = tt }) (run_keeps s run).lawful

-- the theorem in the words of `fs_timeline`
pub linearizes : Linearization
linearizes s run =
    let head : Headline s = headline_of s (run_keeps s run) in
    let tied : Ties s.start (view_after (start s.start) s.timeline) s.timeline = run_ties s run in
    record { lawful = tied.lawful; spelled = λ idle. head.spelled idle ∙ sym (view_plays (start s.start) s.timeline) ∙ tied.tree }
