-- A call that is begun with no other under way, and stepped to its end, meets the sequential tree.
use Rattle.std.proofs.Common.{◌≡◌, ℕ, ◌+◌, Bool, true, false, eqb, [], ◌∷◌, ◌++◌, Option, Some, None, refl, sym, ap, ap₂, ◌∙◌, subst, ◌⊎◌, inl, inr, arith, Ok}
use Rattle.fs_names.specs.Shapes.{Shape}
use Rattle.fs_laws.specs.Changes.{reply, after}
use Rattle.fs_calls.specs.Forms.{form, reserved_by}
use Rattle.fs_laws.specs.Maps.{Map}
use Rattle.fs_calls.specs.Outcomes as outcomes
use Rattle.fs_calls.specs.Sights.{tree_shapes}
use Rattle.fs_calls.specs.Tree.{Tree, IsTree}
use Rattle.fs_calls.specs.declared.call.Call.{Call}
use Rattle.fs_calls.specs.declared.reply.Reply.{Reply}
use Rattle.fs_calls.proofs.TreeLaws.{played_trees_are_trees}
use Rattle.fs_names.specs.declared.limits.Limits.{Limits}
use Rattle.fs_laws.proofs.journal.ViewAndMachine.{view_limits}
use Rattle.fs_calls.specs.Graphs.{Graph, graph_shapes, set_at, reserved_in}
use Rattle.fs_timeline.specs.Timeline as journal
use Rattle.fs_timeline.specs.declared.entry.Entry.TheVariants.{Begin, Commit, Return}
use Rattle.fs_machine.specs.Records.{Walking, Record}
use Rattle.fs_laws.specs.JournalViews.{JournalView, start, view_after, noted, commit_of}
use Rattle.fs_timeline.specs.Timeline.{begins}
use Rattle.fs_machine.specs.Headline.{IsIdle}
use Rattle.fs_laws.specs.Invariants.{Invariant, limits_of}
use Rattle.fs_laws.specs.OneCall.{IsNoReturn, StepsTo, Returns, Goes_on, MeetsTree}
use Rattle.fs_machine.specs.States.{State, Begins, Reserves, new_op, began, Run, Beginning, Stepping, Step, returning}
use Rattle.fs_machine.specs.declared.answers.Stepped.{Stepped}
use Rattle.fs_machine.specs.declared.answers.Stepped.TheVariants.{Idle, Took, Busy, LetGo, Helped, Committed, CarriedOut, Returned}
use Rattle.fs_laws.proofs.graphs.Walks.{eqb_refl, eqb_true}
use Rattle.fs_laws.proofs.journal.OneMoreEntry.{view_push, unknown_of}
use Rattle.fs_laws.proofs.events.Help.{upd_here, upd_else}
use Rattle.fs_laws.proofs.states.Headline.{run_keeps}
use Rattle.fs_laws.proofs.journal.ViewOfTimeline.{run_ties, run_starts, linearizes}
use Rattle.fs_laws.proofs.trees.TreesAsMaps.{trees_as_maps}
use Rattle.fs_laws.proofs.calls.NodesHeld.{none_some}

-- the view with the call begun, and then committed
abbrev with_begin : JournalView → ℕ → ℕ → Call → JournalView
with_begin b c seat call = noted b (Begin c seat call)

abbrev with_commit : JournalView → ℕ → ℕ → Call → JournalView
with_commit b c seat call = noted (noted b (Begin c seat call)) (Commit c)

-- what its commit says
committed_tree : (b : JournalView) (c seat : ℕ) (call : Call) → (with_commit b c seat call).tree ≡ after b.tree (form b.limits call)
committed_tree b c seat call = ap (λ (o : Option Call). (commit_of (noted b (Begin c seat call)) c o).tree) (upd_here c (Some call) b.call)

committed_due : (b : JournalView) (c seat : ℕ) (call : Call) → (with_commit b c seat call).due c ≡ Some (reply b.tree (form b.limits call))
committed_due b c seat call = ap (λ (o : Option Call). (commit_of (noted b (Begin c seat call)) c o).due c) (upd_here c (Some call) b.call) ∙ upd_here c (Some (reply b.tree (form b.limits call))) b.due

-- what is known while the call is the only one under way
record During (b : JournalView) (c seat : ℕ) (call : Call) (u : State) : Type 0 where
  pub run : Run u
  pub others : (d : ℕ) → (d ≡ c → ⊥) → u.ops d ≡ None
  pub mine : u.on_seat seat ≡ Some c
  pub view : (view_after (start u.start) u.timeline ≡ with_begin b c seat call) ⊎ (view_after (start u.start) u.timeline ≡ with_commit b c seat call)

seat_same : (b : JournalView) (c seat : ℕ) (call : Call) (u : State) (f : ℕ) → During b c seat call u → u.on_seat seat ≡ Some f → f ≡ c
seat_same b c seat call u f w e = let z : ◌≡◌ {A = Option ℕ} (Some f) (Some c) = sym e ∙ w.mine in cc

-- who is under way is the call
is_mine : (b : JournalView) (c seat : ℕ) (call : Call) (u : State) → During b c seat call u → (d : ℕ) (q : Record) → u.ops d ≡ Some q → d ≡ c
is_mine b c seat call u w d q e = go (eqb d c) refl
  where
    go : (t : Bool) → eqb d c ≡ t → d ≡ c
    go true i = eqb_true d c i
    go false i = absurd (none_some (u.ops d) q (w.others d (λ j. (let z : eqb d c ≡ true = ap (eqb d) (sym j) ∙ eqb_refl d in cc))) e)

-- a walking call has not committed
not_twice : (b : JournalView) (c seat : ℕ) (call : Call) (u : State) → During b c seat call u → (d : ℕ) (q : Record) → u.ops d ≡ Some q → q.phase ≡ Walking → view_after (start u.start) (u.timeline ++ Commit d ∷ []) ≡ with_commit b c seat call
not_twice b c seat call u w d q is walks = go w.view
  where
    here : d ≡ c
    here = is_mine b c seat call u w d q is

    fresh : (view_after (start u.start) u.timeline).due d ≡ None
    fresh = (run_keeps u w.run).tied.fresh d q is walks

    go : (view_after (start u.start) u.timeline ≡ with_begin b c seat call) ⊎ (view_after (start u.start) u.timeline ≡ with_commit b c seat call) → view_after (start u.start) (u.timeline ++ Commit d ∷ []) ≡ with_commit b c seat call
    go (inl e) = view_push (start u.start) u.timeline (Commit d) ∙ ap₂ (λ (x : JournalView) (n : ℕ). noted x (Commit n)) e here
    go (inr e) = absurd (none_some ((view_after (start u.start) u.timeline).due c) (reply b.tree (form b.limits call)) (ap (view_after (start u.start) u.timeline).due (sym here) ∙ fresh) (ap (λ (x : JournalView). x.due c) e ∙ committed_due b c seat call))

-- the same with one record changed, at the call
changed_others : (b : JournalView) (c seat : ℕ) (call : Call) (u : State) → During b c seat call u → (f : ℕ) (v : Option Record) → f ≡ c → (d : ℕ) → (d ≡ c → ⊥) → set_at f v u.ops d ≡ None
changed_others b c seat call u w f v e d n = upd_else f v u.ops d (λ i. n (i ∙ e)) ∙ w.others d n

goes_during : (b : JournalView) (c seat : ℕ) (call : Call) (u next : State) (answer : Stepped) → During b c seat call u → IsNoReturn answer → Step u seat answer next → During b c seat call next
goes_during b c seat call u next Idle w plain st = absurd (none_some (u.on_seat seat) c st.0 w.mine)
goes_during b c seat call u next (Busy n d) w plain (f, op, m, held, same) = subst (During b c seat call) (sym same) w
goes_during b c seat call u next (Took n) w plain (f, op, m, free, same) = subst (During b c seat call) (sym same) (record {
  run = subst Run same (Stepping seat (Took n) next w.run (f, op, m, free, same));
  others = changed_others b c seat call u w f _ (seat_same b c seat call u f w m.0);
  mine = w.mine;
  view = w.view;
})
goes_during b c seat call u next (LetGo n) w plain (f, op, m, same) = subst (During b c seat call) (sym same) (record {
  run = subst Run same (Stepping seat (LetGo n) next w.run (f, op, m, same));
  others = changed_others b c seat call u w f _ (seat_same b c seat call u f w m.0);
  mine = w.mine;
  view = w.view;
})
goes_during b c seat call u next (Helped d) w plain (f, op, t, m, walks, pick, q, is, same) =
    let a : ◌≡◌ {A = Option Record} (Some pick.0.0.2.0) (Some q) = sym pick.0.0.2.1 ∙ is in
    let e : pick.0.0.2.0 ≡ q = cc in
    subst (During b c seat call) (sym same) (record {
      run = subst Run same (Stepping seat (Helped d) next w.run (f, op, t, m, walks, pick, q, is, same));
      others = changed_others b c seat call u w d _ (is_mine b c seat call u w d q is);
      mine = w.mine;
      view = inr (not_twice b c seat call u w d q is (ap (λ (o : Record). o.phase) (sym e) ∙ pick.0.0.2.2));
    })
goes_during b c seat call u next Committed w plain (f, op, o, m, walks, below, same) = subst (During b c seat call) (sym same) (record {
  run = subst Run same (Stepping seat Committed next w.run (f, op, o, m, walks, below, same));
  others = changed_others b c seat call u w f _ (seat_same b c seat call u f w m.0);
  mine = w.mine;
  view = inr (not_twice b c seat call u w f op m.1 walks);
})
goes_during b c seat call u next CarriedOut w plain (f, op, o, i, m, placed, same) = subst (During b c seat call) (sym same) (record {
  run = subst Run same (Stepping seat CarriedOut next w.run (f, op, o, i, m, placed, same));
  others = changed_others b c seat call u w f _ (seat_same b c seat call u f w m.0);
  mine = w.mine;
  view = w.view;
})
goes_during b c seat call u next (Returned r) w plain st = absurd plain

-- the last step
record Ended (b : JournalView) (call : Call) (r : Reply) (new : State) : Type 0 where
  pub run : Run new
  pub idle : IsIdle new
  pub replied : r ≡ reply b.tree (form b.limits call)
  pub tree : (view_after (start new.start) new.timeline).tree ≡ after b.tree (form b.limits call)

some_is : (a b : Reply) → ◌≡◌ {A = Option Reply} (Some a) (Some b) → a ≡ b
some_is a b e = cc

returns_ended : (b : JournalView) (c seat : ℕ) (call : Call) (u new : State) (r : Reply) → b.due c ≡ None → During b c seat call u → Step u seat (Returned r) new → Ended b call r new
returns_ended b c seat call u new r none w (f, op, m, ph, same) = go w.view
  where
    here : f ≡ c
    here = seat_same b c seat call u f w m.0

    due : (view_after (start u.start) u.timeline).due c ≡ Some r
    due = ap (view_after (start u.start) u.timeline).due (sym here) ∙ (run_keeps u w.run).tied.fixed f op r m.1 ph

    idle : IsIdle (returning u f op r)
    idle d = by (eqb d f) refl
      where
        by : (t : Bool) → eqb d f ≡ t → set_at f None u.ops d ≡ None
        by true i = ap (set_at f None u.ops) (eqb_true d f i) ∙ upd_here f None u.ops
        by false i =
            let n : d ≡ f → ⊥ = λ j. (let z : eqb d f ≡ true = ap (eqb d) (sym j) ∙ eqb_refl d in cc) in
            upd_else f None u.ops d n ∙ w.others d (λ j. n (j ∙ sym here))

    go : (view_after (start u.start) u.timeline ≡ with_begin b c seat call) ⊎ (view_after (start u.start) u.timeline ≡ with_commit b c seat call) → Ended b call r new
    go (inl e) = absurd (none_some (b.due c) r none (ap (λ (x : JournalView). x.due c) (sym e) ∙ due))
    go (inr e) = record {
      run = Stepping seat (Returned r) new w.run (f, op, m, ph, same);
      idle = subst IsIdle (sym same) idle;
      replied = some_is r (reply b.tree (form b.limits call)) (sym due ∙ ap (λ (x : JournalView). x.due c) e ∙ committed_due b c seat call);
      tree = ap (λ (s : State). (view_after (start s.start) s.timeline).tree) same ∙ ap (λ (x : JournalView). x.tree) (view_push (start u.start) u.timeline (Return f r)) ∙ ap (λ (x : JournalView). x.tree) e ∙ committed_tree b c seat call;
    }

steps_end : (b : JournalView) (c seat : ℕ) (call : Call) (new : State) (r : Reply) (u : State) → b.due c ≡ None → During b c seat call u → StepsTo seat r new u → Ended b call r new
steps_end b c seat call new r u none w (Returns st) = returns_ended b c seat call u new r none w st
steps_end b c seat call new r u none w (Goes_on answer next plain st rest) = steps_end b c seat call new r next none (goes_during b c seat call u next answer w plain st) rest

-- the nodes of an idle state spell the view's tree
idle_spells : (s : State) → Run s → IsIdle s → graph_shapes s.graph ≡ (view_after (start s.start) s.timeline).tree
idle_spells s run idle = (linearizes s run).spelled idle ∙ sym (run_ties s run).tree

pub meets_tree : (s first new : State) (seat c : ℕ) (call : Call) (r : Reply) → Run s → IsIdle s → Begins s seat call (Ok c) first → StepsTo seat r new first → MeetsTree s call r new
meets_tree s first new seat c call r run idle begin steps = result
  where
    b : JournalView
    b = view_after (start s.start) s.timeline

    inv : Invariant s
    inv = run_keeps s run

    number : c ≡ begins s.timeline + 1
    number = begin.1

    none : (view_after (start s.start) s.timeline).due c ≡ None
    none = (unknown_of (start s.start) s.timeline (λ d e. (refl, refl)) (run_keeps s run).lawful c ((run_keeps s run).fresh c (let z : c ≡ begins s.timeline + 1 = begin.1 in omega (arith, z)))).0

    began_during : (reserved : Option ℕ) (graph : Graph) → first ≡ began s seat call c reserved graph → During (view_after (start s.start) s.timeline) c seat call first
    began_during reserved graph same = subst (During (view_after (start s.start) s.timeline) c seat call) (sym same) (record {
      run = subst Run same (Beginning seat call (Ok c) first run begin);
      others = λ d n. upd_else c (Some (new_op s.start.limits seat call reserved)) s.ops d n ∙ idle d;
      mine = upd_here seat (Some c) s.on_seat;
      view = inl (view_push (start s.start) s.timeline (Begin c seat call));
    })

    during : During (view_after (start s.start) s.timeline) c seat call first
    during = go (reserved_by call) begin.2
      where
        go : (o : Option Shape) → Reserves s seat call c o first → During (view_after (start s.start) s.timeline) c seat call first
        go None same = began_during None s.graph same
        go (Some shape) (n, less, unused, same) = began_during (Some n) (reserved_in n shape s.graph) same

    ended : Ended (view_after (start s.start) s.timeline) call r new
    ended = steps_end (view_after (start s.start) s.timeline) c seat call new r first none during steps

    t : Tree
    t = outcomes.play s.start (journal.commits s.timeline)

    same_limits : (view_after (start s.start) s.timeline).limits ≡ s.start.limits
    same_limits = view_limits (start s.start) s.timeline

    seen_is : (view_after (start s.start) s.timeline).tree ≡ tree_shapes (outcomes.play s.start (journal.commits s.timeline))
    seen_is = (run_ties s run).tree

    is_tree : IsTree (outcomes.play s.start (journal.commits s.timeline))
    is_tree = (played_trees_are_trees.1 s.start (journal.commits s.timeline) (run_starts s run)).0

    maps : (outcomes.reply (limits_of s) (outcomes.play s.start (journal.commits s.timeline)) call ≡ reply (tree_shapes (outcomes.play s.start (journal.commits s.timeline))) (form (limits_of s) call)) × (tree_shapes (outcomes.after (limits_of s) (outcomes.play s.start (journal.commits s.timeline)) call) ≡ after (tree_shapes (outcomes.play s.start (journal.commits s.timeline))) (form (limits_of s) call))
    maps = trees_as_maps (limits_of s) (outcomes.play s.start (journal.commits s.timeline)) call is_tree

    result : MeetsTree s call r new
    result = record {
      tree = outcomes.play s.start (journal.commits s.timeline);
      is_tree = is_tree;
      before = (linearizes s run).spelled idle;
      replied = ended.replied ∙ ap₂ (λ (m : Map Shape) (l : Limits). reply m (form l call)) seen_is same_limits ∙ sym maps.0;
      after = idle_spells new ended.run ended.idle ∙ ended.tree ∙ ap₂ (λ (m : Map Shape) (l : Limits). after m (form l call)) seen_is same_limits ∙ sym maps.1;
      idle = ended.idle;
    }
