-- Who stands below whom, who holds what, and what the placed calls leave.
use Rattle.std.proofs.Common.{◌≡◌, ℕ, List, [], ◌∷◌, ◌++◌, Option, Some, None, sym, ap, ◌∙◌, append-nil, subst, ◌⊎◌, inl, inr, arith}
use Rattle.fs_calls.specs.Starts.{Start}
use Rattle.fs_names.specs.Keys.{Key, after_prefix}
use Rattle.fs_calls.specs.declared.reply.Reply.{Reply}
use Rattle.fs_calls.specs.Graphs.{at, numbers}
use Rattle.fs_timeline.specs.Timeline as journal
use Rattle.fs_timeline.specs.declared.entry.Entry.{Entry}
use Rattle.fs_machine.specs.Moves.{next}
use Rattle.fs_machine.specs.declared.moves.Move.{Move}
use Rattle.fs_machine.specs.declared.moves.Move.TheVariants.{Take as Takes, LetGo as Leaves, Finish as Finishes, Return as Ends}
use Rattle.fs_machine.specs.declared.moves.Moved.{Moved}
use Rattle.fs_machine.specs.Records.{Holdings, Phase, Walking, Placed, Record, Holds, Source, Dest}
use Rattle.fs_laws.specs.Below.{IsHolding, NoWalkingBelow, NoLaterBelow, NobodyBetween, AreDue, Settles, HelpsOrCommits, Helps, Commits, NeverWaitsToFinish}
use Rattle.fs_laws.specs.JournalViews.{JournalView, start, view_after}
use Rattle.fs_laws.specs.Invariants.{Invariant, Dues}
use Rattle.fs_laws.specs.CallFacts.{Pair, IsAfter, IsClear, Located}
use Rattle.fs_machine.specs.States.{State, Run, Moves, IsBelow, IsChosen, NoneBelow, Step}
use Rattle.fs_machine.specs.declared.answers.Stepped.{Stepped}
use Rattle.fs_machine.specs.declared.answers.Stepped.TheVariants.{Idle, Took, Busy, LetGo, Helped, Committed, CarriedOut, Returned}
use Rattle.fs_laws.proofs.trees.Prefixes.{prefix_append}
use Rattle.fs_laws.proofs.graphs.Walks.{at_from}
use Rattle.fs_laws.proofs.calls.NodesHeld.{node_held}
use Rattle.fs_laws.proofs.states.Headline.{run_keeps}
use Rattle.fs_laws.proofs.journal.ViewOfTimeline.{Ties, run_ties}
use Rattle.fs_laws.proofs.helping.SettledAlone.{run_settles_alone}

-- two keys at which two positions stand, the second below the first
key_below : (s : State) (inv : Invariant s) (c d : ℕ) (p q : Record) (st other : Holdings) (r : Key) → IsHolding s c p st → IsHolding s d q other → at s.graph.child st.node r ≡ Some other.node → inv.key d ≡ inv.key c ++ r
key_below s inv c d p q st other r a b e =
    let here : numbers s.graph (inv.key c) ≡ Some st.node = (inv.kept.each c p st a.is a.on).located.here in
    let there : numbers s.graph (inv.key d) ≡ Some other.node = (inv.kept.each d q other b.is b.on).located.here in
    inv.is_graph.one_key (inv.key d) (inv.key c ++ r) other.node there (at_from s.graph.child 0 st.node (inv.key c) r here ∙ e)

-- who is to go on after another is not below it
pub not_below : (s : State) (inv : Invariant s) (c d : ℕ) (p q : Record) (st : Holdings) → (c ≡ d → ⊥) → IsHolding s c p st → s.ops d ≡ Some q → IsAfter p.phase q.phase → IsBelow s.graph st.node q → ⊥
not_below s inv c d p q st differs a is after (other, r, on, e) =
    let b : IsHolding s d q other = record { is = is; on = on } in
    let k : inv.key d ≡ inv.key c ++ r = key_below s inv c d p q st other r a b e in
    let none : after_prefix (inv.key c) (inv.key d) ≡ None = (inv.kept.pairs c d p q st other differs a.is is a.on on).after after in
    let z : ◌≡◌ {A = Option Key} None (Some r) = sym none ∙ ap (after_prefix (inv.key c)) k ∙ prefix_append (inv.key c) r in
    cc

-- calls of two phases are two calls
phases_differ : (s : State) (c d : ℕ) (p q : Record) → s.ops c ≡ Some p → s.ops d ≡ Some q → (p.phase ≡ q.phase → ⊥) → c ≡ d → ⊥
phases_differ s c d p q e f h i =
    let z : ◌≡◌ {A = Option Record} (Some p) (Some q) = sym e ∙ ap s.ops i ∙ f in
    let y : p ≡ q = cc in
    h (ap (λ (o : Record). o.phase) y)

pub no_walking_below : (s : State) → Run s → NoWalkingBelow s
no_walking_below s run c d i op st a ph (q, is, walks, below) =
    not_below s (run_keeps s run) c d op q st
    (phases_differ s c d op q a.is is (λ e. (let z : ◌≡◌ {A = Phase} (Placed i) Walking = sym ph ∙ e ∙ walks in cc)))
    a is (subst (λ (x : Phase). IsAfter x q.phase) (sym ph) (subst (IsAfter (Placed i)) (sym walks) tt)) below

pub no_later_below : (s : State) → Run s → NoLaterBelow s
no_later_below s run c d i j op q st a ph is qph less below =
    not_below s (run_keeps s run) c d op q st
    (phases_differ s c d op q a.is is (λ e. (let z : ◌≡◌ {A = Phase} (Placed i) (Placed j) = sym ph ∙ e ∙ qph in let y : i ≡ j = cc in omega (arith, less, y))))
    a is (subst (λ (x : Phase). IsAfter x q.phase) (sym ph) (subst (IsAfter (Placed i)) (sym qph) less)) below

pub nobody_between : (s : State) → Run s → NobodyBetween s
nobody_between s run c d n op q st other u v differs a b walked e held = go walked
  where
    inv : Invariant s
    inv = run_keeps s run

    pair : Pair (numbers s.graph) (inv.key c) st op.phase (inv.key d) other q.phase
    pair = inv.kept.pairs c d op q st other differs a.is b.is a.on b.on

    loc : Located (numbers s.graph) (inv.key c) st
    loc = (inv.kept.each c op st a.is a.on).located

    at_n : numbers s.graph (inv.key c ++ u) ≡ Some n
    at_n = at_from s.graph.child 0 st.node (inv.key c) u loc.here ∙ e

    -- a head's own node is held
    at_end : (walked : Key) (node : ℕ) → walked ≡ u → numbers s.graph (inv.key c ++ walked) ≡ Some node → Holds st node → ⊥
    at_end walked node i f h = let z : ◌≡◌ {A = Option ℕ} (Some node) (Some n) = sym f ∙ ap (λ (k : Key). numbers s.graph (inv.key c ++ k)) i ∙ at_n in pair.apart n (subst (Holds st) (let y : node ≡ n = cc in y) h) held

    way : (u v walked : Key) (node : ℕ) → walked ≡ u ++ v → numbers s.graph (inv.key c ++ u) ≡ Some n → numbers s.graph (inv.key c ++ walked) ≡ Some node → Holds st node → IsClear (numbers s.graph) (inv.key c) walked other → ⊥
    way [] v walked node i f g h clear = let z : ◌≡◌ {A = Option ℕ} (Some st.node) (Some n) = sym loc.here ∙ ap (numbers s.graph) (sym (append-nil (inv.key c))) ∙ f in pair.apart n (inl (let y : st.node ≡ n = cc in y)) held
    way (x ∷ u) [] walked node i f g h clear =
        let z : ◌≡◌ {A = Option ℕ} (Some node) (Some n) = sym g ∙ ap (λ (k : Key). numbers s.graph (inv.key c ++ k)) (i ∙ append-nil (x ∷ u)) ∙ f in
        pair.apart n (subst (Holds st) (let y : node ≡ n = cc in y) h) held
    way (x ∷ u) (y ∷ v) walked node i f g h clear = clear (x ∷ u) (y ∷ v) n tt tt i f held

    go : (st.source.walked ≡ u ++ v) ⊎ (st.dest.walked ≡ u ++ v) → ⊥
    go (inl i) = way u v st.source.walked st.source.node i at_n (loc.head Source) (node_held Source (numbers s.graph) (inv.key c) st loc) (pair.clear Source)
    go (inr i) = way u v st.dest.walked st.dest.node i at_n (loc.head Dest) (node_held Dest (numbers s.graph) (inv.key c) st loc) (pair.clear Dest)

-- the replies of the placed calls
are_due : (first : Start) (es : List Entry) (view : JournalView) → ((c : ℕ) (r : Reply) → view.due c ≡ Some r → journal.due first c es ≡ Some r) → (cs : List ℕ) (rs : List Reply) → Dues view cs rs → AreDue first es cs rs
are_due first es view h [] rs d = tt
are_due first es view h (c ∷ cs) [] d = d
are_due first es view h (c ∷ cs) (r ∷ rs) d = (h c r d.0, are_due first es view h cs rs d.1)

pub settles : (s : State) → Run s → Settles s
settles s run =
    let inv : Invariant s = run_keeps s run in
    let ties : Ties s.start (view_after (start s.start) s.timeline) s.timeline = run_ties s run in
    record {
      order = (run_keeps s run).order;
      in_order = (run_keeps s run).in_order;
      all = λ c op i e f. ((run_keeps s run).all_placed c op i e f).1;
      spelled = (run_settles_alone s run).0 ∙ (run_keeps s run).tied.played ∙ ties.tree;
      replies = are_due s.start s.timeline (view_after (start s.start) s.timeline) ties.due (run_keeps s run).order _ (subst (Dues (view_after (start s.start) s.timeline) (run_keeps s run).order) (sym (run_settles_alone s run).1) (run_keeps s run).tied.dues);
    }

-- a call walks and is to finish
pub never_waits_to_finish : (s : State) → NeverWaitsToFinish s
never_waits_to_finish s new seat c op moved answer (on, is, move) walks st = go answer st
  where
    same : (d : ℕ) (q : Record) (m : Move) → Moves s seat d q m → (op ≡ q) × (m ≡ Finishes moved)
    same d q m (on_d, is_d, move_d) =
        let a : ◌≡◌ {A = Option ℕ} (Some c) (Some d) = sym on ∙ on_d in
        let b : c ≡ d = cc in
        let e : ◌≡◌ {A = Option Record} (Some op) (Some q) = sym is ∙ ap s.ops b ∙ is_d in
        let f : op ≡ q = cc in
        (f, sym move_d ∙ ap (next s.graph) (sym f) ∙ move)

    none : {P : Type 0} (d : ℕ) (q : Record) (m : Move) → Moves s seat d q m → (m ≡ Finishes moved → ⊥) → P
    none d q m a h = absurd (h (same d q m a).1)

    chosen : (d : ℕ) (n t : Moved) → t ≡ n → IsChosen s n d → HelpsOrCommits s t (Helped d)
    chosen d n t e h = subst (λ (x : Moved). HelpsOrCommits s x (Helped d)) (sym e) (Helps n d h)

    moved_is : (a : Moved) → Finishes a ≡ Finishes moved → moved ≡ a
    moved_is a e = cc

    go : (answer : Stepped) → Step s seat answer new → HelpsOrCommits s moved answer
    go Idle (off, e) = let z : ◌≡◌ {A = Option ℕ} None (Some c) = sym off ∙ on in cc
    go (Took n) (d, q, m, free, e) = none d q (Takes n) m (λ i. cc)
    go (Busy n h) (d, q, m, held, e) = none d q (Takes n) m (λ i. cc)
    go (LetGo n) (d, q, m, e) = none d q (Leaves n) m (λ i. cc)
    go (Helped h) (d, q, n, m, w, pick, p, is_p, e) = chosen h n moved (moved_is n (same d q (Finishes n) m).1) pick
    go Committed (d, q, n, m, w, below, e) = Commits moved (subst (NoneBelow s) (sym (moved_is n (same d q (Finishes n) m).1)) below)
    go CarriedOut (d, q, n, i, m, placed, e) = let z : ◌≡◌ {A = Phase} Walking (Placed i) = sym walks ∙ ap (λ (o : Record). o.phase) (same d q (Finishes n) m).0 ∙ placed in cc
    go (Returned r) (d, q, m, ph, e) = none d q Ends m (λ i. cc)
