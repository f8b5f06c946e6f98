-- The timeline's view and the machine, through a commit and through helping.
use Rattle.std.proofs.Common.{◌≡◌, ℕ, List, [], ◌∷◌, ◌++◌, Option, Some, None, refl, sym, ap, ap₂, ◌∙◌, subst}
use Rattle.fs_names.specs.Keys.{Key}
use Rattle.fs_names.specs.Shapes.{Shape}
use Rattle.fs_laws.specs.Changes.{Change, after, outcome, reply}
use Rattle.fs_calls.specs.Forms.{form, Form, under}
use Rattle.fs_laws.specs.Maps.{Map}
use Rattle.fs_calls.specs.declared.reply.Reply.{Reply}
use Rattle.fs_calls.specs.declared.call.Call.{Call}
use Rattle.fs_names.specs.declared.limits.Limits.{Limits}
use Rattle.fs_calls.specs.Starts.{Start}
use Rattle.fs_timeline.specs.declared.entry.Entry.{Entry}
use Rattle.fs_calls.specs.Graphs.{set_at}
use Rattle.fs_timeline.specs.declared.entry.Entry.TheVariants.{Commit, Begin, Return}
use Rattle.fs_machine.specs.Records.{Finished, Record, Records, Phase, Placed, Walking}
use Rattle.fs_laws.specs.JournalViews.{JournalView, IsNext, commit_of, noted, start, view_after}
use Rattle.fs_laws.specs.Invariants.{remaining_of, spots, IsPlaced, InOrder, Dues, Tied}
use Rattle.fs_laws.specs.Settled.{settle, settle_replies}
use Rattle.fs_laws.proofs.events.OneCallChanged.{Place, Here, Else, place}
use Rattle.fs_laws.proofs.helping.SettledThroughHelp.{helped, helped_replies}

-- the call of this number gets another phase
abbrev pub Mark : Type 0
Mark = Phase × Option ℕ × Option ℕ

abbrev pub phased : Record → Mark → Record
phased op p = record op { phase = p.0; reserved = p.1; removed = p.2 }

spots_same : (ops : Records) (key : ℕ → Key) (c : ℕ) (op : Record) (p : Mark) → ops c ≡ Some op → (cs : List ℕ) → spots (set_at c (Some (phased op p)) ops) key cs ≡ spots ops key cs
spots_same ops key c op p is [] = refl
spots_same ops key c op p is (d ∷ cs) = ap₂ (λ (r : Form) (ps : List (Key × Form)). (key d, r) ∷ ps) (go (place c (Some (phased op p)) ops d)) (spots_same ops key c op p is cs)
  where
    go : Place (Option Record) c (Some (phased op p)) ops d → remaining_of (set_at c (Some (phased op p)) ops d) ≡ remaining_of (ops d)
    go (Here i j) = ap remaining_of j ∙ sym (ap remaining_of (ap ops i ∙ is))
    go (Else n j) = ap remaining_of j

-- the view after a commit of a call that began
abbrev pub committed : JournalView → ℕ → Form → JournalView
committed view c call = record view { tree = after view.tree call; due = set_at c (Some (reply view.tree call)) view.due }

noted_commit : (view : JournalView) (c : ℕ) (call : Call) → view.call c ≡ Some call → noted view (Commit c) ≡ committed view c (form view.limits call)
noted_commit view c call e = ap (commit_of view c) e

-- no entry changes the limits
commit_limits : (view : JournalView) (c : ℕ) (o : Option Call) → (commit_of view c o).limits ≡ view.limits
commit_limits view c None = refl
commit_limits view c (Some call) = refl

pub view_limits : (view : JournalView) (es : List Entry) → (view_after view es).limits ≡ view.limits
view_limits view [] = refl
view_limits view (Begin c seat call ∷ es) = view_limits (noted view (Begin c seat call)) es
view_limits view (Commit c ∷ es) = view_limits (noted view (Commit c)) es ∙ commit_limits view c (view.call c)
view_limits view (Return c r ∷ es) = view_limits (noted view (Return c r)) es

-- so it is a commit by those of the start
pub noted_played : (first : Start) (es : List Entry) (c : ℕ) (call : Call) → (view_after (start first) es).call c ≡ Some call → noted (view_after (start first) es) (Commit c) ≡ committed (view_after (start first) es) c (form first.limits call)
noted_played first es c call e =
    noted_commit (view_after (start first) es) c call e
    ∙ ap (λ (l : Limits). committed (view_after (start first) es) c (form l call)) (view_limits (start first) es)

due_here : (view : JournalView) (c : ℕ) (call : Form) → (committed view c call).due c ≡ Some (reply view.tree call)
due_here view c call = go (place c (Some (reply view.tree call)) view.due c)
  where
    go : Place (Option Reply) c (Some (reply view.tree call)) view.due c → set_at c (Some (reply view.tree call)) view.due c ≡ Some (reply view.tree call)
    go (Here i j) = j
    go (Else n j) = absurd (n refl)

due_else : (view : JournalView) (c d : ℕ) (call : Form) → (d ≡ c → ⊥) → (committed view c call).due d ≡ view.due d
due_else view c d call n = go (place c (Some (reply view.tree call)) view.due d)
  where
    go : Place (Option Reply) c (Some (reply view.tree call)) view.due d → set_at c (Some (reply view.tree call)) view.due d ≡ view.due d
    go (Here i j) = absurd (n i)
    go (Else m j) = j

-- no placed call is the walking one
pub not_placed : (ops : Records) (c d : ℕ) (op : Record) → ops c ≡ Some op → op.phase ≡ Walking → IsPlaced ops d → d ≡ c → ⊥
not_placed ops c d op is w p e =
    let a : ◌≡◌ {A = Option Record} (Some p.op) (Some op) = sym p.is ∙ ap ops e ∙ is in
    let b : p.op ≡ op = cc in
    let f : ◌≡◌ {A = Phase} (Placed p.place) Walking = sym p.phase ∙ ap (λ (o : Record). o.phase) b ∙ w in
    cc

dues_kept : (view : JournalView) (ops : Records) (c : ℕ) (op : Record) (call : Form) → ops c ≡ Some op → op.phase ≡ Walking → (cs : List ℕ) (rs : List Reply) → InOrder ops cs → Dues view cs rs → Dues (committed view c call) cs rs
dues_kept view ops c op call is w [] rs order d = tt
dues_kept view ops c op call is w (x ∷ cs) [] order d = d
dues_kept view ops c op call is w (x ∷ cs) (r ∷ rs) order d = (due_else view c x call (not_placed ops c x op is w order.0) ∙ d.0, dues_kept view ops c op call is w cs rs order.2 d.1)

dues_push : (view : JournalView) (tree : Map Shape) (ops : Records) (key : ℕ → Key) (cs : List ℕ) (c : ℕ) (r : Reply) → Dues view cs (settle_replies tree (spots ops key cs)) → view.due c ≡ Some r → Dues view (cs ++ c ∷ []) (settle_replies tree (spots ops key cs) ++ r ∷ [])
dues_push view tree ops key [] c r d e = (e, tt)
dues_push view tree ops key (x ∷ cs) c r d e = (d.0, dues_push view (after tree (under (key x) (remaining_of (ops x)))) ops key cs c r d.1 e)

-- what the new phase leaves of the records
others : (limits : Limits) (ops : Records) (c : ℕ) (op : Record) (p : Mark) (tree : Map Shape) (view : JournalView) → ops c ≡ Some op → op.phase ≡ Walking
    → ((d : ℕ) (q : Record) (r : Reply) → ops d ≡ Some q → q.phase ≡ Finished r → view.due d ≡ Some r)
    → ((r : Reply) → p.0 ≡ Finished r → reply view.tree (form limits op.call) ≡ r)
    → (d : ℕ) (q : Record) (r : Reply) → set_at c (Some (phased op p)) ops d ≡ Some q → q.phase ≡ Finished r → (committed view c (form limits op.call)).due d ≡ Some r
others limits ops c op p tree view is w old mine d q r e f = go (place c (Some (phased op p)) ops d)
  where
    go : Place (Option Record) c (Some (phased op p)) ops d → (committed view c (form limits op.call)).due d ≡ Some r
    go (Here i j) =
        let a : ◌≡◌ {A = Option Record} (Some (phased op p)) (Some q) = sym j ∙ e in
        let b : phased op p ≡ q = cc in
        let g : p.0 ≡ Finished r = ap (λ (o : Record). o.phase) b ∙ f in
        ap (λ (n : ℕ). (committed view c (form limits op.call)).due n) i ∙ due_here view c (form limits op.call) ∙ ap (λ (x : Reply). Some x) (mine r g)
    go (Else n j) = due_else view c d (form limits op.call) n ∙ old d q r (sym j ∙ e) f

others_fresh : (limits : Limits) (ops : Records) (c : ℕ) (op : Record) (p : Mark) (view : JournalView) → (p.0 ≡ Walking → ⊥) → ((d : ℕ) (q : Record) → ops d ≡ Some q → q.phase ≡ Walking → view.due d ≡ None) → (d : ℕ) (q : Record) → set_at c (Some (phased op p)) ops d ≡ Some q → q.phase ≡ Walking → (committed view c (form limits op.call)).due d ≡ None
others_fresh limits ops c op p view np old d q e f = go (place c (Some (phased op p)) ops d)
  where
    go : Place (Option Record) c (Some (phased op p)) ops d → (committed view c (form limits op.call)).due d ≡ None
    go (Here i j) =
        let a : ◌≡◌ {A = Option Record} (Some (phased op p)) (Some q) = sym j ∙ e in
        let b : phased op p ≡ q = cc in
        absurd (np (ap (λ (o : Record). o.phase) b ∙ f))
    go (Else n j) = due_else view c d (form limits op.call) n ∙ old d q (sym j ∙ e) f

others_calls : (ops : Records) (c : ℕ) (op : Record) (p : Mark) (view : JournalView) → ops c ≡ Some op → ((d : ℕ) (q : Record) → ops d ≡ Some q → view.call d ≡ Some q.call) → (d : ℕ) (q : Record) → set_at c (Some (phased op p)) ops d ≡ Some q → view.call d ≡ Some q.call
others_calls ops c op p view is old d q e = go (place c (Some (phased op p)) ops d)
  where
    go : Place (Option Record) c (Some (phased op p)) ops d → view.call d ≡ Some q.call
    go (Here i j) =
        let a : ◌≡◌ {A = Option Record} (Some (phased op p)) (Some q) = sym j ∙ e in
        let b : phased op p ≡ q = cc in
        ap view.call i ∙ old c op is ∙ ap (λ (o : Record). Some o.call) b
    go (Else n j) = old d q (sym j ∙ e)

-- a commit of a walking call: the entry may come next, and all stays tied. What is asked of the trees is what move_commits (and the same for a write, and for no change) gives
pub tied_commit : (limits : Limits) (res rem : Option ℕ) (tree new : Map Shape) (ops : Records) (key key_new : ℕ → Key) (order : List ℕ) (view : JournalView) (c : ℕ) (op : Record)
    → Tied tree ops key order view → ops c ≡ Some op → op.phase ≡ Walking → InOrder ops order
    → settle new (spots ops key_new order) ≡ after (settle tree (spots ops key order)) (form limits op.call)
    → outcome (settle tree (spots ops key order)) (form limits op.call) ≡ outcome tree (form limits op.call)
    → settle_replies new (spots ops key_new order) ≡ settle_replies tree (spots ops key order)
    → IsNext view (Commit c) × Tied new (set_at c (Some (phased op (Finished (reply tree (form limits op.call)), res, rem))) ops) key_new order (committed view c (form limits op.call))
tied_commit limits res rem tree new ops key key_new order view c op t is w in_order tree_is same_outcome same_replies =
    let rep : reply view.tree (form limits op.call) ≡ reply tree (form limits op.call) = ap (λ (u : Map Shape). reply u (form limits op.call)) (sym t.played) ∙ ap (λ (o : Reply × Change). o.0) same_outcome in
    let s : spots (set_at c (Some (phased op (Finished (reply tree (form limits op.call)), res, rem))) ops) key_new order ≡ spots ops key_new order = spots_same ops key_new c op (Finished (reply tree (form limits op.call)), res, rem) is order in (
      ((op.call, t.calls c op is), t.fresh c op is w),
      record {
        played = ap (settle new) s ∙ tree_is ∙ ap (λ (u : Map Shape). after u (form limits op.call)) t.played;
        dues = subst (Dues (committed view c (form limits op.call)) order) (sym (ap (settle_replies new) s ∙ same_replies)) (dues_kept view ops c op (form limits op.call) is w order (settle_replies tree (spots ops key order)) in_order t.dues);
        fixed = others limits ops c op (Finished (reply tree (form limits op.call)), res, rem) tree view is w t.fixed (λ r e. rep ∙ (let z : reply tree (form limits op.call) ≡ r = cc in z));
        fresh = others_fresh limits ops c op (Finished (reply tree (form limits op.call)), res, rem) view (λ e. cc) t.fresh;
        calls = others_calls ops c op (Finished (reply tree (form limits op.call)), res, rem) view is t.calls;
      },
    )

-- helping: the helped call's entry may come next, it goes to the end, and all stays tied
pub tied_help : (limits : Limits) (tree : Map Shape) (ops : Records) (key : ℕ → Key) (order : List ℕ) (view : JournalView) (c : ℕ) (op : Record) (place_no : ℕ)
    → Tied tree ops key order view → ops c ≡ Some op → op.phase ≡ Walking → InOrder ops order → under (key c) op.remaining ≡ form limits op.call
    → IsNext view (Commit c) × Tied tree (set_at c (Some (phased op (Placed place_no, op.reserved, op.removed))) ops) key (order ++ c ∷ []) (committed view c (form limits op.call))
tied_help limits tree ops key order view c op place_no t is w in_order stands =
    let s : spots (set_at c (Some (phased op (Placed place_no, op.reserved, op.removed))) ops) key (order ++ c ∷ []) ≡ spots ops key order ++ (key c, op.remaining) ∷ [] = spots_same ops key c op (Placed place_no, op.reserved, op.removed) is (order ++ c ∷ []) ∙ spots_push order in (
      ((op.call, t.calls c op is), t.fresh c op is w),
      record {
        played = ap (settle tree) s ∙ helped tree (spots ops key order) (key c) op.remaining (form limits op.call) stands ∙ ap (λ (u : Map Shape). after u (form limits op.call)) t.played;
        dues =
            subst (Dues (committed view c (form limits op.call)) (order ++ c ∷ [])) (sym (ap (settle_replies tree) s ∙ helped_replies tree (spots ops key order) (key c) op.remaining (form limits op.call) stands))
            (dues_push (committed view c (form limits op.call)) tree ops key order c (reply (settle tree (spots ops key order)) (form limits op.call)) (dues_kept view ops c op (form limits op.call) is w order (settle_replies tree (spots ops key order)) in_order t.dues) (due_here view c (form limits op.call) ∙ ap (λ (u : Map Shape). Some (reply u (form limits op.call))) (sym t.played)));
        fixed = others limits ops c op (Placed place_no, op.reserved, op.removed) tree view is w t.fixed (λ r e. cc);
        fresh = others_fresh limits ops c op (Placed place_no, op.reserved, op.removed) view (λ e. cc) t.fresh;
        calls = others_calls ops c op (Placed place_no, op.reserved, op.removed) view is t.calls;
      },
    )
  where
    spots_push : (cs : List ℕ) → spots ops key (cs ++ c ∷ []) ≡ spots ops key cs ++ (key c, op.remaining) ∷ []
    spots_push [] = ap (λ (r : Form). (key c, r) ∷ []) (ap remaining_of is)
    spots_push (d ∷ cs) = ap (λ (ps : List (Key × Form)). (key d, remaining_of (ops d)) ∷ ps) (spots_push cs)

dues_split : (view : JournalView) (tree : Map Shape) (ops : Records) (key : ℕ → Key) (xs ys : List ℕ) → Dues view (xs ++ ys) (settle_replies tree (spots ops key (xs ++ ys))) → Dues view xs (settle_replies tree (spots ops key xs)) × Dues view ys (settle_replies (settle tree (spots ops key xs)) (spots ops key ys))
dues_split view tree ops key [] ys d = (tt, d)
dues_split view tree ops key (x ∷ xs) ys d =
    let r : Dues view xs (settle_replies (after tree (under (key x) (remaining_of (ops x)))) (spots ops key xs)) × Dues view ys (settle_replies (settle (after tree (under (key x) (remaining_of (ops x)))) (spots ops key xs)) (spots ops key ys)) = dues_split view (after tree (under (key x) (remaining_of (ops x)))) ops key xs ys d.1 in
    ((d.0, r.0), r.1)

dues_join : (view : JournalView) (tree : Map Shape) (ops : Records) (key : ℕ → Key) (xs ys : List ℕ) → Dues view xs (settle_replies tree (spots ops key xs)) → Dues view ys (settle_replies (settle tree (spots ops key xs)) (spots ops key ys)) → Dues view (xs ++ ys) (settle_replies tree (spots ops key (xs ++ ys)))
dues_join view tree ops key [] ys d e = e
dues_join view tree ops key (x ∷ xs) ys d e = (d.0, dues_join view (after tree (under (key x) (remaining_of (ops x)))) ops key xs ys d.1 e)

-- carrying out: no entry, and all stays tied; the reply that is fixed is the one that is due. What is asked of the trees is what carried gives
pub tied_carry : (res rem : Option ℕ) (tree new : Map Shape) (ops : Records) (key key_new : ℕ → Key) (front back : List ℕ) (view : JournalView) (c : ℕ) (op : Record) (j : ℕ)
    → Tied tree ops key (front ++ c ∷ back) view → ops c ≡ Some op → op.phase ≡ Placed j
    → settle new (spots ops key_new (front ++ back)) ≡ settle tree (spots ops key (front ++ c ∷ back))
    → reply (settle tree (spots ops key front)) (under (key c) op.remaining) ≡ reply tree (under (key c) op.remaining)
    → settle_replies new (spots ops key_new front) ≡ settle_replies tree (spots ops key front)
    → settle_replies (settle new (spots ops key_new front)) (spots ops key_new back) ≡ settle_replies (after (settle tree (spots ops key front)) (under (key c) op.remaining)) (spots ops key back)
    → Tied new (set_at c (Some (phased op (Finished (reply tree (under (key c) op.remaining)), res, rem))) ops) key_new (front ++ back) view
tied_carry res rem tree new ops key key_new front back view c op j t is pl tree_is same_reply front_replies back_replies = record {
  played = ap (settle new) (s (front ++ back)) ∙ tree_is ∙ t.played;
  dues = subst (λ (rs : List Reply). Dues view (front ++ back) rs) (sym (ap (settle_replies new) (s (front ++ back))))
      (dues_join view new ops key_new front back (subst (Dues view front) (sym front_replies) split.0) (subst (Dues view back) (sym back_replies) rest));
  fixed = fixed;
  fresh = fresh;
  calls = others_calls ops c op (Finished (reply tree (under (key c) op.remaining)), res, rem) view is t.calls;
}
  where
    s : (cs : List ℕ) → spots (set_at c (Some (phased op (Finished (reply tree (under (key c) op.remaining)), res, rem))) ops) key_new cs ≡ spots ops key_new cs
    s cs = spots_same ops key_new c op (Finished (reply tree (under (key c) op.remaining)), res, rem) is cs

    split : Dues view front (settle_replies tree (spots ops key front)) × Dues view (c ∷ back) (settle_replies (settle tree (spots ops key front)) (spots ops key (c ∷ back)))
    split = dues_split view tree ops key front (c ∷ back) t.dues

    rel_is : remaining_of (ops c) ≡ op.remaining
    rel_is = ap remaining_of is

    due : view.due c ≡ Some (reply tree (under (key c) op.remaining))
    due = split.1.0 ∙ ap (λ (r : Form). Some (reply (settle tree (spots ops key front)) (under (key c) r))) rel_is ∙ ap (λ (r : Reply). Some r) same_reply

    rest : Dues view back (settle_replies (after (settle tree (spots ops key front)) (under (key c) op.remaining)) (spots ops key back))
    rest = subst (λ (r : Form). Dues view back (settle_replies (after (settle tree (spots ops key front)) (under (key c) r)) (spots ops key back))) rel_is split.1.1

    fixed : (d : ℕ) (q : Record) (r : Reply) → set_at c (Some (phased op (Finished (reply tree (under (key c) op.remaining)), res, rem))) ops d ≡ Some q → q.phase ≡ Finished r → view.due d ≡ Some r
    fixed d q r e f = go (place c (Some (phased op (Finished (reply tree (under (key c) op.remaining)), res, rem))) ops d)
      where
        go : Place (Option Record) c (Some (phased op (Finished (reply tree (under (key c) op.remaining)), res, rem))) ops d → view.due d ≡ Some r
        go (Here i k) =
            let a : ◌≡◌ {A = Option Record} (Some (phased op (Finished (reply tree (under (key c) op.remaining)), res, rem))) (Some q) = sym k ∙ e in
            let b : phased op (Finished (reply tree (under (key c) op.remaining)), res, rem) ≡ q = cc in
            let g : ◌≡◌ {A = Phase} (Finished (reply tree (under (key c) op.remaining))) (Finished r) = ap (λ (o : Record). o.phase) b ∙ f in
            let h : reply tree (under (key c) op.remaining) ≡ r = cc in
            ap view.due i ∙ due ∙ ap (λ (x : Reply). Some x) h
        go (Else n k) = t.fixed d q r (sym k ∙ e) f

    fresh : (d : ℕ) (q : Record) → set_at c (Some (phased op (Finished (reply tree (under (key c) op.remaining)), res, rem))) ops d ≡ Some q → q.phase ≡ Walking → view.due d ≡ None
    fresh d q e f = go (place c (Some (phased op (Finished (reply tree (under (key c) op.remaining)), res, rem))) ops d)
      where
        go : Place (Option Record) c (Some (phased op (Finished (reply tree (under (key c) op.remaining)), res, rem))) ops d → view.due d ≡ None
        go (Here i k) =
            let a : ◌≡◌ {A = Option Record} (Some (phased op (Finished (reply tree (under (key c) op.remaining)), res, rem))) (Some q) = sym k ∙ e in
            let b : phased op (Finished (reply tree (under (key c) op.remaining)), res, rem) ≡ q = cc in
            let g : ◌≡◌ {A = Phase} (Finished (reply tree (under (key c) op.remaining))) Walking = ap (λ (o : Record). o.phase) b ∙ f in
            cc
        go (Else n k) = t.fresh d q (sym k ∙ e) f
