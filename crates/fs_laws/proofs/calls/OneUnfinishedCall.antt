-- An unfinished call by itself: what it keeps where it stands, whatever the others do; and that it never wants what it holds.
use Rattle.std.proofs.Common.{◌≡◌, ℕ, Bool, true, false, not, ◌&&◌, [], ◌∷◌, ◌++◌, Some, None, refl, sym, ap, ap₂, ◌∙◌, append_assoc, append-nil, subst, inl, inr}
use Rattle.fs_names.specs.Keys.{Key, after_prefix, parent_of, last_of, has_more, is_end}
use Rattle.fs_names.specs.Names.{Name}
use Rattle.fs_names.specs.Parts.{HasNames, common, left}
use Rattle.fs_calls.specs.Forms.{Form, AtPair, Fits, by_paths, PairCall}
use Rattle.fs_calls.specs.Forms as pairs
use Rattle.fs_calls.specs.Graphs.{Graph, numbers, IsGraph, entry_shape}
use Rattle.fs_machine.specs.Moves.{same_kind}
use Rattle.fs_machine.specs.Records.{Holds, Record, Holdings, Source, Dest, head_on}
use Rattle.fs_laws.specs.Invariants.{IsUnfinished, Forked, HeadsSound, NumberFor, VictimAt, IsSingle, Invariant}
use Rattle.fs_laws.specs.CallFacts.{Located}
use Rattle.fs_machine.specs.States.{State}
use Rattle.fs_laws.proofs.trees.Prefixes.{prefix_append, same_refl}
use Rattle.fs_laws.proofs.graphs.Walks.{at_child}
use Rattle.fs_laws.proofs.calls.Located.{key_is, from_more, to_more}
use Rattle.fs_laws.proofs.calls.Takes.{Entry, Of_head, Replaced, Take, Walk, There, take_closed}
use Rattle.fs_laws.proofs.calls.HeadOrder.{NeatIn, HeadsInOrder, plain_of, in_turn, not_there, no_victim}
use Rattle.fs_laws.proofs.states.Agreement.{StateFacts, text_open}
use Rattle.fs_laws.proofs.calls.TakesAtTarget.{forked_of}
use Rattle.fs_laws.proofs.calls.NodesHeld.{none_some}

pub record OneUnfinished (graph : Graph) (k : Key) (op : Record) (st : Holdings) : Type 0 where
  pub on : op.holdings ≡ Some st
  pub unfinished : IsUnfinished op
  pub text : by_paths op.call ≡ None
  pub loc : Located (numbers graph) k st
  pub fits : Fits op.remaining
  pub well : HeadsSound graph st.node op.remaining st
  pub number : NumberFor graph op.remaining op.reserved
  pub victim : VictimAt graph op.remaining st
  pub single : IsSingle st
  pub neat : HeadsInOrder graph op.remaining st

-- each unfinished call of a run that stands somewhere
pub solo_of : (s : State) (inv : Invariant s) (acc : StateFacts s) (c : ℕ) (op : Record) (st : Holdings) → s.ops c ≡ Some op → IsUnfinished op → op.holdings ≡ Some st → OneUnfinished s.graph (inv.key c) op st
solo_of s inv acc c op st is u on = record {
  on = on;
  unfinished = u;
  text = text_open s inv c op st is on;
  loc = (inv.kept.each c op st is on).located;
  fits = (inv.kept.each c op st is on).fits;
  well = (inv.own c op is).well st on;
  number = (inv.own c op is).number u (text_open s inv c op st is on);
  victim = (inv.own c op is).victim u st on;
  single = (inv.own c op is).single st on;
  neat = (acc.neat c op st is on).under_way u;
}

-- keys of different lengths
longer : (k w : Key) (x : Name) → k ≡ (k ++ w) ++ x ∷ [] → ⊥
longer k w x e = no_end w x (sym (cancel k (w ++ x ∷ []) (e ∙ append_assoc k w (x ∷ []))))
  where
    no_end : (w : Key) (x : Name) → w ++ x ∷ [] ≡ [] → ⊥
    no_end [] x e = cc
    no_end (y ∷ w) x e = cc

    cancel : (k r : Key) → k ≡ k ++ r → [] ≡ r
    cancel [] r e = e
    cancel (y ∷ k) r e = cancel k r (let z : y ∷ k ≡ y ∷ (k ++ r) = e in cc)

pub front_same : (k a b : Key) → k ++ a ≡ k ++ b → a ≡ b
front_same [] a b e = e
front_same (y ∷ k) a b e = front_same k a b (let z : y ∷ (k ++ a) ≡ y ∷ (k ++ b) = e in cc)

-- what begins with a name of the other has a common beginning
common_some : (a l : Key) → HasNames a → common a (a ++ l) ≡ [] → ⊥
common_some [] l h e = absurd h
common_some (x ∷ a) l h e = let z : x ∷ common a (a ++ l) ≡ [] = sym (rw (same_refl x) refl) ∙ e in cc

all_true : (a b d : Bool) → (a && b && d) ≡ true → d ≡ true
all_true true true d e = e
all_true true false d e = cc
all_true false b d e = cc

not_true : (b : Bool) → not b ≡ true → b ≡ false
not_true true e = cc
not_true false e = refl

-- a call never wants what it holds
pub solo_wants : (graph : Graph) → IsGraph graph → (k : Key) (op : Record) (n : ℕ) (st : Holdings) → OneUnfinished graph k op st → Take graph op n st → Holds st n → ⊥
solo_wants graph is_graph k op n st solo t h = go t h
  where
    loc : Located (numbers graph) k st
    loc = solo.loc

    neat : HeadsInOrder graph op.remaining st
    neat = solo.neat

    -- the node at a key is none at a longer one
    not_longer : (key w : Key) (x : Name) (m : ℕ) → numbers graph key ≡ Some m → m ≡ n → numbers graph ((key ++ w) ++ x ∷ []) ≡ Some n → ⊥
    not_longer key w x m e i f = longer key w x (is_graph.one_key key ((key ++ w) ++ x ∷ []) n (e ∙ ap (λ (y : ℕ). Some y) i) f)

    here : (w : Key) (m : ℕ) (x : Name) → numbers graph (k ++ w) ≡ Some m → graph.child m x ≡ Some n → numbers graph ((k ++ w) ++ x ∷ []) ≡ Some n
    here w m x e f = at_child graph.child 0 m (k ++ w) x e ∙ f

    not_node : (w : Key) (m : ℕ) (x : Name) → numbers graph (k ++ w) ≡ Some m → graph.child m x ≡ Some n → st.node ≡ n → ⊥
    not_node w m x e f i = not_longer (k) w x st.node loc.here i (here w m x e f)

    not_itself : (w : Key) (m : ℕ) (x : Name) → numbers graph (k ++ w) ≡ Some m → graph.child m x ≡ Some n → m ≡ n → ⊥
    not_itself w m x e f i = not_longer (k ++ w) [] x m e i (ap (λ (l : Key). numbers graph (l ++ x ∷ [])) (append-nil (k ++ w)) ∙ here w m x e f)

    at_node : numbers graph (k ++ []) ≡ Some st.node
    at_node = ap (numbers graph) (append-nil (k)) ∙ loc.here

    forked : (c : PairCall) (p q : Key) → op.remaining ≡ AtPair c p q → common (parent_of p) (parent_of q) ≡ [] → Forked graph st.node p q st
    forked c p q rem way = forked_of graph st.node c p q st op.remaining rem way solo.well

    arrived_is : (whole w : Key) → whole ≡ w ++ left w whole → left w whole ≡ [] → whole ≡ w
    arrived_is whole w e i = e ∙ ap (λ (l : Key). w ++ l) i ∙ append-nil w

    -- the source head, where it stands at a child of the destination head's node
    child_of_dest : (y : Name) → graph.child st.dest.node y ≡ Some n → st.source.node ≡ n → st.source.walked ≡ st.dest.walked ++ y ∷ []
    child_of_dest y child i =
        let same : k ++ st.source.walked ≡ (k ++ st.dest.walked) ++ y ∷ [] = is_graph.one_key (k ++ st.source.walked) ((k ++ st.dest.walked) ++ y ∷ []) n ((loc.head Source) ∙ ap (λ (m : ℕ). Some m) i) (here st.dest.walked st.dest.node y (loc.head Dest) child) in
        front_same k st.source.walked (st.dest.walked ++ y ∷ []) (same ∙ append_assoc k st.dest.walked (y ∷ []))

    go : Take graph op n st → Holds st n → ⊥
    go t (inr (inl i)) = none_some st.behind n (take_closed t) i
    go t (inr (inr (inr (inr i)))) = none_some st.victim n (no_victim graph op n st neat solo.victim t) i
    go (Walk x l way b child t_is) (inl i) = not_node [] st.node x at_node child i
    go (Walk x l way b child t_is) (inr (inr (inl i))) = subst HasNames (plain_of graph op.remaining st x l way neat).0 i.0
    go (Walk x l way b child t_is) (inr (inr (inr (inl i)))) = subst HasNames (plain_of graph op.remaining st x l way neat).1 i.0
    go (There (Entry e p rem way child off) b t_is) (inl i) = not_node [] st.node (last_of p) at_node child i
    go (There (Entry e p rem way child off) b t_is) (inr (inr (inl i))) = let w : NeatIn p st = subst (λ (f : Form). HeadsInOrder graph f st) rem neat in subst HasNames w.source i.0
    go (There (Entry e p rem way child off) b t_is) (inr (inr (inr (inl i)))) = let w : NeatIn p st = subst (λ (f : Form). HeadsInOrder graph f st) rem neat in subst HasNames w.dest i.0
    go (There (Of_head side c p q x l rem way turn at_left child) b t_is) (inl i) = not_node (head_on side st).walked (head_on side st).node x (loc.head side) child i
    go (There (Of_head Source c p q x l rem way turn at_left child) b t_is) (inr (inr (inl (_, i)))) = not_itself st.source.walked st.source.node x (loc.head Source) child i
    go (There (Of_head Source c p q x l rem way turn at_left child) b t_is) (inr (inr (inr (inl i)))) = not_there graph p st x l at_left ((in_turn graph c p q st op.remaining rem way neat).dest i.0)
    go (There (Of_head Dest c p q x l rem way turn at_left child) b t_is) (inr (inr (inr (inl (_, i))))) = not_itself st.dest.walked st.dest.node x (loc.head Dest) child i
    go (There (Of_head Dest c p q x l rem way turn at_left child) b t_is) (inr (inr (inl (more, i)))) =
        let f : Forked graph st.node p q st = forked c p q rem way in
        let w : st.source.walked ≡ st.dest.walked ++ x ∷ [] = child_of_dest x child i in
        let a : parent_of p ≡ st.source.walked = arrived_is (parent_of p) st.source.walked (f.path Source) turn.arrived in
        let d : parent_of q ≡ st.source.walked ++ l = f.path Dest ∙ ap (λ (y : Key). st.dest.walked ++ y) at_left ∙ sym (append_assoc st.dest.walked (x ∷ []) l) ∙ ap (λ (y : Key). y ++ l) (sym w) in
        common_some st.source.walked l more (sym (ap₂ common a d) ∙ way)
    go (There (Replaced most p q rem way there at_left want child off) b t_is) (inl i) = not_node st.dest.walked st.dest.node (last_of q) (loc.head Dest) child i
    go (There (Replaced most p q rem way there at_left want child off) b t_is) (inr (inr (inr (inl (_, i))))) = not_itself st.dest.walked st.dest.node (last_of q) (loc.head Dest) child i
    go (There (Replaced most p q rem way there at_left want child off) b t_is) (inr (inr (inl (more, i)))) =
        let f : Forked graph st.node p q st = forked (pairs.Rename most) p q rem way in
        let fits : Fits (AtPair (pairs.Rename most) p q) = subst Fits rem solo.fits in
        let w : st.source.walked ≡ st.dest.walked ++ last_of q ∷ [] = child_of_dest (last_of q) child i in
        let a : parent_of p ≡ st.source.walked = arrived_is (parent_of p) st.source.walked (f.path Source) there.arrived in
        let d : parent_of q ≡ st.dest.walked = arrived_is (parent_of q) st.dest.walked (f.path Dest) at_left in
        let q_is : q ≡ st.source.walked = key_is q (to_more (pairs.Rename most) p q fits) ∙ ap (λ (y : Key). y ++ last_of q ∷ []) d ∙ sym w in
        let p_is : p ≡ q ++ last_of p ∷ [] = key_is p (from_more (pairs.Rename most) p q fits) ∙ ap (λ (y : Key). y ++ last_of p ∷ []) (a ∙ sym q_is) in
        let above : has_more (after_prefix q p) ≡ true = ap has_more (ap (after_prefix q) p_is ∙ prefix_append q (last_of p ∷ [])) in
        let below : has_more (after_prefix q p) ≡ false = not_true (has_more (after_prefix q p)) (all_true (same_kind (entry_shape graph st.source.node (last_of p)) (entry_shape graph st.dest.node (last_of q))) (not (is_end (after_prefix p q))) (not (has_more (after_prefix q p))) want) in
        (let z : true ≡ false = sym above ∙ below in cc)
