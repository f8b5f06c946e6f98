-- How a call holds its nodes: a head sets out only when the one before has arrived, and a finished call holds no parent behind.
use Rattle.std.proofs.Common.{◌≡◌, ℕ, List, [], ◌∷◌, Option, Some, None, refl, sym, ap, ◌∙◌, subst, inl, inr}
use Rattle.fs_names.specs.Keys.{Key, parent_of}
use Rattle.fs_names.specs.Names.{Name}
use Rattle.fs_names.specs.Parts.{HasNames, common, left}
use Rattle.fs_names.specs.Shapes.{Dir}
use Rattle.fs_calls.specs.Forms.{Form, AtNode, AtEntry, AtPair, PairCall}
use Rattle.fs_calls.specs.Forms as pairs
use Rattle.fs_calls.specs.declared.reply.Reply.{Reply}
use Rattle.fs_calls.specs.Graphs.{Graph}
use Rattle.fs_machine.specs.Moves.{target, took, victim_took, stepped, took_by, inner}
use Rattle.fs_machine.specs.Records.{Finished, Holds, Record, Holdings, Side, Source, Dest, of_side, head_on, holdings_at}
use Rattle.fs_laws.specs.Invariants.{IsUnfinished, VictimAt}
use Rattle.fs_laws.proofs.calls.NodesHeld.{slot_holds, grown_keeps, one_holdings, none_some}
use Rattle.fs_laws.proofs.calls.Takes.{SourceThere, AtTarget, Entry, Of_head, Replaced, Take, Walk, There, stands, grown, none_left, with_holdings, walked_on}

-- neither head has set out, and there is no victim
pub record IsPlain (st : Holdings) : Type 0 where
  pub source : st.source.walked ≡ []
  pub dest : st.dest.walked ≡ []
  pub victim : st.victim ≡ None

-- at a pair's common directory the second head, and then the victim, come last
pub record InTurn (graph : Graph) (p : Key) (st : Holdings) : Type 0 where
  pub dest : HasNames st.dest.walked → SourceThere graph p st
  pub victim : (v : ℕ) → st.victim ≡ Some v → SourceThere graph p st

abbrev pub NeatAt : Graph → Key → Holdings → Key → Type 0
NeatAt graph p st [] = InTurn graph p st
NeatAt graph p st (x ∷ l) = IsPlain st

-- the same of each form of call
pub record NeatIn (p : Key) (st : Holdings) : Type 0 where
  pub source : st.source.walked ≡ []
  pub dest : st.dest.walked ≡ []
  pub victim : HasNames (parent_of p) → st.victim ≡ None

abbrev pub HeadsInOrder : Graph → Form → Holdings → Type 0
HeadsInOrder graph (AtNode c p) st = IsPlain st
HeadsInOrder graph (AtEntry c p) st = NeatIn p st
HeadsInOrder graph (AtPair c p q) st = NeatAt graph p st (target (AtPair c p q))

-- nothing is held behind
abbrev pub IsClosed : Holdings → Type 0
IsClosed st = st.behind ≡ None

pub record HeadsOfCallInOrder (graph : Graph) (op : Record) (st : Holdings) : Type 0 where
  pub under_way : IsUnfinished op → HeadsInOrder graph op.remaining st
  pub closed : (r : Reply) → op.phase ≡ Finished r → IsClosed st

-- holdings at one node
pub neat_fresh : (graph : Graph) (remaining : Form) (n : ℕ) (behind : Option ℕ) → HeadsInOrder graph remaining (holdings_at n behind)
neat_fresh graph (AtNode c p) n behind = record { source = refl; dest = refl; victim = refl }
neat_fresh graph (AtEntry c p) n behind = record { source = refl; dest = refl; victim = λ h. refl }
neat_fresh graph (AtPair c p q) n behind = go (common (parent_of p) (parent_of q))
  where
    go : (l : Key) → NeatAt graph p (holdings_at n behind) l
    go [] = record { dest = λ h. absurd h; victim = λ v e. cc }
    go (x ∷ l) = record { source = refl; dest = refl; victim = refl }

-- what it reads of the graph is that the source head's node is a directory
abbrev pub DirStays : Graph → Graph → ℕ → Type 0
DirStays old new n = (names : List Name) → old.shape n ≡ Some (Dir names) → (ns : List Name) × (new.shape n ≡ Some (Dir ns))

there_by : (old new : Graph) (p : Key) (st : Holdings) → DirStays old new st.source.node → SourceThere old p st → SourceThere new p st
there_by old new p st f s = let d : (ns : List Name) × (new.shape st.source.node ≡ Some (Dir ns)) = f s.names s.dir in record { arrived = s.arrived; names = d.0; dir = d.1 }

pub neat_by : (old new : Graph) (remaining : Form) (st : Holdings) → DirStays old new st.source.node → HeadsInOrder old remaining st → HeadsInOrder new remaining st
neat_by old new (AtNode c p) st f w = w
neat_by old new (AtEntry c p) st f w = w
neat_by old new (AtPair c p q) st f w = go (common (parent_of p) (parent_of q)) w
  where
    go : (l : Key) → NeatAt old p st l → NeatAt new p st l
    go [] w = record { dest = λ h. there_by old new p st f (w.dest h); victim = λ v e. there_by old new p st f (w.victim v e) }
    go (x ∷ l) w = w

pub neat_op_by : (old new : Graph) (op : Record) (st : Holdings) → DirStays old new st.source.node → HeadsOfCallInOrder old op st → HeadsOfCallInOrder new op st
neat_op_by old new op st f w = record { under_way = λ u. neat_by old new op.remaining st f (w.under_way u); closed = w.closed }

there_at : (graph : Graph) (p : Key) (old new : Holdings) → new.source.walked ≡ old.source.walked → new.source.node ≡ old.source.node → SourceThere graph p old → SourceThere graph p new
there_at graph p old new walked node t = record { arrived = ap (λ (k : Key). left k (parent_of p)) walked ∙ t.arrived; names = t.names; dir = ap graph.shape node ∙ t.dir }

-- holdings with the same heads and victim
pub record SameHeads (old new : Holdings) : Type 0 where
  pub source : new.source.walked ≡ old.source.walked
  pub node : new.source.node ≡ old.source.node
  pub dest : new.dest.walked ≡ old.dest.walked
  pub victim : new.victim ≡ old.victim

pub neat_heads : (graph : Graph) (remaining : Form) (old new : Holdings) → SameHeads old new → HeadsInOrder graph remaining old → HeadsInOrder graph remaining new
neat_heads graph (AtNode c p) old new s w = record { source = s.source ∙ w.source; dest = s.dest ∙ w.dest; victim = s.victim ∙ w.victim }
neat_heads graph (AtEntry c p) old new s w = record { source = s.source ∙ w.source; dest = s.dest ∙ w.dest; victim = λ h. s.victim ∙ w.victim h }
neat_heads graph (AtPair c p q) old new s w = go (common (parent_of p) (parent_of q)) w
  where
    there : SourceThere graph p old → SourceThere graph p new
    there = there_at graph p old new s.source s.node

    go : (l : Key) → NeatAt graph p old l → NeatAt graph p new l
    go [] w = record { dest = λ h. there (w.dest (subst HasNames s.dest h)); victim = λ v e. there (w.victim v (sym s.victim ∙ e)) }
    go (x ∷ l) w = record { source = s.source ∙ w.source; dest = s.dest ∙ w.dest; victim = s.victim ∙ w.victim }

-- a call with a name to walk has neither heads nor a victim
pub plain_of : (graph : Graph) (remaining : Form) (st : Holdings) (x : Name) (l : Key) → target remaining ≡ x ∷ l → HeadsInOrder graph remaining st → (st.source.walked ≡ []) × (st.dest.walked ≡ []) × (st.victim ≡ None)
plain_of graph (AtNode c p) st x l e w = (w.source, w.dest, w.victim)
plain_of graph (AtEntry c p) st x l e w = (w.source, w.dest, w.victim (subst HasNames (sym e) tt))
plain_of graph (AtPair c p q) st x l e w = let i : IsPlain st = subst (NeatAt graph p st) e w in (i.source, i.dest, i.victim)

pub in_turn : (graph : Graph) (c : PairCall) (p q : Key) (st : Holdings) (remaining : Form) → remaining ≡ AtPair c p q → common (parent_of p) (parent_of q) ≡ [] → HeadsInOrder graph remaining st → InTurn graph p st
in_turn graph c p q st remaining rem way w = subst (NeatAt graph p st) way (subst (λ (f : Form). HeadsInOrder graph f st) rem w)

of_turn : (graph : Graph) (c : PairCall) (p q : Key) (st : Holdings) (remaining : Form) → remaining ≡ AtPair c p q → common (parent_of p) (parent_of q) ≡ [] → InTurn graph p st → HeadsInOrder graph remaining st
of_turn graph c p q st remaining rem way w = subst (λ (f : Form). HeadsInOrder graph f st) (sym rem) (subst (NeatAt graph p st) (sym way) w)

-- a head that is on its way has not arrived
pub not_there : (graph : Graph) (p : Key) (st : Holdings) (x : Name) (l : Key) → left st.source.walked (parent_of p) ≡ x ∷ l → SourceThere graph p st → ⊥
not_there graph p st x l e t = let z : ◌≡◌ {A = Key} [] (x ∷ l) = sym t.arrived ∙ e in cc

-- a call that takes holds no victim yet
pub no_victim : (graph : Graph) (op : Record) (n : ℕ) (st : Holdings) → HeadsInOrder graph op.remaining st → VictimAt graph op.remaining st → Take graph op n st → st.victim ≡ None
no_victim graph op n st neat vic (Walk x l way b child is) = (plain_of graph op.remaining st x l way neat).2
no_victim graph op n st neat vic (There (Entry e p rem way child off) b is) = off
no_victim graph op n st neat vic (There (Replaced most p q rem way there at_left want child off) b is) = off
no_victim graph op n st neat vic (There (Of_head side c p q x l rem way turn at_left child) b is) = go st.victim (λ v e. none side at_left v e)
  where
    -- a pair holds a victim only once the destination head has arrived
    none_yet : (c : PairCall) → op.remaining ≡ AtPair c p q → left st.dest.walked (parent_of q) ≡ x ∷ l → (v : ℕ) → st.victim ≡ Some v → ⊥
    none_yet c rem i v e = let z : ◌≡◌ {A = Key} [] (x ∷ l) = sym (none_left st.dest.walked (parent_of q) (subst (λ (g : Form). VictimAt graph g st) rem vic v e).1) ∙ i in cc

    none : (side : Side) → left (head_on side st).walked (parent_of (of_side side p q)) ≡ x ∷ l → (v : ℕ) → st.victim ≡ Some v → ⊥
    none Source i v e = not_there graph p st x l i ((in_turn graph c p q st op.remaining rem way neat).victim v e)
    none Dest i v e = none_yet c rem i v e

    go : (o : Option ℕ) → ((v : ℕ) → o ≡ Some v → ⊥) → o ≡ None
    go None h = refl
    go (Some v) h = absurd (h v refl)

pub record TookWell (graph : Graph) (op : Record) (n : ℕ) : Type 0 where
  pub new : Holdings
  pub on : (took op n).holdings ≡ Some new
  pub seat : (took op n).seat ≡ op.seat
  pub here : Holds new n
  pub stays : (st : Holdings) (m : ℕ) → op.holdings ≡ Some st → Holds st m → Holds new m
  pub neat : HeadsOfCallInOrder graph (took op n) new

-- a record with the same phase
open_only : (graph : Graph) (op v : Record) (st : Holdings) → IsUnfinished op → v.phase ≡ op.phase → HeadsInOrder graph v.remaining st → HeadsOfCallInOrder graph v st
open_only graph op v st u same w = record { under_way = λ h. w; closed = λ r e. absurd (u r (sym same ∙ e)) }

took_as : (graph : Graph) (op v : Record) (n : ℕ) (new : Holdings) → took op n ≡ v → v.holdings ≡ Some new → v.seat ≡ op.seat → Holds new n → ((st : Holdings) (m : ℕ) → op.holdings ≡ Some st → Holds st m → Holds new m) → HeadsOfCallInOrder graph v new → TookWell graph op n
took_as graph op v n new is on seat here stays neat = record {
  new = new;
  on = ap (λ (o : Record). o.holdings) is ∙ on;
  seat = ap (λ (o : Record). o.seat) is ∙ seat;
  here = here;
  stays = stays;
  neat = subst (λ (o : Record). HeadsOfCallInOrder graph o new) (sym is) neat;
}

pub took_root : (graph : Graph) (op : Record) (n : ℕ) → IsUnfinished op → op.holdings ≡ None → TookWell graph op n
took_root graph op n u off = took_as graph op (record op { holdings = Some (holdings_at n None) }) n (holdings_at n None) (ap (λ (s : Option Holdings). took_by op s (target op.remaining) n) off) refl refl (inl refl)
    (λ st m e h. (let z : ◌≡◌ {A = Option Holdings} None (Some st) = sym off ∙ e in cc))
    (open_only graph op (record op { holdings = Some (holdings_at n None) }) (holdings_at n None) u refl (neat_fresh graph op.remaining n None))

pub took_well : (graph : Graph) (op : Record) (n : ℕ) (st : Holdings) → IsUnfinished op → op.holdings ≡ Some st → HeadsInOrder graph op.remaining st → Take graph op n st → TookWell graph op n
took_well graph op n st u on w (Walk x l way b child is) =
    took_as graph op (walked_on op st x n) n (holdings_at n (Some st.node)) is refl refl (inl refl) (λ s m e h. stays m (subst (λ (y : Holdings). Holds y m) (one_holdings e on) h))
    (open_only graph op (walked_on op st x n) (holdings_at n (Some st.node)) u refl (neat_fresh graph (inner op.remaining) n (Some st.node)))
  where
    plain : (st.source.walked ≡ []) × (st.dest.walked ≡ []) × (st.victim ≡ None)
    plain = plain_of graph op.remaining st x l way w

    stays : (m : ℕ) → Holds st m → Holds (holdings_at n (Some st.node)) m
    stays m (inl e) = inr (inl (ap (λ (k : ℕ). Some k) e))
    stays m (inr (inl e)) = none_some st.behind m b e
    stays m (inr (inr (inl h))) = absurd (subst HasNames plain.0 h.0)
    stays m (inr (inr (inr (inl h)))) = absurd (subst HasNames plain.1 h.0)
    stays m (inr (inr (inr (inr e)))) = none_some st.victim m plain.2 e
took_well graph op n st u on w (There t b is) =
    took_as graph op (with_holdings op (stands t)) n (stands t) is refl refl (slot_holds (stands t) (grown t b).at n (grown t b).here) (λ s m i h. grown_keeps (grown t b) m (subst (λ (y : Holdings). Holds y m) (one_holdings i on) h))
    (open_only graph op (with_holdings op (stands t)) (stands t) u refl (neat t))
  where
    neat : (t : AtTarget graph op n st) → HeadsInOrder graph op.remaining (stands t)
    neat (Entry e p rem way child off) =
        let mine : NeatIn p st = subst (λ (f : Form). HeadsInOrder graph f st) rem w in
        subst (λ (f : Form). HeadsInOrder graph f (victim_took st n)) (sym rem) (record { source = mine.source; dest = mine.dest; victim = λ h. absurd (subst HasNames way h) })
    neat (Of_head Source c p q x l rem way turn at_left child) =
        let old : InTurn graph p st = in_turn graph c p q st op.remaining rem way w in
        of_turn graph c p q (stepped Source st x n) op.remaining rem way (record { dest = λ h. absurd (not_there graph p st x l at_left (old.dest h)); victim = λ v i. absurd (not_there graph p st x l at_left (old.victim v i)) })
    neat (Of_head Dest c p q x l rem way turn at_left child) =
        of_turn graph c p q (stepped Dest st x n) op.remaining rem way (record { dest = λ h. there_at graph p st (stepped Dest st x n) refl refl turn; victim = λ v i. there_at graph p st (stepped Dest st x n) refl refl turn })
    neat (Replaced most p q rem way there at_left want child off) =
        of_turn graph (pairs.Rename most) p q (victim_took st n) op.remaining rem way (record { dest = λ h. there_at graph p st (victim_took st n) refl refl there; victim = λ v i. there_at graph p st (victim_took st n) refl refl there })
