-- The takes of a call from where it stands, each with what it asked.
use Rattle.std.proofs.Common.{◌≡◌, ℕ, Bool, true, false, not, ◌&&◌, List, [], ◌∷◌, ◌++◌, Option, Some, None, refl, sym, ap, ap₂, ◌∙◌, append-nil}
use Rattle.fs_names.specs.Keys.{Key, after_prefix, parent_of, last_of, has_more, is_end}
use Rattle.fs_names.specs.Names.{Name}
use Rattle.fs_names.specs.Parts.{common, left, left_by}
use Rattle.fs_names.specs.Shapes.{Shape, Dir, File}
use Rattle.fs_calls.specs.Forms.{Form, AtNode, AtEntry, AtPair, PairCall, EntryCall}
use Rattle.fs_calls.specs.Forms as pairs
use Rattle.fs_calls.specs.Graphs.{Graph, entry_shape}
use Rattle.fs_machine.specs.Moves.{next_on, first_of, step_move, take_if, target, target_move, fork_move, parents_move, dir_then, victim_of, same_kind, rename_at, moved_node, took, victim_took, stepped, step_or, target_took, took_by, inner}
use Rattle.fs_machine.specs.declared.moves.Move.{Move}
use Rattle.fs_machine.specs.declared.moves.Move.TheVariants.{Take as Takes, Finish as Finishes}
use Rattle.fs_machine.specs.declared.moves.Moved.{Moved}
use Rattle.fs_machine.specs.declared.moves.Moved.TheVariants.{Nothing}
use Rattle.fs_machine.specs.Records.{Record, Holdings, Side, Source, Dest, of_side, head_on, holdings_at}
use Rattle.fs_laws.proofs.trees.Prefixes.{prefix_append}
use Rattle.fs_laws.proofs.calls.Behind.{take_past}
use Rattle.fs_laws.proofs.calls.NodesHeld.{Grown, grown_head, grown_victim}
use Rattle.fs_laws.proofs.events.Take.{step_takes}

-- whether a rename wants the victim
abbrev pub wants : Graph → Key → Key → Holdings → Bool
wants graph p q st = same_kind (entry_shape graph st.source.node (last_of p)) (entry_shape graph st.dest.node (last_of q)) && not (is_end (after_prefix p q)) && not (has_more (after_prefix q p))

-- the holdings after a take at the target
abbrev pub with_holdings : Record → Holdings → Record
with_holdings op st = record op { holdings = Some st }

-- the record after a step of the walk
abbrev pub walked_on : Record → Holdings → Name → ℕ → Record
walked_on op st x n = record op { walked = op.walked ++ x ∷ []; remaining = inner op.remaining; holdings = Some (holdings_at n (Some st.node)) }

-- the source head has arrived, at a directory
pub record SourceThere (graph : Graph) (p : Key) (st : Holdings) : Type 0 where
  pub arrived : left st.source.walked (parent_of p) ≡ []
  pub names : List Name
  pub dir : graph.shape st.source.node ≡ Some (Dir names)

-- a head that has walked its whole path has no name left
pub none_left : (w whole : Key) → whole ≡ w → left w whole ≡ []
none_left w whole e = ap (left w) (e ∙ sym (append-nil w)) ∙ ap left_by (prefix_append w [])

-- the destination head walks only once the source head is there
abbrev pub HasTurn : Side → Graph → Key → Holdings → Type 0
HasTurn Source graph p st = Unit {0}
HasTurn Dest graph p st = SourceThere graph p st

-- at the target: of the victim of an entry, of the next node of a head, of the victim of a rename
pub data AtTarget (graph : Graph) (op : Record) (n : ℕ) (st : Holdings) : Type 0 where
  Entry : (e : EntryCall) (p : Key) → op.remaining ≡ AtEntry e p → parent_of p ≡ [] → graph.child st.node (last_of p) ≡ Some n → st.victim ≡ None → AtTarget graph op n st
  Of_head : (side : Side) (c : PairCall) (p q : Key) (x : Name) (l : Key) → op.remaining ≡ AtPair c p q → common (parent_of p) (parent_of q) ≡ [] → HasTurn side graph p st
      → left (head_on side st).walked (parent_of (of_side side p q)) ≡ x ∷ l → graph.child (head_on side st).node x ≡ Some n → AtTarget graph op n st
  Replaced : (most : ℕ) (p q : Key) → op.remaining ≡ AtPair (pairs.Rename most) p q → common (parent_of p) (parent_of q) ≡ [] → SourceThere graph p st
      → left st.dest.walked (parent_of q) ≡ [] → wants graph p q st ≡ true → graph.child st.dest.node (last_of q) ≡ Some n → st.victim ≡ None → AtTarget graph op n st

-- where the call then stands
abbrev pub stands : {graph : Graph} {op : Record} {n : ℕ} {st : Holdings} → AtTarget graph op n st → Holdings
stands {graph} {op} {n} {st} (Entry e p rem way child off) = victim_took st n
stands {graph} {op} {n} {st} (Of_head side c p q x l rem way turn at_left child) = stepped side st x n
stands {graph} {op} {n} {st} (Replaced most p q rem way there at_left want child off) = victim_took st n

pub data Take (graph : Graph) (op : Record) (n : ℕ) (st : Holdings) : Type 0 where
  Walk : (x : Name) (l : Key) → target op.remaining ≡ x ∷ l → st.behind ≡ None → graph.child st.node x ≡ Some n → took op n ≡ walked_on op st x n → Take graph op n st
  There : (t : AtTarget graph op n st) → st.behind ≡ None → took op n ≡ with_holdings op (stands t) → Take graph op n st

pub take_closed : {graph : Graph} {op : Record} {n : ℕ} {st : Holdings} → Take graph op n st → st.behind ≡ None
take_closed (Walk x l way b child is) = b
take_closed (There t b is) = b

-- a take at the target leaves the position
pub same_node : {graph : Graph} {op : Record} {n : ℕ} {st : Holdings} (t : AtTarget graph op n st) → (stands t).node ≡ st.node
same_node (Entry e p rem way child off) = refl
same_node (Of_head side c p q x l rem way turn at_left child) = refl
same_node (Replaced most p q rem way there at_left want child off) = refl

-- and adds its node to what is held
pub grown : {graph : Graph} {op : Record} {n : ℕ} {st : Holdings} (t : AtTarget graph op n st) → st.behind ≡ None → Grown st (stands t) n
grown {graph} {op} {n} {st} (Entry e p rem way child off) b = grown_victim st n off
grown {graph} {op} {n} {st} (Of_head side c p q x l rem way turn at_left child) b = grown_head side st x n b
grown {graph} {op} {n} {st} (Replaced most p q rem way there at_left want child off) b = grown_victim st n off

-- a victim is taken where one is wanted, there, and not held
victim_taken : (b : Bool) (child held : Option ℕ) (m : Moved) (n : ℕ) → take_if b child held (Finishes m) ≡ Takes n → (b ≡ true) × (child ≡ Some n) × (held ≡ None)
victim_taken false child held m n e = cc
victim_taken true None held m n e = cc
victim_taken true (Some k) (Some v) m n e = cc
victim_taken true (Some k) None m n e = let z : k ≡ n = cc in (refl, ap (λ (x : ℕ). Some x) z, refl)

dir_takes : (t : Option Shape) (m : Move) (n : ℕ) → dir_then t m ≡ Takes n → ((names : List Name) × (t ≡ Some (Dir names))) × (m ≡ Takes n)
dir_takes None m n e = cc
dir_takes (Some (Dir names)) m n e = ((names, refl), e)
dir_takes (Some (File bytes)) m n e = cc

-- at the common directory
fork_takes : (graph : Graph) (op : Record) (n : ℕ) (st : Holdings) (c : PairCall) (p q : Key) → op.holdings ≡ Some st → op.remaining ≡ AtPair c p q → common (parent_of p) (parent_of q) ≡ [] → st.behind ≡ None → fork_move graph c p q st ≡ Takes n → Take graph op n st
fork_takes graph op n st c p q on rem way behind m = source (left st.source.walked (parent_of p)) refl (dir_takes (graph.shape st.node) (first_of (step_move graph st.source.node (left st.source.walked (parent_of p))) rest) n m).1
  where
    at_dest : Move
    at_dest = dir_then (graph.shape st.dest.node) (parents_move graph c p q st)

    rest : Move
    rest = dir_then (graph.shape st.source.node) (first_of (step_move graph st.dest.node (left st.dest.walked (parent_of q))) at_dest)

    by_names : Key → Key → Holdings
    by_names k r = step_or Source k st n (step_or Dest r st n (victim_took st n))

    took_there : (k r : Key) → left st.source.walked (parent_of p) ≡ k → left st.dest.walked (parent_of q) ≡ r → took op n ≡ with_holdings op (by_names k r)
    took_there k r i j =
        ap₂ (λ (s : Option Holdings) (l : Key). took_by op s l n) on (ap target rem ∙ way)
        ∙ ap (λ (g : Form). with_holdings op (target_took g st n)) rem
        ∙ ap₂ (λ (a b : Key). with_holdings op (by_names a b)) i j

    dest : (l : Key) → SourceThere graph p st → left st.dest.walked (parent_of q) ≡ l → first_of (step_move graph st.dest.node l) at_dest ≡ Takes n → Take graph op n st
    dest (x ∷ l) t j e = There (Of_head Dest c p q x l rem way t j (step_takes graph st.dest.node x l at_dest n e)) behind (took_there [] (x ∷ l) t.arrived j)
    dest [] t j e = at_both c rem (dir_takes (graph.shape st.dest.node) (parents_move graph c p q st) n e).1
      where
        -- only a rename takes there
        at_both : (c : PairCall) → op.remaining ≡ AtPair c p q → parents_move graph c p q st ≡ Takes n → Take graph op n st
        at_both pairs.Exchange rem e = cc
        at_both (pairs.Rename most) rem e =
            let v : (wants graph p q st ≡ true) × (graph.child st.dest.node (last_of q) ≡ Some n) × (st.victim ≡ None) =
            victim_taken (wants graph p q st) (graph.child st.dest.node (last_of q)) st.victim (moved_node (rename_at graph most p q st).1 (graph.child st.source.node (last_of p))) n e in
            There (Replaced most p q rem way t j v.0 v.1 v.2) behind (took_there [] [] t.arrived j)

    source : (l : Key) → left st.source.walked (parent_of p) ≡ l → first_of (step_move graph st.source.node l) rest ≡ Takes n → Take graph op n st
    source (x ∷ l) i e = There (Of_head Source c p q x l rem way tt i (step_takes graph st.source.node x l rest n e)) behind (took_there (x ∷ l) (left st.dest.walked (parent_of q)) i refl)
    source [] i e =
        let d : ((names : List Name) × (graph.shape st.source.node ≡ Some (Dir names))) × (first_of (step_move graph st.dest.node (left st.dest.walked (parent_of q))) at_dest ≡ Takes n) =
        dir_takes (graph.shape st.source.node) (first_of (step_move graph st.dest.node (left st.dest.walked (parent_of q))) at_dest) n e in
        dest (left st.dest.walked (parent_of q)) (record { arrived = i; names = d.0.0; dir = d.0.1 }) refl d.1

-- each take of a call that holds a node is one of these
pub takes_by : (graph : Graph) (op : Record) (n : ℕ) (st : Holdings) → op.holdings ≡ Some st → next_on graph op.remaining st ≡ Takes n → Take graph op n st
takes_by graph op n st on m = way (target op.remaining) refl past.1
  where
    past : (st.behind ≡ None) × (first_of (step_move graph st.node (target op.remaining)) (target_move graph op.remaining st) ≡ Takes n)
    past = take_past st.behind (first_of (step_move graph st.node (target op.remaining)) (target_move graph op.remaining st)) n m

    no_take : Finishes Nothing ≡ Takes n → ⊥
    no_take e = cc

    there : (rem : Form) → op.remaining ≡ rem → target rem ≡ [] → target_move graph rem st ≡ Takes n → Take graph op n st
    there (AtNode e p) i w f = absurd (no_take f)
    there (AtEntry e p) i w f =
        let v : (victim_of e (entry_shape graph st.node (last_of p)) ≡ true) × (graph.child st.node (last_of p) ≡ Some n) × (st.victim ≡ None) =
        victim_taken (victim_of e (entry_shape graph st.node (last_of p))) (graph.child st.node (last_of p)) st.victim Nothing n f in
        There (Entry e p i w v.1 v.2) past.0 (ap₂ (λ (s : Option Holdings) (k : Key). took_by op s k n) on (ap target i ∙ w) ∙ ap (λ (g : Form). record op { holdings = Some (target_took g st n) }) i)
    there (AtPair c p q) i w f = fork_takes graph op n st c p q on i w past.0 f

    way : (l : Key) → target op.remaining ≡ l → first_of (step_move graph st.node l) (target_move graph op.remaining st) ≡ Takes n → Take graph op n st
    way (x ∷ l) i e = Walk x l i past.0 (step_takes graph st.node x l (target_move graph op.remaining st) n e) (ap₂ (λ (s : Option Holdings) (k : Key). took_by op s k n) on i)
    way [] i e = there op.remaining refl i e
