-- What each call keeps of its own record when the graph changes, and when it finishes.
use Rattle.std.proofs.Common.{◌≡◌, ℕ, [], ◌∷◌, Option, Some, None, refl, sym, ap, ◌∙◌, subst, ◌⊎◌, inl, inr}
use Rattle.fs_names.specs.Keys.{Key, parent_of, last_of}
use Rattle.fs_names.specs.Parts.{common}
use Rattle.fs_names.specs.Shapes.{Shape, Dir}
use Rattle.fs_names.specs.declared.limits.Limits.{Limits}
use Rattle.fs_calls.specs.Forms.{Form, AtNode, AtEntry, AtPair}
use Rattle.fs_calls.specs.Graphs.{Graph, at, numbers, IsGraph}
use Rattle.fs_machine.specs.Finishes.{Effect}
use Rattle.fs_machine.specs.Records.{Holds, Record, Holdings, Dest, head_on}
use Rattle.fs_laws.specs.Invariants.{ForkedAt, HeadsSound, NumberFor, VictimAt, HasSpare, Own}
use Rattle.fs_laws.specs.CallFacts.{Located}
use Rattle.fs_machine.specs.Leaving.{finished_op}
use Rattle.fs_laws.proofs.graphs.Walks.{at_from, then_some}
use Rattle.fs_laws.proofs.graphs.Alterations.{Altered, Reached}
use Rattle.fs_laws.proofs.calls.NodesHeld.{node_held}

-- a reached number is in use
pub reached_used : (graph : Graph) → IsGraph graph → (k : Key) (n : ℕ) → numbers graph k ≡ Some n → (s : Shape) × (graph.shape n ≡ Some s)
reached_used graph is k n e = go k 0 (Dir is.root.0) is.root.1 e
  where
    go : (k : Key) (m : ℕ) (s : Shape) → graph.shape m ≡ Some s → at graph.child m k ≡ Some n → (s : Shape) × (graph.shape n ≡ Some s)
    go [] m s u e = let z : m ≡ n = cc in (s, sym (ap graph.shape z) ∙ u)
    go (x ∷ k) m s u e =
        let g : (q : ℕ) × (graph.child m x ≡ Some q) × (at graph.child q k ≡ Some n) = then_some (graph.child m x) (λ q. at graph.child q k) n e in
        let t : (s : Shape) × (graph.shape g.0 ≡ Some s) = is.to_used m g.0 x g.1 in
        go k g.0 t.0 t.1 g.2

-- where a call stands in the new graph, it stands well there
pub well_by : (old new : Graph) (k : Key) (st : Holdings) (remaining : Form) → Located (numbers new) k st → HeadsSound old st.node remaining st → HeadsSound new st.node remaining st
well_by old new k st (AtNode c p) loc w = w
well_by old new k st (AtEntry c p) loc w = w
well_by old new k st (AtPair c p q) loc w = go (common (parent_of p) (parent_of q)) w
  where
    go : (l : Key) → ForkedAt old st.node p q st l → ForkedAt new st.node p q st l
    go (x ∷ l) w = w
    go [] w = record {
      stands = λ side. sym (at_from new.child 0 st.node k (head_on side st).walked loc.here) ∙ loc.head side;
      path = w.path;
    }

-- what stays unreached
pub unreached : (old new : Graph) (linked : Option ℕ) (st : Holdings) → Altered old new linked st → (n : ℕ) → (linked ≡ Some n → ⊥) → ((l : Key) → numbers old l ≡ Some n → ⊥) → (l : Key) → numbers new l ≡ Some n → ⊥
unreached old new linked st a n differs loose l e = go (a.reach l n e)
  where
    go : Reached old n ⊎ (linked ≡ Some n) → ⊥
    go (inl r) = loose r.0 r.1
    go (inr i) = differs i

number_by : (old new : Graph) (linked : Option ℕ) (st : Holdings) (remaining : Form) (reserved : Option ℕ) → Altered old new linked st → ((n : ℕ) → reserved ≡ Some n → linked ≡ Some n → ⊥) → NumberFor old remaining reserved → NumberFor new remaining reserved
number_by old new linked st (AtNode c p) reserved a differs w = w
number_by old new linked st (AtPair c p q) reserved a differs w = w
number_by old new linked st (AtEntry c p) reserved a differs w = λ shape e.
    (let h : (m : ℕ) × (reserved ≡ Some m) × (old.shape m ≡ Some shape) × ((key : Key) → numbers old key ≡ Some m → ⊥) = w shape e in
    (h.0, h.1, a.shapes.loose h.0 (λ r. h.3 r.0 r.1) ∙ h.2, unreached old new linked st a h.0 (differs h.0 h.1) h.3))

victim_by : (old new : Graph) (linked : Option ℕ) (st : Holdings) (k : Key) (mine : Holdings) (remaining : Form) → Altered old new linked st → Located (numbers new) k mine → ((n : ℕ) → Holds mine n → Holds st n → ⊥) → VictimAt old remaining mine → VictimAt new remaining mine
victim_by old new linked st k mine (AtNode c p) a loc apart w = w
victim_by old new linked st k mine (AtEntry c p) a loc apart w = λ v e. a.child_same mine.node (last_of p) (λ h. apart mine.node (inl refl) h) ∙ w v e
victim_by old new linked st k mine (AtPair c p q) a loc apart w = λ v e. (a.child_same mine.dest.node (last_of q) (λ h. apart mine.dest.node (node_held Dest (numbers new) k mine loc) h) ∙ (w v e).0, (w v e).1, (w v e).2)

-- another call
pub own_other : {limits : Limits} (old new : Graph) (linked : Option ℕ) (st : Holdings) (k : Key) (q : Record) → Altered old new linked st → Own limits old q
    → ((other : Holdings) → q.holdings ≡ Some other → Located (numbers new) k other × ((n : ℕ) → Holds other n → Holds st n → ⊥))
    → ((n : ℕ) → linked ≡ Some n → HasSpare q n → ⊥)
    → Own limits new q
own_other old new linked st k q a o stands apart = record {
  parts = o.parts;
  well = λ other e. well_by old new k other q.remaining (stands other e).0 (o.well other e);
  spare = λ n e.
      (let s : ((s : Shape) × (old.shape n ≡ Some s)) × ((key : Key) → numbers old key ≡ Some n → ⊥) = o.spare n e in
      (a.shapes.to_new n s.0.0 s.0.1, unreached old new linked st a n (λ i. apart n i (inl e)) s.1));
  number = λ u f. number_by old new linked st q.remaining q.reserved a (λ n i j. apart n j (inl i)) (o.number u f);
  placed = o.placed;
  gone = λ n e.
      (let g : ((other : Holdings) × (q.holdings ≡ Some other) × (other.victim ≡ Some n)) × ((key : Key) → numbers old key ≡ Some n → ⊥) × ((s : Shape) × (old.shape n ≡ Some s)) = o.gone n e in
      (g.0, unreached old new linked st a n (λ i. apart n i (inr e)) g.1, a.shapes.to_new n g.2.0 g.2.1));
  intact = o.intact;
  one_spare = o.one_spare;
  victim = λ u other e. victim_by old new linked st k other q.remaining a (stands other e).0 (stands other e).1 (o.victim u other e);
  starts = o.starts;
  single = o.single;
}

-- the call that finishes, where it stands
pub own_finished : {limits : Limits} (old : Graph) (made : Effect) (linked : Option ℕ) (st : Holdings) (k : Key) (op : Record) → IsGraph old → Altered old made.graph linked st → Own limits old op → op.holdings ≡ Some st → Located (numbers made.graph) k st
    → ((n : ℕ) → linked ≡ Some n → made.reserved ≡ None)
    → ((n : ℕ) → made.reserved ≡ Some n → op.reserved ≡ Some n)
    → ((n : ℕ) → made.removed ≡ Some n → (st.victim ≡ Some n) × ((l : Key) → numbers made.graph l ≡ Some n → ⊥) × Reached old n)
    → Own limits made.graph (finished_op op made)
own_finished old made linked st k op is a o on loc links reserved removed = record {
  parts = o.parts;
  well = λ other e. (let z : ◌≡◌ {A = Option Holdings} (Some st) (Some other) = sym on ∙ e in let y : st ≡ other = cc in subst (λ (s : Holdings). HeadsSound made.graph s.node op.remaining s) y (well_by old made.graph k st op.remaining loc (o.well st on)));
  spare = λ n e.
      (let s : ((s : Shape) × (old.shape n ≡ Some s)) × ((key : Key) → numbers old key ≡ Some n → ⊥) = o.spare n (reserved n e) in
      (a.shapes.to_new n s.0.0 s.0.1, unreached old made.graph linked st a n (λ i. (let z : ◌≡◌ {A = Option ℕ} None (Some n) = sym (links n i) ∙ e in cc)) s.1));
  number = λ u. absurd (u made.reply refl);
  placed = λ i e. cc;
  gone = λ n e.
      (let g : (st.victim ≡ Some n) × ((l : Key) → numbers made.graph l ≡ Some n → ⊥) × Reached old n = removed n e in
      let t : (s : Shape) × (old.shape n ≡ Some s) = reached_used old is g.2.0 n g.2.1 in
      ((st, on, g.0), g.1, a.shapes.to_new n t.0 t.1));
  intact = λ u. absurd (u made.reply refl);
  one_spare = λ n e f. (let g : (st.victim ≡ Some n) × ((l : Key) → numbers made.graph l ≡ Some n → ⊥) × Reached old n = removed n f in (o.spare n (reserved n e)).1 g.2.0 g.2.1);
  victim = λ u. absurd (u made.reply refl);
  starts = λ u. absurd (u made.reply refl);
  single = o.single;
}
