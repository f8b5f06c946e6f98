-- A swap of two numbers that are not in use leaves a state as it is.
use Rattle.std.proofs.Common.{◌≡◌, ℕ, Bool, true, false, cond, eqb, List, ◌++◌, Option, Some, None, refl, sym, ap, ap₂, ◌∙◌, ◌⊎◌, inl, inr}
use Rattle.std.specs.Prelude.{option_map}
use mathlib.Core.Path.{fun_ext}
use Rattle.fs_names.specs.Keys.{Key}
use Rattle.fs_names.specs.Names.{Name, has_name}
use Rattle.fs_names.specs.Shapes.{Shape, Dir}
use Rattle.fs_calls.specs.Graphs.{Graph, numbers, IsGraph}
use Rattle.fs_machine.specs.Records.{Holdings, Record, Holds, Source, Dest}
use Rattle.fs_laws.specs.Invariants.{Invariant}
use Rattle.fs_laws.specs.CallFacts.{Located}
use Rattle.fs_machine.specs.States.{State}
use Rattle.fs_laws.proofs.graphs.Walks.{eqb_refl, eqb_true}
use Rattle.fs_laws.specs.Numbers.{IsInUse, IsReached, IsRemovedBy, NumbersAreKept}
use Rattle.fs_laws.specs.Renamings.{Renaming, renamed_number, renamed_graph, renamed_holdings, renamed_record, renamed_records, renamed}
use Rattle.fs_laws.proofs.Edits.{same_graph}
use Rattle.fs_laws.proofs.Steps.{same_state}
use Rattle.fs_laws.proofs.Composing.{same_holdings, same_record}

abbrev pub swap : ℕ → ℕ → ℕ → ℕ
swap a b n = cond (eqb n a) b (cond (eqb n b) a n)

-- which of the two a number is
pub data Which (a b n : ℕ) : Type 0 where
  First : n ≡ a → swap a b n ≡ b → Which a b n
  Second : n ≡ b → swap a b n ≡ a → Which a b n
  Neither : (n ≡ a → ⊥) → (n ≡ b → ⊥) → swap a b n ≡ n → Which a b n

differs : (n a : ℕ) → eqb n a ≡ false → n ≡ a → ⊥
differs n a e i = let z : ◌≡◌ {A = Bool} true false = sym (ap (λ (m : ℕ). eqb m a) i ∙ eqb_refl a) ∙ e in cc

pub which : (a b n : ℕ) → Which a b n
which a b n = go (eqb n a) (eqb n b) refl refl
  where
    is : (x y : Bool) → eqb n a ≡ x → eqb n b ≡ y → swap a b n ≡ cond x b (cond y a n)
    is x y e f = ap₂ (λ (u v : Bool). cond u b (cond v a n)) e f

    go : (x y : Bool) → eqb n a ≡ x → eqb n b ≡ y → Which a b n
    go true y e f = First (eqb_true n a e) (is true y e f)
    go false true e f = Second (eqb_true n b f) (is false true e f)
    go false false e f = Neither (differs n a e) (differs n b f) (is false false e f)

swap_first : (a b : ℕ) → swap a b a ≡ b
swap_first a b = ap (λ (x : Bool). cond x b (cond (eqb a b) a a)) (eqb_refl a)

swap_second : (a b : ℕ) → swap a b b ≡ a
swap_second a b = go (which a b b)
  where
    go : Which a b b → swap a b b ≡ a
    go (First i e) = e ∙ i
    go (Second i e) = e
    go (Neither h g e) = absurd (g refl)

pub swap_twice : (a b n : ℕ) → swap a b (swap a b n) ≡ n
swap_twice a b n = go (which a b n)
  where
    go : Which a b n → swap a b (swap a b n) ≡ n
    go (First i e) = ap (swap a b) e ∙ swap_second a b ∙ sym i
    go (Second i e) = ap (swap a b) e ∙ swap_first a b ∙ sym i
    go (Neither h g e) = ap (swap a b) e ∙ e

pub swap_else : (a b n : ℕ) → (n ≡ a → ⊥) → (n ≡ b → ⊥) → swap a b n ≡ n
swap_else a b n h g = go (which a b n)
  where
    go : Which a b n → swap a b n ≡ n
    go (First i e) = absurd (h i)
    go (Second i e) = absurd (g i)
    go (Neither h g e) = e

-- two numbers that are not in use, nor the root's
pub record Free (s : State) (a b : ℕ) : Type 0 where
  pub first : s.graph.shape a ≡ None
  pub second : s.graph.shape b ≡ None
  pub first_root : 0 ≡ a → ⊥
  pub second_root : 0 ≡ b → ⊥

abbrev pub swapping : (s : State) (a b : ℕ) → Free s a b → Renaming
swapping s a b f = record { to = swap a b; from = swap a b; there = swap_twice a b; back = swap_twice a b; root = swap_else a b 0 f.first_root f.second_root }

pub swapped : (s : State) (a b : ℕ) (f : Free s a b) → (swapping s a b f).to a ≡ b
swapped s a b f = swap_first a b

-- what is in use is neither
in_use_stays : (s : State) (a b : ℕ) → Free s a b → (n : ℕ) → IsInUse s n → swap a b n ≡ n
in_use_stays s a b f n (shape, e) = swap_else a b n
    (λ i. (let z : ◌≡◌ {A = Option Shape} None (Some shape) = sym f.first ∙ ap s.graph.shape (sym i) ∙ e in cc))
    (λ i. (let z : ◌≡◌ {A = Option Shape} None (Some shape) = sym f.second ∙ ap s.graph.shape (sym i) ∙ e in cc))

number_stays : (s : State) (a b : ℕ) (f : Free s a b) (o : Option ℕ) → ((n : ℕ) → o ≡ Some n → IsInUse s n) → renamed_number (swapping s a b f) o ≡ o
number_stays s a b f None h = refl
number_stays s a b f (Some n) h = ap (λ (x : ℕ). Some x) (in_use_stays s a b f n (h n refl))

-- a function of numbers that has one value at both
by_both : {A : Type 0} (a b : ℕ) (f : ℕ → A) → f a ≡ f b → (n : ℕ) → f (swap a b n) ≡ f n
by_both a b f same n = go (which a b n)
  where
    go : Which a b n → f (swap a b n) ≡ f n
    go (First i e) = ap f e ∙ sym same ∙ ap f (sym i)
    go (Second i e) = ap f e ∙ same ∙ ap f (sym i)
    go (Neither h g e) = ap f e

-- ---- the graph

no_child : (graph : Graph) → IsGraph graph → (n : ℕ) (x : Name) → graph.shape n ≡ None → graph.child n x ≡ None
no_child graph is n x free = go (graph.child n x) refl
  where
    go : (o : Option ℕ) → graph.child n x ≡ o → graph.child n x ≡ None
    go None e = e
    go (Some m) e = let d : (names : List Name) × (graph.shape n ≡ Some (Dir names)) × (has_name x names ≡ true) = is.of_dir n m x e in let z : ◌≡◌ {A = Option Shape} None (Some (Dir d.0)) = sym free ∙ d.1 in cc

graph_stays : (s : State) → IsGraph s.graph → (a b : ℕ) (f : Free s a b) → renamed_graph (swapping s a b f) s.graph ≡ s.graph
graph_stays s is a b f = same_graph
    (fun_ext (λ n. fun_ext (λ x.
    ap (renamed_number (swapping s a b f)) (by_both a b (λ m. s.graph.child m x) (no_child s.graph is a x f.first ∙ sym (no_child s.graph is b x f.second)) n)
    ∙ number_stays s a b f (s.graph.child n x) (λ m e. is.to_used n m x e))))
    (fun_ext (λ n. by_both a b s.graph.shape (f.first ∙ sym f.second) n))

-- ---- holders and calls

held_in_use : (s : State) → NumbersAreKept s → (n c : ℕ) → s.holder n ≡ Some c → IsInUse s n
held_in_use s k n c e = go (k.held n c e)
  where
    go : IsReached s.graph n ⊎ IsRemovedBy s n c → IsInUse s n
    go (inl r) = k.in_use n (inl r)
    go (inr (op, is, gone)) = k.in_use n (inr (c, op, is, inr gone))

free_holder : (s : State) → NumbersAreKept s → (n : ℕ) → s.graph.shape n ≡ None → s.holder n ≡ None
free_holder s k n free = go (s.holder n) refl
  where
    go : (o : Option ℕ) → s.holder n ≡ o → s.holder n ≡ None
    go None e = e
    go (Some c) e = let u : IsInUse s n = held_in_use s k n c e in let z : ◌≡◌ {A = Option Shape} None (Some u.0) = sym free ∙ u.1 in cc

holdings_stays : (s : State) → Invariant s → NumbersAreKept s → (a b : ℕ) (f : Free s a b) (c : ℕ) (op : Record) (st : Holdings) → s.ops c ≡ Some op → op.holdings ≡ Some st → renamed_holdings (swapping s a b f) st ≡ st
holdings_stays s inv k a b f c op st is on =
    ap (λ (n : ℕ). record (renamed_holdings (swapping s a b f) st) { node = n }) (stays st.node (inv.key c) loc.here)
    ∙ ap₂ (λ (n m : ℕ). record (renamed_holdings (swapping s a b f) st) { node = st.node; source = record st.source { node = n }; dest = record st.dest { node = m } })
    (stays st.source.node (inv.key c ++ st.source.walked) (loc.head Source)) (stays st.dest.node (inv.key c ++ st.dest.walked) (loc.head Dest))
    ∙ same_holdings st.node _ _ _ _ st.source st.dest (number_stays s a b f st.behind (λ n e. held n (inr (inl e)))) (number_stays s a b f st.victim (λ n e. held n (inr (inr (inr (inr e))))))
  where
    loc : Located (numbers s.graph) (inv.key c) st
    loc = (inv.kept.each c op st is on).located

    stays : (n : ℕ) (key : Key) → numbers s.graph key ≡ Some n → (swapping s a b f).to n ≡ n
    stays n key e = in_use_stays s a b f n (k.in_use n (inl (key, e)))

    held : (n : ℕ) → Holds st n → IsInUse s n
    held n h = held_in_use s k n c (inv.held c op st n is on h)

record_stays : (s : State) → Invariant s → NumbersAreKept s → (a b : ℕ) (f : Free s a b) (c : ℕ) (op : Record) → s.ops c ≡ Some op → renamed_record (swapping s a b f) op ≡ op
record_stays s inv k a b f c op is = same_record op _ _ _ _ _ _ (holdings op.holdings refl) (number_stays s a b f op.reserved (λ n e. ((inv.own c op is).spare n e).0)) (number_stays s a b f op.removed (λ n e. ((inv.own c op is).gone n e).2))
  where
    holdings : (o : Option Holdings) → op.holdings ≡ o → option_map (renamed_holdings (swapping s a b f)) o ≡ o
    holdings None e = refl
    holdings (Some st) e = ap (λ (x : Holdings). Some x) (holdings_stays s inv k a b f c op st is e)

records_stay : (s : State) → Invariant s → NumbersAreKept s → (a b : ℕ) (f : Free s a b) → renamed_records (swapping s a b f) s.ops ≡ s.ops
records_stay s inv k a b f = fun_ext (λ c. go c (s.ops c) refl)
  where
    go : (c : ℕ) (o : Option Record) → s.ops c ≡ o → option_map (renamed_record (swapping s a b f)) o ≡ o
    go c None e = refl
    go c (Some op) e = ap (λ (x : Record). Some x) (record_stays s inv k a b f c op e)

pub swap_stays : (s : State) → Invariant s → NumbersAreKept s → (a b : ℕ) (f : Free s a b) → renamed (swapping s a b f) s ≡ s
swap_stays s inv k a b f = same_state s.limit s.start s.on_seat s.timeline _ _ _ _ _ _ (graph_stays s inv.is_graph a b f) (fun_ext (λ n. by_both a b s.holder (free_holder s k a f.first ∙ sym (free_holder s k b f.second)) n)) (records_stay s inv k a b f)
