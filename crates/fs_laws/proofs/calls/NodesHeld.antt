-- The nodes that a call holds, each at one place.
use Rattle.std.proofs.Common.{◌≡◌, ℕ, [], ◌∷◌, ◌++◌, Option, Some, None, refl, sym, ap, ◌∙◌, append-nil, subst, ◌⊎◌, inl, inr}
use Rattle.fs_names.specs.Keys.{Key}
use Rattle.fs_names.specs.Names.{Name}
use Rattle.fs_names.specs.Parts.{HasNames}
use Rattle.fs_machine.specs.Moves.{head_took, victim_took, stepped}
use Rattle.fs_machine.specs.Records.{Head, HeadHolds, Holds, Holdings, Side, Source, Dest, head_on, with_head, head_at, holdings_at, held_on}
use Rattle.fs_laws.specs.Maps.{Map}
use Rattle.fs_laws.specs.CallFacts.{Located}
use Rattle.fs_laws.specs.Invariants.{Slot, At_node, At_behind, At_head, At_victim, if_walked, in_slot, IsSingle}

-- a head that has set out holds what it has
if_walked_some : (w : Key) (o : Option ℕ) (q : ℕ) → if_walked w o ≡ Some q → HasNames w × (o ≡ Some q)
if_walked_some [] o q e = cc
if_walked_some (x ∷ w) o q e = (tt, e)

node_is : (a b : ℕ) → Some a ≡ Some b → a ≡ b
node_is a b e = cc

pub one_holdings : {o : Option Holdings} {a b : Holdings} → o ≡ Some a → o ≡ Some b → a ≡ b
one_holdings {o} {a} {b} e f = let z : ◌≡◌ {A = Option Holdings} (Some a) (Some b) = sym e ∙ f in cc

pub none_some : {P : Type 0} {A : Type 0} (o : Option A) (v : A) → o ≡ None → o ≡ Some v → P
none_some {P} {A} o v e f = absurd (let z : ◌≡◌ {A = Option A} None (Some v) = sym e ∙ f in cc)

-- what a head holds the call holds
pub head_holds : (side : Side) (st : Holdings) (n : ℕ) → HeadHolds (head_on side st) n → Holds st n
head_holds Source st n h = inr (inr (inl h))
head_holds Dest st n h = inr (inr (inr (inl h)))

pub slot_holds : (st : Holdings) (a : Slot) (q : ℕ) → in_slot st a ≡ Some q → Holds st q
slot_holds st At_node q e = inl cc
slot_holds st At_behind q e = inr (inl e)
slot_holds st (At_head side) q e = let h : HasNames (head_on side st).walked × (Some (head_on side st).node ≡ Some q) = if_walked_some (head_on side st).walked (Some (head_on side st).node) q e in head_holds side st q (h.0, node_is (head_on side st).node q h.1)
slot_holds st At_victim q e = inr (inr (inr (inr e)))

if_walked_is : (w : Key) (o : Option ℕ) (q : ℕ) → HasNames w → o ≡ Some q → if_walked w o ≡ Some q
if_walked_is [] o q m e = absurd m
if_walked_is (x ∷ w) o q m e = e

head_slot : (side : Side) (st : Holdings) (q : ℕ) → HeadHolds (head_on side st) q → (a : Slot) × (in_slot st a ≡ Some q)
head_slot side st q h = (At_head side, if_walked_is (head_on side st).walked (Some (head_on side st).node) q h.0 (ap (λ (n : ℕ). Some n) h.1))

pub holds_slot : (st : Holdings) (q : ℕ) → Holds st q → (a : Slot) × (in_slot st a ≡ Some q)
holds_slot st q (inl e) = (At_node, ap (λ (n : ℕ). Some n) e)
holds_slot st q (inr (inl e)) = (At_behind, e)
holds_slot st q (inr (inr (inl h))) = head_slot Source st q h
holds_slot st q (inr (inr (inr (inl h)))) = head_slot Dest st q h
holds_slot st q (inr (inr (inr (inr e)))) = (At_victim, e)

-- the head on a side after it is put there
pub new_head : (side : Side) (h : Head) (st : Holdings) → head_on side (with_head side h st) ≡ h
new_head Source h st = refl
new_head Dest h st = refl

-- what is so of a new head on a side, and of each old one, is so of the heads with it
pub heads_with : (P : Side → Head → Type 0) (side : Side) (h : Head) (st : Holdings) → P side h → ((at : Side) → P at (head_on at st)) → (at : Side) → P at (head_on at (with_head side h st))
heads_with P Source h st new old Source = new
heads_with P Source h st new old Dest = old Dest
heads_with P Dest h st new old Source = old Source
heads_with P Dest h st new old Dest = new

-- the same of both heads before they set out
pub heads_at : (P : Side → Head → Type 0) (n : ℕ) (behind : Option ℕ) → ((side : Side) → P side (head_at n)) → (side : Side) → P side (head_on side (holdings_at n behind))
heads_at P n behind p Source = p Source
heads_at P n behind p Dest = p Dest

-- a call that has taken the root alone
pub only_at : (n q : ℕ) → Holds (holdings_at n None) q → q ≡ n
only_at n q (inl e) = sym e
only_at n q (inr (inl e)) = cc
only_at n q (inr (inr (inl h))) = absurd h.0
only_at n q (inr (inr (inr (inl h)))) = absurd h.0
only_at n q (inr (inr (inr (inr e)))) = cc

pub located_at : (tree : Map ℕ) (key : Key) (n : ℕ) (behind : Option ℕ) → tree key ≡ Some n → Located tree key (holdings_at n behind)
located_at tree key n behind e = record { here = e; head = heads_at (λ (side : Side) (h : Head). tree (key ++ h.walked) ≡ Some h.node) n behind (λ side. ap tree (append-nil key) ∙ e) }

-- the node of a head is held, by the head or as the position
pub node_held : (side : Side) (tree : Map ℕ) (k : Key) (st : Holdings) → Located tree k st → Holds st (head_on side st).node
node_held side tree k st loc = by (head_on side st).walked refl (loc.head side)
  where
    by : (walked : Key) → (head_on side st).walked ≡ walked → tree (k ++ walked) ≡ Some (head_on side st).node → Holds st (head_on side st).node
    by [] i e = inl (node_is st.node (head_on side st).node (sym loc.here ∙ sym (ap tree (append-nil k)) ∙ e))
    by (x ∷ w) i e = head_holds side st (head_on side st).node (subst HasNames (sym i) tt, refl)

-- a node comes to one place, and all others stay or change places with it
pub record Grown (st new : Holdings) (n : ℕ) : Type 0 where
  pub at : Slot
  pub here : in_slot new at ≡ Some n
  pub swap : Slot → Slot
  pub twice : (a : Slot) → swap (swap a) ≡ a
  pub from : (a : Slot) → (a ≡ at) ⊎ (in_slot new a ≡ in_slot st (swap a))
  -- what was where it comes goes where nothing was
  pub free : in_slot st (swap at) ≡ None

slot_node : (st : Holdings) (a b : Slot) (n q : ℕ) → in_slot st a ≡ Some n → a ≡ b → in_slot st b ≡ Some q → q ≡ n
slot_node st a b n q e i f = let z : ◌≡◌ {A = Option ℕ} (Some q) (Some n) = sym f ∙ ap (in_slot st) (sym i) ∙ e in cc

-- what it held before, and the node
pub grown_holds : {st new : Holdings} {n : ℕ} → Grown st new n → (q : ℕ) → Holds new q → Holds st q ⊎ (q ≡ n)
grown_holds {st} {new} {n} g q h = go (holds_slot new q h)
  where
    go : (a : Slot) × (in_slot new a ≡ Some q) → Holds st q ⊎ (q ≡ n)
    go (a, e) = by (g.from a)
      where
        by : (a ≡ g.at) ⊎ (in_slot new a ≡ in_slot st (g.swap a)) → Holds st q ⊎ (q ≡ n)
        by (inl i) = inr (slot_node new g.at a n q g.here (sym i) e)
        by (inr i) = inl (slot_holds st (g.swap a) q (sym i ∙ e))

-- all that it held it still holds
pub grown_keeps : {st new : Holdings} {n : ℕ} → Grown st new n → (q : ℕ) → Holds st q → Holds new q
grown_keeps {st} {new} g q h = go (holds_slot st q h)
  where
    go : (a : Slot) × (in_slot st a ≡ Some q) → Holds new q
    go (a, e) = by (g.from (g.swap a))
      where
        by : (g.swap a ≡ g.at) ⊎ (in_slot new (g.swap a) ≡ in_slot st (g.swap (g.swap a))) → Holds new q
        by (inl i) = let z : ◌≡◌ {A = Option ℕ} None (Some q) = sym g.free ∙ ap (λ (b : Slot). in_slot st (g.swap b)) (sym i) ∙ ap (in_slot st) (g.twice a) ∙ e in cc
        by (inr i) = slot_holds new (g.swap a) q (i ∙ ap (in_slot st) (g.twice a) ∙ e)

-- a node that was held nowhere
pub single_grow : {st new : Holdings} {n : ℕ} → Grown st new n → (Holds st n → ⊥) → IsSingle st → IsSingle new
single_grow {st} {new} {n} g free single a b q e f = go (g.from a) (g.from b)
  where
    not_other : (c d : Slot) → c ≡ g.at → in_slot new c ≡ Some q → in_slot new d ≡ Some q → in_slot new d ≡ in_slot st (g.swap d) → ⊥
    not_other c d i at_c at_d j = free (subst (Holds st) (slot_node new g.at c n q g.here (sym i) at_c) (slot_holds st (g.swap d) q (sym j ∙ at_d)))

    go : (a ≡ g.at) ⊎ (in_slot new a ≡ in_slot st (g.swap a)) → (b ≡ g.at) ⊎ (in_slot new b ≡ in_slot st (g.swap b)) → a ≡ b
    go (inl i) (inl j) = i ∙ sym j
    go (inl i) (inr j) = absurd (not_other a b i e f j)
    go (inr i) (inl j) = absurd (not_other b a j f e i)
    go (inr i) (inr j) = sym (g.twice a) ∙ ap g.swap (single (g.swap a) (g.swap b) q (sym i ∙ e) (sym j ∙ f)) ∙ g.twice b

-- holdings at one node, with its parent or without
pub single_at : (n : ℕ) (behind : Option ℕ) → (behind ≡ Some n → ⊥) → IsSingle (holdings_at n behind)
single_at n behind differs At_node At_node q e f = refl
single_at n behind differs At_behind At_behind q e f = refl
single_at n behind differs At_node At_behind q e f = absurd (differs (f ∙ sym e))
single_at n behind differs At_behind At_node q e f = absurd (differs (e ∙ sym f))
single_at n behind differs (At_head Source) b q e f = cc
single_at n behind differs (At_head Dest) b q e f = cc
single_at n behind differs At_victim b q e f = cc
single_at n behind differs a (At_head Source) q e f = cc
single_at n behind differs a (At_head Dest) q e f = cc
single_at n behind differs a At_victim q e f = cc

-- a victim is taken
pub grown_victim : (st : Holdings) (n : ℕ) → st.victim ≡ None → Grown st (victim_took st n) n
grown_victim st n off = record { at = At_victim; here = refl; swap = λ a. a; twice = λ a. refl; from = from; free = off }
  where
    from : (a : Slot) → (a ≡ At_victim) ⊎ (in_slot (victim_took st n) a ≡ in_slot st a)
    from At_node = inr refl
    from At_behind = inr refl
    from (At_head side) = inr refl
    from At_victim = inl refl

behind_is : (w : Key) (n : ℕ) → held_on w n ≡ if_walked w (Some n)
behind_is [] n = refl
behind_is (x ∷ w) n = refl

push_walked : (w : Key) (x : Name) (o : Option ℕ) → if_walked (w ++ x ∷ []) o ≡ o
push_walked [] x o = refl
push_walked (y ∷ w) x o = refl

-- the head on a side walks on: where it stood is behind
pub grown_head : (side : Side) (st : Holdings) (x : Name) (n : ℕ) → st.behind ≡ None → Grown st (stepped side st x n) n
grown_head side st x n closed = record { at = At_head side; here = ap (λ (h : Head). if_walked h.walked (Some h.node)) (new_head side (head_took (head_on side st) x n) st) ∙ push_walked (head_on side st).walked x (Some n); swap = swap side; twice = twice side; from = from side; free = free side }
  where
    swap : Side → Slot → Slot
    swap side At_node = At_node
    swap side At_behind = At_head side
    swap side At_victim = At_victim
    swap Source (At_head Source) = At_behind
    swap Source (At_head Dest) = At_head Dest
    swap Dest (At_head Source) = At_head Source
    swap Dest (At_head Dest) = At_behind

    twice : (side : Side) (a : Slot) → swap side (swap side a) ≡ a
    twice side At_node = refl
    twice side At_victim = refl
    twice Source At_behind = refl
    twice Dest At_behind = refl
    twice Source (At_head Source) = refl
    twice Source (At_head Dest) = refl
    twice Dest (At_head Source) = refl
    twice Dest (At_head Dest) = refl

    free : (side : Side) → in_slot st (swap side (At_head side)) ≡ None
    free Source = closed
    free Dest = closed

    from : (side : Side) (a : Slot) → (a ≡ At_head side) ⊎ (in_slot (stepped side st x n) a ≡ in_slot st (swap side a))
    from side At_node = inr refl
    from side At_behind = inr (behind_is (head_on side st).walked (head_on side st).node)
    from side At_victim = inr refl
    from Source (At_head Source) = inl refl
    from Source (At_head Dest) = inr refl
    from Dest (At_head Source) = inr refl
    from Dest (At_head Dest) = inl refl
