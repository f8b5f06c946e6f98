-- A call that finishes with a move spares all others.
use Rattle.std.proofs.Common.{◌≡◌, ℕ, ◌<◌, ◌≤◌, Bool, true, false, eqb, [], ◌∷◌, ◌++◌, Option, Some, None, refl, sym, ap, ◌∙◌, arith, append_assoc, subst, ◌⊎◌, inl, inr}
use Rattle.std.proofs.lemmas.Bool.{cases_lt}
use Rattle.fs_names.specs.Keys.{Key, after_prefix}
use Rattle.fs_names.specs.Names.{Name}
use Rattle.fs_laws.specs.Maps.{Map}
use Rattle.fs_machine.specs.Records.{Finished, Holds, Record, Records, Phase, Placed, Holdings, Walking, Source, Dest, Side, of_side, head_on}
use Rattle.fs_laws.specs.Placed.{Aside}
use Rattle.fs_laws.specs.CallFacts.{IsAfter, Keeps, CallFacts}
use Rattle.fs_laws.proofs.trees.Prefixes.{prefix_deeper}
use Rattle.fs_laws.proofs.helping.FinishPassesPlaced.{prefix_before}
use Rattle.fs_laws.proofs.graphs.Walks.{eqb_refl, eqb_true, prefix_shorter}
use Rattle.fs_laws.proofs.events.TwoCalls.{held_off, walked_off}
use Rattle.fs_laws.proofs.events.OneCallChanged.{SparesEntry, Spares, SparesBoth}

-- a call that is about to finish with a move
pub record Mover (ops : Records) (c : ℕ) (op : Record) (st : Holdings) : Type 0 where
  pub is : ops c ≡ Some op
  pub on : op.holdings ≡ Some st
  pub unfinished : (op.phase ≡ Walking) ⊎ ((j : ℕ) × (op.phase ≡ Placed j))
  pub held : (side : Side) → Holds st (head_on side st).node
  -- no two calls have one place
  pub places : (d : ℕ) (q : Record) (i j : ℕ) → (c ≡ d → ⊥) → ops d ≡ Some q → q.phase ≡ Placed i → op.phase ≡ Placed j → i ≡ j → ⊥

-- the key of an entry of the node of a head
abbrev pub entry_of : Key → Holdings → Side → Name → Key
entry_of k st side x = (k ++ (head_on side st).walked) ++ x ∷ []

-- an entry that it moves
pub record Moves (ops : Records) (key : ℕ → Key) (c : ℕ) (op : Record) (st : Holdings) (side : Side) (x : Name) : Type 0 where
  -- what moves is deeper than all that the call itself has walked
  pub off_head : (a : Side) → after_prefix (entry_of (key c) st side x) (key c ++ (head_on a st).walked) ≡ None
  -- the rule of helping: while it walks, no walking call is below what it moves
  pub none_below : op.phase ≡ Walking → (d : ℕ) (q : Record) (other : Holdings) → (c ≡ d → ⊥) → ops d ≡ Some q → q.holdings ≡ Some other → q.phase ≡ Walking → after_prefix (entry_of (key c) st side x) (key d) ≡ None

-- of two entries that lie aside neither key is the beginning of a head's
pub off_heads : (k : Key) (st : Holdings) (x y : Name) → Aside (entry_of k st Source x) (entry_of k st Dest y) → (side a : Side) → after_prefix (entry_of k st side (of_side side x y)) (k ++ (head_on a st).walked) ≡ None
off_heads k st x y aside Source Source = prefix_shorter (k ++ st.source.walked) x
off_heads k st x y aside Dest Dest = prefix_shorter (k ++ st.dest.walked) y
off_heads k st x y aside Source Dest = prefix_before (entry_of k st Source x) (k ++ st.dest.walked) (y ∷ []) aside.0
off_heads k st x y aside Dest Source = prefix_before (entry_of k st Dest y) (k ++ st.source.walked) (x ∷ []) aside.1

after_itself : (p : Phase) → IsAfter p p → ⊥
after_itself Walking h = h
after_itself (Placed i) h = omega arith
after_itself (Finished r) h = h

-- another call, or the mover itself
decide : (c d : ℕ) → (c ≡ d) ⊎ (c ≡ d → ⊥)
decide c d = go (eqb c d) refl
  where
    go : (b : Bool) → eqb c d ≡ b → (c ≡ d) ⊎ (c ≡ d → ⊥)
    go true e = inl (eqb_true c d e)
    go false e = inr (λ h. let t : eqb c d ≡ true = ap (eqb c) (sym h) ∙ eqb_refl c in cc)

mine : {ops : Records} {c : ℕ} {op : Record} {st : Holdings} → Mover ops c op st → (d : ℕ) (q : Record) (other : Holdings) → c ≡ d → ops d ≡ Some q → q.holdings ≡ Some other → (op ≡ q) × (st ≡ other)
mine {ops} {c} {op} {st} m d q other e f g =
    let a : ◌≡◌ {A = Option Record} (Some op) (Some q) = sym m.is ∙ ap ops e ∙ f in
    let b : op ≡ q = cc in
    let h : ◌≡◌ {A = Option Holdings} (Some st) (Some other) = sym m.on ∙ ap (λ (o : Record). o.holdings) b ∙ g in
    (b, (let i : st ≡ other = cc in i))

-- whoever goes on after the mover is not below its position, nor deeper
deeper_off : (tree : Map ℕ) (ops : Records) (key : ℕ → Key) (c : ℕ) (op : Record) (st : Holdings) (side : Side) (x : Name) (d : ℕ) (q : Record) (other : Holdings) → CallFacts tree ops key → Mover ops c op st → (c ≡ d → ⊥) → ops d ≡ Some q → q.holdings ≡ Some other → IsAfter op.phase q.phase
    → after_prefix (entry_of (key c) st side x) (key d) ≡ None
deeper_off tree ops key c op st side x d q other kept m n f g after = rw append_assoc (prefix_deeper (key c) ((head_on side st).walked ++ x ∷ []) (key d) ((kept.pairs c d op q st other n m.is f m.on g).after after))

-- the other calls stand off a moved entry, or are wholly below it
pub spares_entry : (tree : Map ℕ) (ops : Records) (key : ℕ → Key) (c : ℕ) (op : Record) (st : Holdings) (side : Side) (x : Name) → CallFacts tree ops key → Mover ops c op st → Moves ops key c op st side x → SparesEntry ops key (entry_of (key c) st side x)
spares_entry tree ops key c op st side x kept m e = record { head = head; walking = walking }
  where
    here : Keeps tree (key c) op st
    here = kept.each c op st m.is m.on

    off_here : after_prefix ((key c ++ (head_on side st).walked) ++ x ∷ []) (key c) ≡ None
    off_here = prefix_before (entry_of (key c) st side x) (key c) (head_on side st).walked (e.off_head side)

    part : (walked u v : Key) → after_prefix ((key c ++ (head_on side st).walked) ++ x ∷ []) (key c ++ walked) ≡ None → walked ≡ u ++ v → after_prefix ((key c ++ (head_on side st).walked) ++ x ∷ []) (key c ++ u) ≡ None
    part walked u v h i = prefix_before (entry_of (key c) st side x) (key c ++ u) v (ap (after_prefix (entry_of (key c) st side x)) (append_assoc (key c) u v ∙ ap (λ (l : Key). key c ++ l) (sym i)) ∙ h)

    head : (at : Side) (d : ℕ) (q : Record) (other : Holdings) → ops d ≡ Some q → q.holdings ≡ Some other → (u v : Key) → after_prefix ((key c ++ (head_on side st).walked) ++ x ∷ []) (key d) ≡ None → (head_on at other).walked ≡ u ++ v → after_prefix ((key c ++ (head_on side st).walked) ++ x ∷ []) (key d ++ u) ≡ None
    head at d q other f g u v h i = go (decide c d)
      where
        go : (c ≡ d) ⊎ (c ≡ d → ⊥) → after_prefix ((key c ++ (head_on side st).walked) ++ x ∷ []) (key d ++ u) ≡ None
        go (inl j) = subst (λ (n : ℕ). after_prefix ((key c ++ (head_on side st).walked) ++ x ∷ []) (key n ++ u) ≡ None) j (part (head_on at st).walked u v (e.off_head at) (ap (λ (o : Holdings). (head_on at o).walked) (mine m d q other j f g).1 ∙ i))
        go (inr n) =
            walked_off tree (key d) (head_on at other).walked other st (key c ++ (head_on side st).walked) x (head_on side st).node (kept.each d q other f g).located.here (λ z r s. (kept.pairs c d op q st other n m.is f m.on g).apart z s r) (here.located.head side) (m.held side) ((kept.pairs d c q op other st (λ z. n (sym z)) f m.is g m.on).clear at) u v h i

    walking : (d : ℕ) (q : Record) (other : Holdings) → ops d ≡ Some q → q.holdings ≡ Some other → q.phase ≡ Walking → after_prefix ((key c ++ (head_on side st).walked) ++ x ∷ []) (key d) ≡ None
    walking d q other f g w = go (decide c d) m.unfinished
      where
        go : (c ≡ d) ⊎ (c ≡ d → ⊥) → (op.phase ≡ Walking) ⊎ ((j : ℕ) × (op.phase ≡ Placed j)) → after_prefix ((key c ++ (head_on side st).walked) ++ x ∷ []) (key d) ≡ None
        go (inl j) _ = subst (λ (n : ℕ). after_prefix ((key c ++ (head_on side st).walked) ++ x ∷ []) (key n) ≡ None) j off_here
        go (inr n) (inl i) = e.none_below i d q other n f g w
        go (inr n) (inr i) = deeper_off tree ops key c op st side x d q other kept m n f g (subst (λ (p : Phase). IsAfter op.phase p) (sym w) (subst (λ (p : Phase). IsAfter p Walking) (sym i.1) tt))

-- a call that is the mover, or goes on after it
abbrev Behind : ℕ → Record → ℕ → Record → Type 0
Behind c op d q = (c ≡ d) ⊎ ((c ≡ d → ⊥) × IsAfter op.phase q.phase)

-- where the second of two calls goes on after the first, the mover goes on after the first, or neither of them before the mover
turn : {ops : Records} {c : ℕ} {op : Record} {st : Holdings} → Mover ops c op st → (d e : ℕ) (p q : Record) (sd se : Holdings) → ops d ≡ Some p → ops e ≡ Some q → p.holdings ≡ Some sd → q.holdings ≡ Some se → IsAfter p.phase q.phase
    → ((c ≡ d → ⊥) × IsAfter p.phase op.phase) ⊎ (Behind c op d p × Behind c op e q)
turn {ops} {c} {op} {st} m d e p q sd se f g h i after = go (decide c d) (decide c e)
  where
    other : (n : c ≡ d → ⊥) (pd po pq : Phase) → p.phase ≡ pd → op.phase ≡ po → q.phase ≡ pq → IsAfter pd pq → (op.phase ≡ Walking) ⊎ ((j : ℕ) × (op.phase ≡ Placed j)) → ((c ≡ d → ⊥) × IsAfter p.phase op.phase) ⊎ (Behind c op d p × Behind c op e q)
    other n Walking po pq k l o a u = absurd a
    other n (Finished r) po pq k l o a u = absurd a
    other n (Placed i2) Walking pq k l o a u = inl (n, subst (λ (z : Phase). IsAfter z op.phase) (sym k) (subst (λ (z : Phase). IsAfter (Placed i2) z) (sym l) tt))
    other n (Placed i2) (Finished r) pq k l o a (inl u) = let z : ◌≡◌ {A = Phase} (Finished r) Walking = sym l ∙ u in cc
    other n (Placed i2) (Finished r) pq k l o a (inr u) = let z : ◌≡◌ {A = Phase} (Finished r) (Placed u.0) = sym l ∙ u.1 in cc
    other n (Placed i2) (Placed j) (Finished r) k l o a u = absurd a
    other n (Placed i2) (Placed j) pq k l o a u = by (cases_lt i2 j)
      where
        later : (z : Phase) → IsAfter (Placed i2) z → j < i2 → IsAfter (Placed j) z
        later Walking a less = tt
        later (Placed l2) a less = omega arith
        later (Finished r) a less = absurd a

        by : (i2 < j) ⊎ (j ≤ i2) → ((c ≡ d → ⊥) × IsAfter p.phase op.phase) ⊎ (Behind c op d p × Behind c op e q)
        by (inl h2) = inl (n, subst (λ (z : Phase). IsAfter z op.phase) (sym k) (subst (λ (z : Phase). IsAfter (Placed i2) z) (sym l) h2))
        by (inr h2) =
            let apart_places : i2 ≡ j → ⊥ = m.places d p i2 j n f k l in
            let less : j < i2 = omega (arith, apart_places) in
            let past : IsAfter op.phase q.phase = subst (λ (z : Phase). IsAfter z q.phase) (sym l) (subst (λ (z : Phase). IsAfter (Placed j) z) (sym o) (later pq a less)) in
            let not_mine : c ≡ e → ⊥ = λ z. after_itself op.phase (subst (λ (r : Record). IsAfter op.phase r.phase) (sym (mine m e q se z g i).0) past) in
            inr (
              inr (n, subst (λ (z : Phase). IsAfter z p.phase) (sym l) (subst (λ (z : Phase). IsAfter (Placed j) z) (sym k) less)),
              inr (not_mine, past),
            )

    go : (c ≡ d) ⊎ (c ≡ d → ⊥) → (c ≡ e) ⊎ (c ≡ e → ⊥) → ((c ≡ d → ⊥) × IsAfter p.phase op.phase) ⊎ (Behind c op d p × Behind c op e q)
    go (inl j) (inl k) = let z : p ≡ q = sym (mine m d p sd j f h).0 ∙ (mine m e q se k g i).0 in absurd (after_itself p.phase (subst (λ (o : Record). IsAfter p.phase o.phase) (sym z) after))
    go (inl j) (inr n) = inr (inl j, inr (n, subst (λ (o : Record). IsAfter o.phase q.phase) (sym (mine m d p sd j f h).0) after))
    go (inr n) k = other n p.phase op.phase q.phase refl refl refl after m.unfinished

-- before a call that goes on before the mover: it is at or below none of the mover's parents' keys
late : (tree : Map ℕ) (ops : Records) (key : ℕ → Key) (c : ℕ) (op : Record) (st : Holdings) → CallFacts tree ops key → Mover ops c op st → (side : Side) (d : ℕ) (p : Record) (sd : Holdings) → ops d ≡ Some p → p.holdings ≡ Some sd → (c ≡ d → ⊥) → IsAfter p.phase op.phase
    → after_prefix (key d) (key c ++ (head_on side st).walked) ≡ None
late tree ops key c op st kept m side d p sd f h n a =
    held_off tree (key d) sd st (key c) (head_on side st).walked (head_on side st).node (kept.each d p sd f h).located.here (λ z r s. (kept.pairs c d op p st sd n m.is f m.on h).apart z s r) ((kept.each c op st m.is m.on).located.head side) (m.held side)
    ((kept.pairs c d op p st sd n m.is f m.on h).clear side) ((kept.pairs d c p op sd st (λ z. n (sym z)) f m.is h m.on).after a)

-- the mover and whoever goes on after it stand off what it moves
behind_off : (tree : Map ℕ) (ops : Records) (key : ℕ → Key) (c : ℕ) (op : Record) (st : Holdings) (side : Side) (x : Name) → CallFacts tree ops key → Mover ops c op st → Moves ops key c op st side x → (d : ℕ) (q : Record) (other : Holdings) → ops d ≡ Some q → q.holdings ≡ Some other → Behind c op d q
    → after_prefix (entry_of (key c) st side x) (key d) ≡ None
behind_off tree ops key c op st side x kept m e d q other f g (inl j) = subst (λ (n : ℕ). after_prefix (entry_of (key c) st side x) (key n) ≡ None) j (prefix_before (entry_of (key c) st side x) (key c) (head_on side st).walked (e.off_head side))
behind_off tree ops key c op st side x kept m e d q other f g (inr (n, after)) = deeper_off tree ops key c op st side x d q other kept m n f g after

-- a move to a place where nothing is
pub spares_of : (tree : Map ℕ) (ops : Records) (key : ℕ → Key) (c : ℕ) (op : Record) (st : Holdings) (x y : Name) → CallFacts tree ops key → Mover ops c op st → Moves ops key c op st Source x → ((r : Key) → tree (entry_of (key c) st Dest y ++ r) ≡ None)
    → Spares tree ops key (entry_of (key c) st Source x) (entry_of (key c) st Dest y) (key c ++ st.dest.walked) y
spares_of tree ops key c op st x y kept m e free = record {
  none = free;
  ends_in = refl;
  entry = spares_entry tree ops key c op st Source x kept m e;
  off = λ a b p q sa sb f g h i after. by a b p q sa sb f g h i (turn m a b p q sa sb f g h i after);
}
  where
    by : (a b : ℕ) (p q : Record) (sa sb : Holdings) → ops a ≡ Some p → ops b ≡ Some q → p.holdings ≡ Some sa → q.holdings ≡ Some sb → ((c ≡ a → ⊥) × IsAfter p.phase op.phase) ⊎ (Behind c op a p × Behind c op b q)
        → (after_prefix (key a) (key c ++ st.dest.walked) ≡ None) ⊎ ((after_prefix ((key c ++ st.source.walked) ++ x ∷ []) (key a) ≡ None) × (after_prefix ((key c ++ st.source.walked) ++ x ∷ []) (key b) ≡ None))
    by a b p q sa sb f g h i (inl (n, after)) = inl (late tree ops key c op st kept m Dest a p sa f h n after)
    by a b p q sa sb f g h i (inr (first, second)) = inr (behind_off tree ops key c op st Source x kept m e a p sa f h first, behind_off tree ops key c op st Source x kept m e b q sb g i second)

-- an exchange
pub spares_both : (tree : Map ℕ) (ops : Records) (key : ℕ → Key) (c : ℕ) (op : Record) (st : Holdings) (x y : Name) → CallFacts tree ops key → Mover ops c op st → ((side : Side) → Moves ops key c op st side (of_side side x y))
    → SparesBoth ops key (key c ++ st.source.walked) x (key c ++ st.dest.walked) y
spares_both tree ops key c op st x y kept m e = record {
  one = spares_entry tree ops key c op st Source x kept m (e Source);
  other = spares_entry tree ops key c op st Dest y kept m (e Dest);
  off = λ a b p q sa sb f g h i after. by a b p q sa sb f g h i (turn m a b p q sa sb f g h i after);
}
  where
    both : (a : ℕ) (p : Record) (sa : Holdings) → ops a ≡ Some p → p.holdings ≡ Some sa → Behind c op a p → (after_prefix ((key c ++ st.source.walked) ++ x ∷ []) (key a) ≡ None) × (after_prefix ((key c ++ st.dest.walked) ++ y ∷ []) (key a) ≡ None)
    both a p sa f h behind = (behind_off tree ops key c op st Source x kept m (e Source) a p sa f h behind, behind_off tree ops key c op st Dest y kept m (e Dest) a p sa f h behind)

    by : (a b : ℕ) (p q : Record) (sa sb : Holdings) → ops a ≡ Some p → ops b ≡ Some q → p.holdings ≡ Some sa → q.holdings ≡ Some sb → ((c ≡ a → ⊥) × IsAfter p.phase op.phase) ⊎ (Behind c op a p × Behind c op b q)
        → ((after_prefix (key a) (key c ++ st.source.walked) ≡ None) × (after_prefix (key a) (key c ++ st.dest.walked) ≡ None))
        ⊎ (((after_prefix ((key c ++ st.source.walked) ++ x ∷ []) (key a) ≡ None) × (after_prefix ((key c ++ st.dest.walked) ++ y ∷ []) (key a) ≡ None)) × ((after_prefix ((key c ++ st.source.walked) ++ x ∷ []) (key b) ≡ None) × (after_prefix ((key c ++ st.dest.walked) ++ y ∷ []) (key b) ≡ None)))
    by a b p q sa sb f g h i (inl (n, after)) = inl (late tree ops key c op st kept m Source a p sa f h n after, late tree ops key c op st kept m Dest a p sa f h n after)
    by a b p q sa sb f g h i (inr (first, second)) = inr (both a p sa f h first, both b q sb g i second)
