-- Each change of one call keeps what all calls keep.
use Rattle.std.proofs.Common.{◌≡◌, ℕ, ◌<◌, Bool, true, false, cond, eqb, [], ◌∷◌, ◌++◌, Option, Some, None, refl, sym, ap, ◌∙◌, append-nil, subst, ◌⊎◌, inl, inr}
use Rattle.fs_names.specs.Keys.{Key, after_prefix}
use Rattle.fs_names.specs.Names.{Name}
use Rattle.fs_laws.specs.Maps.{Map, move, swapped, swap}
use Rattle.fs_calls.specs.Graphs.{set_at}
use Rattle.fs_machine.specs.Finishes.{Effect}
use Rattle.fs_machine.specs.Moves.{head_took, victim_took, stepped}
use Rattle.fs_machine.specs.Records.{Head, head_at, holdings_at, Finished, Holds, Record, Records, Phase, Placed, Holdings, Side, head_on, Walking}
use Rattle.fs_laws.specs.Placed.{Aside, rekey_by}
use Rattle.fs_laws.specs.CallFacts.{IsAfter, IsClear, IsFree, Keeps, CallFacts, Pair, Shrinks}
use Rattle.fs_machine.specs.Leaving.{finished_op}
use Rattle.fs_laws.proofs.graphs.Walks.{eqb_refl, eqb_true}
use Rattle.fs_laws.proofs.calls.NodesHeld.{heads_with, heads_at, grown_holds, grown_head, grown_victim, one_holdings}
use Rattle.fs_laws.proofs.events.TwoCalls.{clear_take, clear_walk, after_take, after_walk, pair_moved, located_moved, chain_swapped, OffBoth, pair_swapped, pair_helped_first, pair_helped_second}
use Rattle.fs_laws.proofs.trees.Commuting.{swapped_else, swapped_twice}

-- a place that is changed, and each other
pub data Place (A : Type 0) (c : ℕ) (v : A) (f : ℕ → A) (d : ℕ) : Type 0 where
  Here : d ≡ c → set_at c v f d ≡ v → Place A c v f d
  Else : (d ≡ c → ⊥) → set_at c v f d ≡ f d → Place A c v f d

pub place : {A : Type 0} (c : ℕ) (v : A) (f : ℕ → A) (d : ℕ) → Place A c v f d
place c v f d = go (eqb d c) refl
  where
    go : (b : Bool) → eqb d c ≡ b → Place _ c v f d
    go true e = Here (eqb_true d c e) (ap (λ (b : Bool). cond b v (f d)) e)
    go false e = Else (λ s. let t : eqb d c ≡ true = ap (λ (n : ℕ). eqb n c) s ∙ eqb_refl c in cc) (ap (λ (b : Bool). cond b v (f d)) e)

-- one call's record and key change, and the tree does not
pub kept_update : (tree : Map ℕ) (ops : Records) (key : ℕ → Key) (c : ℕ) (op : Record) (k : Key) → CallFacts tree ops key
    → ((st : Holdings) → op.holdings ≡ Some st → Keeps tree k op st)
    → ((d : ℕ) (q : Record) (st other : Holdings) → (c ≡ d → ⊥) → ops d ≡ Some q → op.holdings ≡ Some st → q.holdings ≡ Some other → Pair tree k st op.phase (key d) other q.phase × Pair tree (key d) other q.phase k st op.phase)
    → CallFacts tree (set_at c (Some op) ops) (set_at c k key)
kept_update tree ops key c op k kept own both = record { one_key = kept.one_key; each = each; pairs = pairs }
  where
    each : (d : ℕ) (q : Record) (st : Holdings) → set_at c (Some op) ops d ≡ Some q → q.holdings ≡ Some st → Keeps tree (set_at c k key d) q st
    each d q st e f = go (place c (Some op) ops d) (place c k key d)
      where
        go : Place (Option Record) c (Some op) ops d → Place Key c k key d → Keeps tree (set_at c k key d) q st
        go (Here i j) (Here _ l) = let z : op ≡ q = (let y : ◌≡◌ {A = Option Record} (Some op) (Some q) = sym j ∙ e in cc) in rw (l, ← z) (own st (ap (λ (o : Record). o.holdings) z ∙ f))
        go (Here i j) (Else n _) = absurd (n i)
        go (Else n _) (Here i _) = absurd (n i)
        go (Else n j) (Else _ l) = rw l (kept.each d q st (sym j ∙ e) f)

    pairs : (a b : ℕ) (p q : Record) (st other : Holdings) → (a ≡ b → ⊥) → set_at c (Some op) ops a ≡ Some p → set_at c (Some op) ops b ≡ Some q → p.holdings ≡ Some st → q.holdings ≡ Some other → Pair tree (set_at c k key a) st p.phase (set_at c k key b) other q.phase
    pairs a b p q st other n e f g h = go (place c (Some op) ops a) (place c k key a) (place c (Some op) ops b) (place c k key b)
      where
        go : Place (Option Record) c (Some op) ops a → Place Key c k key a → Place (Option Record) c (Some op) ops b → Place Key c k key b → Pair tree (set_at c k key a) st p.phase (set_at c k key b) other q.phase
        go (Here i j) (Else m _) u v = absurd (m i)
        go (Else m _) (Here i j) u v = absurd (m i)
        go u v (Here i j) (Else m _) = absurd (m i)
        go u v (Else m _) (Here i j) = absurd (m i)
        go (Here i _) (Here _ _) (Here j _) (Here _ _) = absurd (n (i ∙ sym j))
        go (Here i j) (Here _ l) (Else m x) (Else _ y) =
            let z : op ≡ p = (let w : ◌≡◌ {A = Option Record} (Some op) (Some p) = sym j ∙ e in cc) in
            rw (l, y, ← z) (both b q st other (λ w. m (sym w)) (sym x ∙ f) (ap (λ (o : Record). o.holdings) z ∙ g) h).0
        go (Else m x) (Else _ y) (Here i j) (Here _ l) =
            let z : op ≡ q = (let w : ◌≡◌ {A = Option Record} (Some op) (Some q) = sym j ∙ f in cc) in
            rw (l, y, ← z) (both a p other st (λ w. m (sym w)) (sym x ∙ e) (ap (λ (o : Record). o.holdings) z ∙ h) g).1
        go (Else m x) (Else _ y) (Else o z) (Else _ w) = rw (y, w) (kept.pairs a b p q st other n (sym x ∙ e) (sym z ∙ f) g h)

-- two calls hold no node in common
pub apart_of : {tree : Map ℕ} {ops : Records} {key : ℕ → Key} → CallFacts tree ops key → (c d : ℕ) (p q : Record) (st other : Holdings) → (c ≡ d → ⊥) → ops c ≡ Some p → ops d ≡ Some q → p.holdings ≡ Some st → q.holdings ≡ Some other → (n : ℕ) → Holds st n → Holds other n → ⊥
apart_of kept c d p q st other n e f g h = (kept.pairs c d p q st other n e f g h).apart

pub clear_nil : (tree : Map ℕ) (key : Key) (other : Holdings) → IsClear tree key [] other
clear_nil tree key other [] v n mu mv is at has = absurd mu
clear_nil tree key other (x ∷ u) v n mu mv is at has = cc

-- help: the call that is helped gets its place
pub kept_help : (tree : Map ℕ) (ops : Records) (key : ℕ → Key) (c : ℕ) (op : Record) (place_no : ℕ) → CallFacts tree ops key
    → ops c ≡ Some op → op.phase ≡ Walking
    → ((d : ℕ) (q : Record) (other : Holdings) → (c ≡ d → ⊥) → ops d ≡ Some q → q.holdings ≡ Some other → q.phase ≡ Walking → after_prefix (key c) (key d) ≡ None)
    → ((d : ℕ) (q : Record) (j : ℕ) → ops d ≡ Some q → q.phase ≡ Placed j → j < place_no)
    → CallFacts tree (set_at c (Some (record op { phase = Placed place_no })) ops) (set_at c (key c) key)
kept_help tree ops key c op place_no kept is walks none_below last =
    kept_update tree ops key c (record op { phase = Placed place_no }) (key c) kept
    (λ st e. let k : Keeps tree (key c) op st = kept.each c op st is e in record { located = k.located; walking = λ w. cc; fits = k.fits })
    (λ d q st other n e f g. (
      pair_helped_first tree (key c) st place_no (key d) other q.phase (rw walks at (kept.pairs c d op q st other n is e f g)) (λ w. none_below d q other n e g w) (λ j w. last d q j e w),
      pair_helped_second tree (key d) other q.phase (key c) st place_no (rw walks at (kept.pairs d c q op other st (λ s. n (sym s)) e is g f)),
    ))

-- a take, of the next node of the walk, of a head or of a victim
pub record Takes (tree : Map ℕ) (k : Key) (st : Holdings) (new_k : Key) (new : Holdings) (n : ℕ) : Type 0 where
  pub parent_key : Key
  pub parent : ℕ
  pub name : Name
  pub parent_at : tree parent_key ≡ Some parent
  pub parent_held : Holds st parent
  pub node_at : tree (parent_key ++ name ∷ []) ≡ Some n
  pub grows : (q : ℕ) → Holds new q → Holds st q ⊎ (q ≡ n)
  -- the position stays, or it is the node that is taken
  pub position : (new_k ≡ k) ⊎ ((parent_key ≡ k) × (new_k ≡ k ++ name ∷ []))
  -- each head stays, or its last node was held
  pub head : (side : Side) (other : Holdings) → ((q : ℕ) → Holds st q → Holds other q → ⊥) → IsClear tree k (head_on side st).walked other → IsClear tree new_k (head_on side new).walked other

pub kept_take : (tree : Map ℕ) (ops : Records) (key : ℕ → Key) (c : ℕ) (op : Record) (st : Holdings) (n : ℕ) (k : Key) (new : Holdings) (op_new : Record) → CallFacts tree ops key
    → ops c ≡ Some op → op.holdings ≡ Some st → op_new.holdings ≡ Some new → op_new.phase ≡ op.phase
    → IsFree ops n → Takes tree (key c) st k new n → Keeps tree k op_new new
    → CallFacts tree (set_at c (Some op_new) ops) (set_at c k key)
kept_take tree ops key c op st n k new op_new kept is on on_new same_phase free t own =
    kept_update tree ops key c op_new k kept
    (λ s e. subst (Keeps tree k op_new) (one_holdings on_new e) own)
    (λ d q s other differs e f g. subst (λ (x : Holdings). Pair tree k x op_new.phase (key d) other q.phase × Pair tree (key d) other q.phase k x op_new.phase) (one_holdings on_new f) (both d q other differs e g))
  where
    both : (d : ℕ) (q : Record) (other : Holdings) → (c ≡ d → ⊥) → ops d ≡ Some q → q.holdings ≡ Some other → Pair tree k new op_new.phase (key d) other q.phase × Pair tree (key d) other q.phase k new op_new.phase
    both d q other differs e g = (record { apart = apart; after = after_first; clear = λ side. t.head side other first.apart (first.clear side) }, record { apart = λ m h i. apart m i h; after = after_second; clear = λ side. clear (second.clear side) })
      where
        first : Pair tree (key c) st op.phase (key d) other q.phase
        first = kept.pairs c d op q st other differs is e on g

        second : Pair tree (key d) other q.phase (key c) st op.phase
        second = kept.pairs d c q op other st (λ s. differs (sym s)) e is g on

        there : Keeps tree (key d) q other
        there = kept.each d q other e g

        apart : (m : ℕ) → Holds new m → Holds other m → ⊥
        apart m h i = go (t.grows m h)
          where
            go : Holds st m ⊎ (m ≡ n) → ⊥
            go (inl j) = first.apart m j i
            go (inr j) = free d q other e g (subst (Holds other) j i)

        after_first : IsAfter op_new.phase q.phase → after_prefix k (key d) ≡ None
        after_first h = go t.position
          where
            old : after_prefix (key c) (key d) ≡ None
            old = first.after (subst (λ (p : Phase). IsAfter p q.phase) same_phase h)

            go : (k ≡ key c) ⊎ ((t.parent_key ≡ key c) × (k ≡ key c ++ t.name ∷ [])) → after_prefix k (key d) ≡ None
            go (inl j) = rw j old
            go (inr j) = rw j.1 (after_walk (key c) (key d) t.name old)

        after_second : IsAfter q.phase op_new.phase → after_prefix (key d) k ≡ None
        after_second h = go t.position
          where
            old : after_prefix (key d) (key c) ≡ None
            old = second.after (subst (λ (p : Phase). IsAfter q.phase p) same_phase h)

            go : (k ≡ key c) ⊎ ((t.parent_key ≡ key c) × (k ≡ key c ++ t.name ∷ [])) → after_prefix (key d) k ≡ None
            go (inl j) = rw j old
            go (inr j) = rw j.1 (after_take tree (key d) (key c) other n t.name there.located.here (ap (λ (l : Key). tree (l ++ t.name ∷ [])) (sym j.0) ∙ t.node_at) (λ h. free d q other e g h) old)

        clear : {walked : Key} → IsClear tree (key d) walked st → IsClear tree (key d) walked new
        clear {walked} old = clear_take tree kept.one_key (key d) walked other st t.parent_key t.parent n t.name new there.located.here (λ m h i. first.apart m i h) t.parent_at t.parent_held t.node_at t.grows old

-- the take of the next node on the way to the target (no head has set out)
pub takes_walk : (tree : Map ℕ) (k : Key) (st : Holdings) (x : Name) (n : ℕ) → tree k ≡ Some st.node → tree (k ++ x ∷ []) ≡ Some n → Takes tree k st (k ++ x ∷ []) (holdings_at n (Some st.node)) n
takes_walk tree k st x n here at_n = record {
  parent_key = k;
  parent = st.node;
  name = x;
  parent_at = here;
  parent_held = inl refl;
  node_at = at_n;
  grows = grows;
  position = inr (refl, refl);
  head = λ side other apart clear. heads_at (λ (side : Side) (h : Head). IsClear tree (k ++ x ∷ []) h.walked other) n (Some st.node) (λ side. clear_nil tree (k ++ x ∷ []) other) side;
}
  where
    grows : (q : ℕ) → Holds (holdings_at n (Some st.node)) q → Holds st q ⊎ (q ≡ n)
    grows q (inl h) = inr (sym h)
    grows q (inr (inl h)) = inl (inl (let z : st.node ≡ q = cc in z))
    grows q (inr (inr (inl h))) = absurd h.0
    grows q (inr (inr (inr (inl h)))) = absurd h.0
    grows q (inr (inr (inr (inr h)))) = cc

-- the take of the next node of a head
pub takes_head : (side : Side) (tree : Map ℕ) (k : Key) (st : Holdings) (x : Name) (n : ℕ) → st.behind ≡ None → tree (k ++ (head_on side st).walked) ≡ Some (head_on side st).node → Holds st (head_on side st).node → tree ((k ++ (head_on side st).walked) ++ x ∷ []) ≡ Some n
    → Takes tree k st k (stepped side st x n) n
takes_head side tree k st x n closed here held at_n = record {
  parent_key = k ++ (head_on side st).walked;
  parent = (head_on side st).node;
  name = x;
  parent_at = here;
  parent_held = held;
  node_at = at_n;
  grows = grown_holds (grown_head side st x n closed);
  position = inl refl;
  head = λ at other apart. heads_with (λ (at : Side) (h : Head). IsClear tree k (head_on at st).walked other → IsClear tree k h.walked other) side (head_took (head_on side st) x n) st (clear_walk tree k (head_on side st).walked x (head_on side st).node st other here held apart) (λ at clear. clear) at;
}

-- the take of a victim
pub takes_victim : (tree : Map ℕ) (k : Key) (st : Holdings) (parent_key : Key) (parent : ℕ) (x : Name) (n : ℕ) → st.victim ≡ None → tree parent_key ≡ Some parent → Holds st parent → tree (parent_key ++ x ∷ []) ≡ Some n
    → Takes tree k st k (victim_took st n) n
takes_victim tree k st parent_key parent x n off here held at_n = record {
  parent_key = parent_key;
  parent = parent;
  name = x;
  parent_at = here;
  parent_held = held;
  node_at = at_n;
  grows = grown_holds (grown_victim st n off);
  position = inl refl;
  head = λ side other apart clear. clear;
}

-- a call lets a node go: it stands where it stood, and holds less
pub kept_shrink : (tree : Map ℕ) (ops : Records) (key : ℕ → Key) (c : ℕ) (op op_new : Record) (st new : Holdings) → CallFacts tree ops key
    → ops c ≡ Some op → op.holdings ≡ Some st → op_new.holdings ≡ Some new → op_new.phase ≡ op.phase → op_new.walked ≡ op.walked → op_new.remaining ≡ op.remaining
    → Shrinks st new
    → CallFacts tree (set_at c (Some op_new) ops) (set_at c (key c) key)
kept_shrink tree ops key c op op_new st new kept is on on_new same_phase same_walked same_rel less =
    kept_update tree ops key c op_new (key c) kept
    (λ s e. subst (Keeps tree (key c) op_new) (one_holdings on_new e) own)
    (λ d q s other differs e f g. subst (λ (x : Holdings). Pair tree (key c) x op_new.phase (key d) other q.phase × Pair tree (key d) other q.phase (key c) x op_new.phase) (one_holdings on_new f) (both d q other differs e g))
  where
    old : Keeps tree (key c) op st
    old = kept.each c op st is on

    head : (before after : Head) → (after ≡ before) ⊎ (after ≡ head_at st.node) → tree (key c ++ before.walked) ≡ Some before.node → tree (key c ++ after.walked) ≡ Some after.node
    head before after (inl h) e = subst (λ (x : Head). tree (key c ++ x.walked) ≡ Some x.node) (sym h) e
    head before after (inr h) e = subst (λ (x : Head). tree (key c ++ x.walked) ≡ Some x.node) (sym h) (ap tree (append-nil (key c)) ∙ old.located.here)

    own : Keeps tree (key c) op_new new
    own = record {
      located = record {
        here = rw less.node old.located.here;
        head = λ side. head (head_on side st) (head_on side new) (less.head side) (old.located.head side);
      };
      walking = λ w. old.walking (sym same_phase ∙ w) ∙ sym same_walked;
      fits = rw same_rel old.fits;
    }

    fewer : (before after : Head) (other : Holdings) → (after ≡ before) ⊎ (after ≡ head_at st.node) → IsClear tree (key c) before.walked other → IsClear tree (key c) after.walked other
    fewer before after other (inl h) e = subst (λ (x : Head). IsClear tree (key c) x.walked other) (sym h) e
    fewer before after other (inr h) e = subst (λ (x : Head). IsClear tree (key c) x.walked other) (sym h) (clear_nil tree (key c) other)

    both : (d : ℕ) (q : Record) (other : Holdings) → (c ≡ d → ⊥) → ops d ≡ Some q → q.holdings ≡ Some other → Pair tree (key c) new op_new.phase (key d) other q.phase × Pair tree (key d) other q.phase (key c) new op_new.phase
    both d q other differs e g = (
      record {
        apart = λ m h i. first.apart m (less.holds m h) i;
        after = λ h. first.after (subst (λ (p : Phase). IsAfter p q.phase) same_phase h);
        clear = λ side. fewer (head_on side st) (head_on side new) other (less.head side) (first.clear side);
      },
      record {
        apart = λ m h i. second.apart m h (less.holds m i);
        after = λ h. second.after (subst (λ (p : Phase). IsAfter q.phase p) same_phase h);
        clear = λ side u v m mu mv i j h. second.clear side u v m mu mv i j (less.holds m h);
      },
    )
      where
        first : Pair tree (key c) st op.phase (key d) other q.phase
        first = kept.pairs c d op q st other differs is e on g

        second : Pair tree (key d) other q.phase (key c) st op.phase
        second = kept.pairs d c q op other st (λ s. differs (sym s)) e is g on

-- a call that is finished stands where it stood until it lets go
pub kept_finish : (tree : Map ℕ) (ops : Records) (key : ℕ → Key) (c : ℕ) (op : Record) (made : Effect) → CallFacts tree ops key → ops c ≡ Some op
    → CallFacts tree (set_at c (Some (finished_op op made)) ops) (set_at c (key c) key)
kept_finish tree ops key c op made kept is =
    kept_update tree ops key c (finished_op op made) (key c) kept
    (λ st e. let k : Keeps tree (key c) op st = kept.each c op st is e in record { located = k.located; walking = λ w. cc; fits = k.fits })
    (λ d q st other n e f g.
    let first : Pair tree (key c) st op.phase (key d) other q.phase = kept.pairs c d op q st other n is e f g in
    let second : Pair tree (key d) other q.phase (key c) st op.phase = kept.pairs d c q op other st (λ s. n (sym s)) e is g f in (
      record { apart = first.apart; after = λ h. absurd h; clear = first.clear },
      record { apart = second.apart; after = λ h. absurd (no_after q.phase h); clear = second.clear },
    ))
  where
    no_after : (p : Phase) → IsAfter p (Finished made.reply) → ⊥
    no_after Walking h = h
    no_after (Placed i) h = h
    no_after (Finished q) h = h

-- a moved entry, past all other calls: none has walked through it, and none walks below it
pub record SparesEntry (ops : Records) (key : ℕ → Key) (s : Key) : Type 0 where
  pub head : (side : Side) (d : ℕ) (q : Record) (st : Holdings) → ops d ≡ Some q → q.holdings ≡ Some st → (u v : Key) → after_prefix s (key d) ≡ None → (head_on side st).walked ≡ u ++ v → after_prefix s (key d ++ u) ≡ None
  pub walking : (d : ℕ) (q : Record) (st : Holdings) → ops d ≡ Some q → q.holdings ≡ Some st → q.phase ≡ Walking → after_prefix s (key d) ≡ None

-- a move of one call, past all others
pub record Spares (tree : Map ℕ) (ops : Records) (key : ℕ → Key) (s t kt : Key) (y : Name) : Type 0 where
  pub none : (r : Key) → tree (t ++ r) ≡ None
  pub ends_in : t ≡ kt ++ y ∷ []
  pub entry : SparesEntry ops key s
  pub off : (d e : ℕ) (p q : Record) (st other : Holdings) → ops d ≡ Some p → ops e ≡ Some q → p.holdings ≡ Some st → q.holdings ≡ Some other → IsAfter p.phase q.phase → (after_prefix (key d) kt ≡ None) ⊎ ((after_prefix s (key d) ≡ None) × (after_prefix s (key e) ≡ None))

pub kept_move : (tree : Map ℕ) (ops : Records) (key : ℕ → Key) (s t kt : Key) (y : Name) → CallFacts tree ops key
    → ((a b : Key) (n : ℕ) → move s t tree a ≡ Some n → move s t tree b ≡ Some n → a ≡ b)
    → Spares tree ops key s t kt y
    → CallFacts (move s t tree) ops (λ d. rekey_by t (key d) (after_prefix s (key d)))
kept_move tree ops key s t kt y kept one sp = record {
  one_key = one;
  each = λ d q st e f.
      let k : Keeps tree (key d) q st = kept.each d q st e f in
      record {
        located = located_moved tree s t (key d) st sp.none k.located (λ side. sp.entry.head side d q st e f);
        walking = λ w. rw (sp.entry.walking d q st e f w) (k.walking w);
        fits = k.fits;
      };
  pairs = λ c d p q st other n e f g h.
      pair_moved tree s t kt y (key c) st p.phase (key d) other q.phase sp.none sp.ends_in
      (kept.each c p st e g).located (kept.each d q other f h).located
      (λ side. sp.entry.head side c p st e g)
      (λ i. sp.off c d p q st other e f g h i)
      (kept.pairs c d p q st other n e f g h);
}

-- an exchange of one call, past all others
pub record SparesBoth (ops : Records) (key : ℕ → Key) (kf : Key) (x : Name) (kt : Key) (y : Name) : Type 0 where
  pub one : SparesEntry ops key (kf ++ x ∷ [])
  pub other : SparesEntry ops key (kt ++ y ∷ [])
  pub off : (d e : ℕ) (p q : Record) (st other : Holdings) → ops d ≡ Some p → ops e ≡ Some q → p.holdings ≡ Some st → q.holdings ≡ Some other → IsAfter p.phase q.phase
      → ((after_prefix (key d) kf ≡ None) × (after_prefix (key d) kt ≡ None)) ⊎ (OffBoth (kf ++ x ∷ []) (kt ++ y ∷ []) (key d) × OffBoth (kf ++ x ∷ []) (kt ++ y ∷ []) (key e))

pub kept_swap : (tree : Map ℕ) (ops : Records) (key : ℕ → Key) (kf : Key) (x : Name) (kt : Key) (y : Name) → CallFacts tree ops key → Aside (kf ++ x ∷ []) (kt ++ y ∷ [])
    → ((a b : Key) (n : ℕ) → swap (kf ++ x ∷ []) (kt ++ y ∷ []) tree a ≡ Some n → swap (kf ++ x ∷ []) (kt ++ y ∷ []) tree b ≡ Some n → a ≡ b)
    → SparesBoth ops key kf x kt y
    → CallFacts (swap (kf ++ x ∷ []) (kt ++ y ∷ []) tree) ops (λ d. swapped (kf ++ x ∷ []) (kt ++ y ∷ []) (key d))
kept_swap tree ops key kf x kt y kept aside one sp = record {
  one_key = one;
  each = λ d q st e f.
      let k : Keeps tree (key d) q st = kept.each d q st e f in
      let chain : (side : Side) (u v : Key) → (head_on side st).walked ≡ u ++ v → swap (kf ++ x ∷ []) (kt ++ y ∷ []) tree (swapped (kf ++ x ∷ []) (kt ++ y ∷ []) (key d) ++ u) ≡ tree (key d ++ u) =
      λ (side : Side) (u v : Key) (i : (head_on side st).walked ≡ u ++ v). chain_swapped tree (kf ++ x ∷ []) (kt ++ y ∷ []) (key d) u aside (λ j. sp.one.head side d q st e f u v j i) (λ j. sp.other.head side d q st e f u v j i) in
      record {
        located = record {
          here = ap tree (swapped_twice (kf ++ x ∷ []) (kt ++ y ∷ []) (key d) aside.0 aside.1) ∙ k.located.here;
          head = λ side. chain side (head_on side st).walked [] (sym (append-nil (head_on side st).walked)) ∙ k.located.head side;
        };
        walking = λ w. swapped_else (kf ++ x ∷ []) (kt ++ y ∷ []) (key d) (sp.one.walking d q st e f w) (sp.other.walking d q st e f w) ∙ k.walking w;
        fits = k.fits;
      };
  pairs = λ c d p q st other n e f g h.
      pair_swapped tree kf kt x y (key c) st p.phase (key d) other q.phase aside
      (λ side. sp.one.head side c p st e g)
      (λ side. sp.other.head side c p st e g)
      (λ i. sp.off c d p q st other e f g h i)
      (kept.pairs c d p q st other n e f g h);
}
