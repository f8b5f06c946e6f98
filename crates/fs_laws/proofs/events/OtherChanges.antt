-- The other changes: a new entry, the root's take, a call that begins, a call that ends.
use Rattle.std.proofs.Common.{◌≡◌, ℕ, Bool, true, false, eqb, [], ◌∷◌, ◌++◌, Option, Some, None, refl, sym, ap, ◌∙◌, append_assoc, subst, inl, inr}
use Rattle.fs_names.specs.Keys.{Key, after_prefix}
use Rattle.fs_names.specs.Parts.{HasNames}
use Rattle.fs_calls.specs.Forms.{Fits}
use Rattle.fs_laws.specs.Maps.{Map, put, put_at}
use Rattle.fs_calls.specs.Graphs.{set_at}
use Rattle.fs_machine.specs.Records.{Finished, Head, Holds, Record, Records, Phase, Placed, Holdings, Walking, Side, head_on, holdings_at}
use Rattle.fs_laws.specs.CallFacts.{IsAfter, IsClear, IsFree, Keeps, CallFacts, Pair}
use Rattle.fs_laws.proofs.graphs.Walks.{eqb_refl, eqb_true}
use Rattle.fs_laws.proofs.trees.Commuting.{put_other}
use Rattle.fs_laws.proofs.events.TwoCalls.{after_take_root}
use Rattle.fs_laws.proofs.events.OneCallChanged.{kept_update, clear_nil}
use Rattle.fs_laws.proofs.calls.NodesHeld.{heads_at, only_at, located_at, node_held, one_holdings}

-- where one entry is added, each key that was there is there as before
added : (tree : Map ℕ) (t : Key) (n : ℕ) → tree t ≡ None → (key : Key) (m : ℕ) → tree key ≡ Some m → put t (Some n) tree key ≡ tree key
added tree t n free key m e = put_other t (Some n) tree key (λ h. (let z : ◌≡◌ {A = Option ℕ} None (Some m) = sym free ∙ ap tree (sym h) ∙ e in cc))

-- a commit that links a node: nobody's place changes
pub kept_put : (tree : Map ℕ) (ops : Records) (key : ℕ → Key) (t : Key) (n : ℕ) → CallFacts tree ops key → tree t ≡ None
    → ((a b : Key) (m : ℕ) → tree (a ++ b) ≡ Some m → (q : ℕ) × (tree a ≡ Some q))
    → ((a b : Key) (m : ℕ) → put t (Some n) tree a ≡ Some m → put t (Some n) tree b ≡ Some m → a ≡ b)
    → CallFacts (put t (Some n) tree) ops key
kept_put tree ops key t n kept free closed one = record { one_key = one; each = each; pairs = pairs }
  where
    each : (d : ℕ) (q : Record) (st : Holdings) → ops d ≡ Some q → q.holdings ≡ Some st → Keeps (put t (Some n) tree) (key d) q st
    each d q st e f =
        let k : Keeps tree (key d) q st = kept.each d q st e f in
        record {
          located = record {
            here = added tree t n free (key d) st.node k.located.here ∙ k.located.here;
            head = λ side. added tree t n free (key d ++ (head_on side st).walked) (head_on side st).node (k.located.head side) ∙ k.located.head side;
          };
          walking = k.walking;
          fits = k.fits;
        }

    clear : (k walked : Key) (h : ℕ) (other : Holdings) → tree (k ++ walked) ≡ Some h → IsClear tree k walked other → IsClear (put t (Some n) tree) k walked other
    clear k walked h other there old u v m mu mv is at_m has =
        let q : (q : ℕ) × (tree (k ++ u) ≡ Some q) = closed (k ++ u) v h (ap tree (append_assoc k u v) ∙ ap (λ (l : Key). tree (k ++ l)) (sym is) ∙ there) in
        old u v m mu mv is (sym (added tree t n free (k ++ u) q.0 q.1) ∙ at_m) has

    pairs : (c d : ℕ) (p q : Record) (st other : Holdings) → (c ≡ d → ⊥) → ops c ≡ Some p → ops d ≡ Some q → p.holdings ≡ Some st → q.holdings ≡ Some other → Pair (put t (Some n) tree) (key c) st p.phase (key d) other q.phase
    pairs c d p q st other differs e f g h =
        let old : Pair tree (key c) st p.phase (key d) other q.phase = kept.pairs c d p q st other differs e f g h in
        let k : Keeps tree (key c) p st = kept.each c p st e g in
        record { apart = old.apart; after = old.after; clear = λ side. clear (key c) (head_on side st).walked (head_on side st).node other (k.located.head side) (old.clear side) }

-- a walking call that holds nothing takes the root
pub kept_root : (tree : Map ℕ) (ops : Records) (key : ℕ → Key) (c : ℕ) (op op_new : Record) (n : ℕ) → CallFacts tree ops key
    → ops c ≡ Some op → op.phase ≡ Walking → op_new.phase ≡ Walking → op_new.walked ≡ [] → Fits op_new.remaining
    → op_new.holdings ≡ Some (holdings_at n None) → tree [] ≡ Some n → IsFree ops n
    → CallFacts tree (set_at c (Some op_new) ops) (set_at c [] key)
kept_root tree ops key c op op_new n kept is walks walks_new walked fits on at_root free =
    kept_update tree ops key c op_new [] kept
    (λ s e. subst (Keeps tree [] op_new) (one_holdings on e) own)
    (λ d q s other differs e f g. subst (λ (x : Holdings). Pair tree [] x op_new.phase (key d) other q.phase × Pair tree (key d) other q.phase [] x op_new.phase) (one_holdings on f) (both d q other differs e g))
  where
    new : Holdings
    new = holdings_at n None

    own : Keeps tree [] op_new new
    own = record { located = located_at tree [] n None at_root; walking = λ w. sym walked; fits = fits }

    walk_after : (p : Phase) → IsAfter Walking p → ⊥
    walk_after Walking h = h
    walk_after (Placed i) h = h
    walk_after (Finished r) h = h

    both : (d : ℕ) (q : Record) (other : Holdings) → (c ≡ d → ⊥) → ops d ≡ Some q → q.holdings ≡ Some other → Pair tree [] new op_new.phase (key d) other q.phase × Pair tree (key d) other q.phase [] new op_new.phase
    both d q other differs e g = (
      record {
        apart = λ m h i. free d q other e g (subst (Holds other) (only_at n m h) i);
        after = λ h. absurd (walk_after q.phase (subst (λ (z : Phase). IsAfter z q.phase) walks_new h));
        clear = λ side. heads_at (λ (side : Side) (h : Head). IsClear tree [] h.walked other) n None (λ side. clear_nil tree [] other) side;
      },
      record {
        apart = λ m h i. free d q other e g (subst (Holds other) (only_at n m i) h);
        after = λ h. after_take_root tree (key d) other n (kept.each d q other e g).located.here at_root (λ h. free d q other e g h);
        clear = λ side. root_clear (key d) (head_on side other).walked;
      },
    )
      where
        root_clear : (k walked : Key) → IsClear tree k walked new
        root_clear k walked u v m mu mv i j h = no_more k u mu (kept.one_key (k ++ u) [] m j (at_root ∙ ap Some (sym (only_at n m h))))
          where
            no_more : (k u : Key) → HasNames u → k ++ u ≡ [] → ⊥
            no_more [] [] mu e = mu
            no_more [] (x ∷ u) mu e = cc
            no_more (y ∷ k) u mu e = cc

-- a call that begins, or has let everything go, or ends: it stands nowhere
pub kept_none : (tree : Map ℕ) (ops : Records) (key : ℕ → Key) (c : ℕ) (op : Record) → CallFacts tree ops key → op.holdings ≡ None → CallFacts tree (set_at c (Some op) ops) (set_at c (key c) key)
kept_none tree ops key c op kept off =
    kept_update tree ops key c op (key c) kept
    (λ s e. (let z : ◌≡◌ {A = Option Holdings} None (Some s) = sym off ∙ e in cc))
    (λ d q s other differs e f g. (let z : ◌≡◌ {A = Option Holdings} None (Some s) = sym off ∙ f in cc))

-- a removal: the victim's node is nobody's place
cut_some : (t : Key) (tree : Map ℕ) (key : Key) (m : ℕ) → put t None tree key ≡ Some m → tree key ≡ Some m
cut_some t tree key m e = go (after_prefix t key) e
  where
    go : (o : Option Key) → put_at None tree key o ≡ Some m → tree key ≡ Some m
    go None e = e
    go (Some []) e = cc
    go (Some (x ∷ r)) e = e

-- none of a call's own places is at t
abbrev pub OffPlaces : Key → Key → Holdings → Type 0
OffPlaces t key st = (key ≡ t → ⊥) × ((side : Side) → key ++ (head_on side st).walked ≡ t → ⊥)

pub kept_cut : (tree : Map ℕ) (ops : Records) (key : ℕ → Key) (t : Key) → CallFacts tree ops key
    → ((d : ℕ) (q : Record) (st : Holdings) → ops d ≡ Some q → q.holdings ≡ Some st → OffPlaces t (key d) st)
    → CallFacts (put t None tree) ops key
kept_cut tree ops key t kept off = record {
  one_key = λ a b n e f. kept.one_key a b n (cut_some t tree a n e) (cut_some t tree b n f);
  each = λ d q st e f.
      let k : Keeps tree (key d) q st = kept.each d q st e f in
      let o : OffPlaces t (key d) st = off d q st e f in
      record {
        located = record {
          here = put_other t None tree (key d) o.0 ∙ k.located.here;
          head = λ side. put_other t None tree (key d ++ (head_on side st).walked) (o.1 side) ∙ k.located.head side;
        };
        walking = k.walking;
        fits = k.fits;
      };
  pairs = λ c d p q st other differs e f g h.
      let old : Pair tree (key c) st p.phase (key d) other q.phase = kept.pairs c d p q st other differs e f g h in
      record { apart = old.apart; after = old.after; clear = λ side. clear (key c) (head_on side st).walked other (old.clear side) };
}
  where
    clear : (k walked : Key) (other : Holdings) → IsClear tree k walked other → IsClear (put t None tree) k walked other
    clear k walked other old u v m mu mv is at_m has = old u v m mu mv is (cut_some t tree (k ++ u) m at_m) has

-- where one call holds the node at t, which none of its own places is, no call's place is there
pub victim_off : (tree : Map ℕ) (ops : Records) (key : ℕ → Key) (c : ℕ) (op : Record) (st : Holdings) (t : Key) (v : ℕ) → CallFacts tree ops key
    → ops c ≡ Some op → op.holdings ≡ Some st → st.victim ≡ Some v → tree t ≡ Some v
    → OffPlaces t (key c) st
    → (d : ℕ) (q : Record) (other : Holdings) → ops d ≡ Some q → q.holdings ≡ Some other → OffPlaces t (key d) other
victim_off tree ops key c op st t v kept is on vic at_t own d q other e f = by (eqb d c) refl
  where
    mine : d ≡ c → other ≡ st
    mine i =
        let a : ◌≡◌ {A = Option Record} (Some q) (Some op) = sym e ∙ ap ops i ∙ is in
        let b : q ≡ op = cc in
        let h : ◌≡◌ {A = Option Holdings} (Some other) (Some st) = sym f ∙ ap (λ (o : Record). o.holdings) b ∙ on in
        (let j : other ≡ st = cc in j)

    k : Keeps tree (key d) q other
    k = kept.each d q other e f

    apart : (d ≡ c → ⊥) → Holds other v → ⊥
    apart n h = (kept.pairs d c q op other st n e is f on).apart v h (inr (inr (inr (inr vic))))

    at_node : (l : Key) (n : ℕ) → tree l ≡ Some n → l ≡ t → n ≡ v
    at_node l n i j = let z : ◌≡◌ {A = Option ℕ} (Some n) (Some v) = sym i ∙ ap tree j ∙ at_t in cc

    head : (side : Side) → (d ≡ c → ⊥) → key d ++ (head_on side other).walked ≡ t → ⊥
    head side n j = apart n (subst (Holds other) (at_node (key d ++ (head_on side other).walked) (head_on side other).node (k.located.head side) j) (node_held side tree (key d) other k.located))

    by : (b : Bool) → eqb d c ≡ b → OffPlaces t (key d) other
    by true e2 = let i : d ≡ c = eqb_true d c e2 in rw (i, mine i) own
    by false e2 =
        let n : d ≡ c → ⊥ = λ i. (let z : eqb d c ≡ true = ap (λ (m : ℕ). eqb m c) i ∙ eqb_refl c in cc) in (
          λ j. apart n (inl (at_node (key d) other.node k.located.here j)),
          λ side. head side n,
        )
