-- Searches among finitely many numbers, and the choice of whom to help.
use Rattle.std.proofs.Common.{◌≡◌, ℕ, zero, suc, ◌+◌, ◌<◌, ◌≤◌, Bool, true, false, cond, eqb, not, ◌&&◌, ◌||◌, List, [], ◌∷◌, ◌++◌, length, Option, Some, None, is_some, refl, sym, ap, ap₂, ◌∙◌, ◌⊎◌, inl, inr, arith}
use Rattle.std.specs.Prelude.{nat_le}
use Rattle.std.proofs.lemmas.Bool.Decides.{nat_tests}
use Rattle.std.proofs.lemmas.List.{length-append}
use Rattle.fs_names.specs.Keys.{Key, after_prefix}
use Rattle.fs_calls.specs.Graphs.{at, numbers}
use Rattle.fs_machine.specs.Records.{Phase, Walking, Placed, Finished, Record, Records, Holdings}
use Rattle.fs_timeline.specs.Timeline.{begins}
use Rattle.fs_laws.specs.Invariants.{Invariant}
use Rattle.fs_laws.specs.StepsLeft.{total}
use Rattle.fs_machine.specs.States.{State, Run, IsMoved, IsWalkingBelow, IsWalkingBelowMoved, IsLowest, IsChosen, NoneBelow}
use Rattle.fs_machine.specs.declared.moves.Moved.{Moved}
use Rattle.fs_laws.proofs.trees.Prefixes.{prefix_append, prefix_some}
use Rattle.fs_laws.proofs.graphs.Walks.{at_from, eqb_refl, eqb_true}
use Rattle.fs_laws.proofs.states.Headline.{run_keeps}
use Rattle.fs_laws.proofs.states.GraphOfARun.{begun_before}

-- up to a number: the number itself, or one before
pub up_to : (c n : ℕ) → c ≤ suc n → (c ≡ suc n) ⊎ (c ≤ n)
up_to c n h = go (nat_le c n) refl
  where
    go : (b : Bool) → nat_le c n ≡ b → (c ≡ suc n) ⊎ (c ≤ n)
    go true e = inr (grind (arith, nat_tests))
    go false e = inl (let k : n < c = grind (arith, nat_tests) in omega (arith, k, h))

-- none up to n, or one of them with the most
pub data Most (f : ℕ → Bool) (g : ℕ → ℕ) (n : ℕ) : Type 0 where
  No_one : ((c : ℕ) → c ≤ n → f c ≡ false) → Most f g n
  One : (d : ℕ) → f d ≡ true → ((c : ℕ) → c ≤ n → f c ≡ true → g c ≤ g d) → Most f g n

no_both : (b : Bool) → b ≡ true → b ≡ false → ⊥
no_both b e f = let z : true ≡ false = sym e ∙ f in cc

pub most : (f : ℕ → Bool) (g : ℕ → ℕ) (n : ℕ) → Most f g n
most f g zero = go (f 0) refl
  where
    is_zero : (c : ℕ) → c ≤ 0 → c ≡ 0
    is_zero c h = omega (arith, h)

    go : (b : Bool) → f 0 ≡ b → Most f g 0
    go true e = One 0 e (λ c h i. (let z : g c ≡ g 0 = ap g (is_zero c h) in omega (arith, z)))
    go false e = No_one (λ c h. ap f (is_zero c h) ∙ e)
most f g (suc n) = go (most f g n) (f (suc n)) refl
  where
    no_one : ((c : ℕ) → c ≤ n → f c ≡ false) → f (suc n) ≡ false → (c : ℕ) → (c ≡ suc n) ⊎ (c ≤ n) → f c ≡ false
    no_one h e c (inl i) = ap f i ∙ e
    no_one h e c (inr i) = h c i

    alone : ((c : ℕ) → c ≤ n → f c ≡ false) → (c : ℕ) → (c ≡ suc n) ⊎ (c ≤ n) → f c ≡ true → g c ≤ g (suc n)
    alone h c (inl i) j = let z : g c ≡ g (suc n) = ap g i in omega (arith, z)
    alone h c (inr i) j = absurd (no_both (f c) j (h c i))

    without : (d : ℕ) → ((c : ℕ) → c ≤ n → f c ≡ true → g c ≤ g d) → f (suc n) ≡ false → (c : ℕ) → (c ≡ suc n) ⊎ (c ≤ n) → f c ≡ true → g c ≤ g d
    without d h e c (inl i) j = absurd (no_both (f c) j (ap f i ∙ e))
    without d h e c (inr i) j = h c i j

    stays : (d : ℕ) → ((c : ℕ) → c ≤ n → f c ≡ true → g c ≤ g d) → g (suc n) ≤ g d → (c : ℕ) → (c ≡ suc n) ⊎ (c ≤ n) → f c ≡ true → g c ≤ g d
    stays d h m c (inl i) j = let z : g c ≡ g (suc n) = ap g i in omega (arith, z, m)
    stays d h m c (inr i) j = h c i j

    passes : (d : ℕ) → ((c : ℕ) → c ≤ n → f c ≡ true → g c ≤ g d) → g d ≤ g (suc n) → (c : ℕ) → (c ≡ suc n) ⊎ (c ≤ n) → f c ≡ true → g c ≤ g (suc n)
    passes d h m c (inl i) j = let z : g c ≡ g (suc n) = ap g i in omega (arith, z)
    passes d h m c (inr i) j = let k : g c ≤ g d = h c i j in omega (arith, k, m)

    compare : (d : ℕ) → f d ≡ true → ((c : ℕ) → c ≤ n → f c ≡ true → g c ≤ g d) → f (suc n) ≡ true → (b : Bool) → nat_le (g (suc n)) (g d) ≡ b → Most f g (suc n)
    compare d e h i true j = One d e (λ c k. stays d h (grind (arith, nat_tests)) c (up_to c n k))
    compare d e h i false j = One (suc n) i (λ c k. passes d h (let m : g d < g (suc n) = grind (arith, nat_tests) in omega (arith, m)) c (up_to c n k))

    go : Most f g n → (b : Bool) → f (suc n) ≡ b → Most f g (suc n)
    go (No_one h) true e = One (suc n) e (λ c k. alone h c (up_to c n k))
    go (No_one h) false e = No_one (λ c k. no_one h e c (up_to c n k))
    go (One d i h) true e = compare d i h e (nat_le (g (suc n)) (g d)) refl
    go (One d i h) false e = One d i (λ c k. without d h e c (up_to c n k))

abbrev or_else : Option ℕ → Option ℕ → Option ℕ
or_else None b = b
or_else (Some d) b = Some d

-- the least of those up to n
abbrev least_of : (ℕ → Bool) → ℕ → Option ℕ
least_of f zero = cond (f 0) (Some 0) None
least_of f (suc n) = or_else (least_of f n) (cond (f (suc n)) (Some (suc n)) None)

data Least (f : ℕ → Bool) (n : ℕ) : Option ℕ → Type 0 where
  Nobody : ((c : ℕ) → c ≤ n → f c ≡ false) → Least f n None
  First : (d : ℕ) → f d ≡ true → ((c : ℕ) → f c ≡ true → d ≤ c) → Least f n (Some d)

least : (f : ℕ → Bool) (n : ℕ) → Least f n (least_of f n)
least f zero = go (f 0) refl
  where
    go : (b : Bool) → f 0 ≡ b → Least f 0 (cond b (Some 0) None)
    go true e = First 0 e (λ c h. omega arith)
    go false e = Nobody (λ c h. ap f (let k : c ≡ 0 = omega (arith, h) in k) ∙ e)
least f (suc n) = go (least_of f n) (least f n) (f (suc n)) refl
  where
    no_one : ((c : ℕ) → c ≤ n → f c ≡ false) → f (suc n) ≡ false → (c : ℕ) → (c ≡ suc n) ⊎ (c ≤ n) → f c ≡ false
    no_one h e c (inl i) = ap f i ∙ e
    no_one h e c (inr i) = h c i

    above : ((c : ℕ) → c ≤ n → f c ≡ false) → (c : ℕ) → f c ≡ true → (b : Bool) → nat_le c n ≡ b → suc n ≤ c
    above h c e true i = absurd (no_both (f c) e (h c (grind (arith, nat_tests))))
    above h c e false i = let k : n < c = grind (arith, nat_tests) in omega (arith, k)

    go : (o : Option ℕ) → Least f n o → (b : Bool) → f (suc n) ≡ b → Least f (suc n) (or_else o (cond b (Some (suc n)) None))
    go o (First d e h) b i = First d e h
    go o (Nobody h) true i = First (suc n) i (λ c e. above h c e (nat_le c n) refl)
    go o (Nobody h) false i = Nobody (λ c k. no_one h i c (up_to c n k))

-- each is within the sum
pub within_total : (g : ℕ → ℕ) (n c : ℕ) → c ≤ n → g c ≤ total g n
within_total g zero c h = let z : c ≡ 0 = omega (arith, h) in let y : g c ≡ g 0 = ap g z in omega (arith, y)
within_total g (suc n) c h = go (up_to c n h) (within_total g n c)
  where
    go : (c ≡ suc n) ⊎ (c ≤ n) → (c ≤ n → g c ≤ total g n) → g c ≤ total g n + g (suc n)
    go (inl i) f = let y : g c ≡ g (suc n) = ap g i in omega (arith, y)
    go (inr i) f = let k : g c ≤ total g n = f i in omega (arith, k)

-- a walking call that stands somewhere
abbrev walks_by : Phase → Option Holdings → Bool
walks_by Walking (Some st) = true
walks_by Walking None = false
walks_by (Placed i) st = false
walks_by (Finished r) st = false

abbrev walks_on : Option Record → Bool
walks_on None = false
walks_on (Some op) = walks_by op.phase op.holdings

-- where a walking call is, by the names that it has walked
abbrev walked_of : Option Record → Key
walked_of None = []
walked_of (Some op) = op.walked

-- it walks below a key
abbrev is_under : Records → Key → ℕ → Bool
is_under ops k d = walks_on (ops d) && is_some (after_prefix k (walked_of (ops d)))

record Walks (s : State) (d : ℕ) : Type 0 where
  pub op : Record
  pub st : Holdings
  pub is : s.ops d ≡ Some op
  pub walks : op.phase ≡ Walking
  pub on : op.holdings ≡ Some st

walks_of : (s : State) (d : ℕ) → walks_on (s.ops d) ≡ true → Walks s d
walks_of s d e = go (s.ops d) refl e
  where
    by : (op : Record) → s.ops d ≡ Some op → (p : Phase) (o : Option Holdings) → op.phase ≡ p → op.holdings ≡ o → walks_by p o ≡ true → Walks s d
    by op i Walking (Some st) ph on f = record { op = op; st = st; is = i; walks = ph; on = on }
    by op i Walking None ph on f = cc
    by op i (Placed j) o ph on f = cc
    by op i (Finished r) o ph on f = cc

    go : (o : Option Record) → s.ops d ≡ o → walks_on o ≡ true → Walks s d
    go None i f = cc
    go (Some op) i f = by op i op.phase op.holdings refl refl f

both : (a b : Bool) → a ≡ true → b ≡ true → (a && b) ≡ true
both true b e f = f
both false b e f = cc

parts : (a b : Bool) → (a && b) ≡ true → (a ≡ true) × (b ≡ true)
parts true b e = (refl, e)
parts false b e = cc

at_walked : (s : State) (inv : Invariant s) (d : ℕ) (op : Record) (st : Holdings) → s.ops d ≡ Some op → op.phase ≡ Walking → op.holdings ≡ Some st → numbers s.graph (walked_of (s.ops d)) ≡ Some st.node
at_walked s inv d op st is walks on = ap (numbers s.graph) (ap walked_of is ∙ sym ((inv.kept.each d op st is on).walking walks)) ∙ (inv.kept.each d op st is on).located.here

-- the record of a call that walks below a node is a walking call's
walks_here : (s : State) (n d : ℕ) (op : Record) → IsWalkingBelow s n d → s.ops d ≡ Some op → op.phase ≡ Walking
walks_here s n d op w is = let a : ◌≡◌ {A = Option Record} (Some w.0) (Some op) = sym w.1 ∙ is in let b : w.0 ≡ op = cc in ap (λ (o : Record). o.phase) (sym b) ∙ w.2

walks_here_moved : (s : State) (moved : Moved) (d : ℕ) (op : Record) → IsWalkingBelowMoved s moved d → s.ops d ≡ Some op → op.phase ≡ Walking
walks_here_moved s moved d op (n, one, w) is = walks_here s n d op w is

walks_below : (s : State) (moved : Moved) (d : ℕ) → IsWalkingBelowMoved s moved d → Walks s d
walks_below s moved d (n, one, (op, is, walks, (st, r, on, e))) = record { op = op; st = st; is = is; walks = walks; on = on }

-- walking below a node, by the keys
to_under : (s : State) (inv : Invariant s) (k : Key) (n d : ℕ) → numbers s.graph k ≡ Some n → IsWalkingBelow s n d → is_under s.ops k d ≡ true
to_under s inv k n d at_k (op, is, walks, (st, r, on, e)) =
    let there : numbers s.graph (walked_of (s.ops d)) ≡ Some st.node = at_walked s inv d op st is walks on in
    let same : walked_of (s.ops d) ≡ k ++ r = inv.is_graph.one_key (walked_of (s.ops d)) (k ++ r) st.node there (at_from s.graph.child 0 n k r at_k ∙ e) in
    both (walks_on (s.ops d)) (is_some (after_prefix k (walked_of (s.ops d)))) (ap walks_on is ∙ ap₂ walks_by walks on) (ap is_some (ap (after_prefix k) same ∙ prefix_append k r))

from_under : (s : State) (inv : Invariant s) (k : Key) (n d : ℕ) → numbers s.graph k ≡ Some n → is_under s.ops k d ≡ true → IsWalkingBelow s n d
from_under s inv k n d at_k e = go (after_prefix k (walked_of (s.ops d))) refl (parts (walks_on (s.ops d)) (is_some (after_prefix k (walked_of (s.ops d)))) e).1
  where
    w : Walks s d
    w = walks_of s d (parts (walks_on (s.ops d)) (is_some (after_prefix k (walked_of (s.ops d)))) e).0

    go : (o : Option Key) → after_prefix k (walked_of (s.ops d)) ≡ o → is_some o ≡ true → IsWalkingBelow s n d
    go None i f = cc
    go (Some r) i f =
        let there : numbers s.graph (walked_of (s.ops d)) ≡ Some w.st.node = at_walked s inv d w.op w.st w.is w.walks w.on in
        (w.op, w.is, w.walks, (w.st, r, w.on, sym (at_from s.graph.child 0 n k r at_k) ∙ ap (numbers s.graph) (sym (prefix_some k (walked_of (s.ops d)) r i)) ∙ there))

-- a key is in a list
abbrev pub IsOneOf : Key → List Key → Type 0
IsOneOf k [] = ⊥
IsOneOf k (l ∷ ks) = (k ≡ l) ⊎ IsOneOf k ks

-- it walks below one of some keys
abbrev is_under_any : Records → List Key → ℕ → Bool
is_under_any ops [] d = false
is_under_any ops (k ∷ ks) d = is_under ops k d || is_under_any ops ks d

or_true : (a b : Bool) → b ≡ true → (a || b) ≡ true
or_true true b e = refl
or_true false b e = e

or_parts : (a b : Bool) → (a || b) ≡ true → (a ≡ true) ⊎ (b ≡ true)
or_parts true b e = inl refl
or_parts false b e = inr e

any_of : (ops : Records) (ks : List Key) (k : Key) (d : ℕ) → IsOneOf k ks → is_under ops k d ≡ true → is_under_any ops ks d ≡ true
any_of ops [] k d i e = absurd i
any_of ops (l ∷ ks) k d (inl i) e = ap (λ (b : Bool). b || is_under_any ops ks d) (ap (λ (m : Key). is_under ops m d) (sym i) ∙ e)
any_of ops (l ∷ ks) k d (inr i) e = or_true (is_under ops l d) (is_under_any ops ks d) (any_of ops ks k d i e)

one_of_any : (ops : Records) (ks : List Key) (d : ℕ) → is_under_any ops ks d ≡ true → (k : Key) × IsOneOf k ks × (is_under ops k d ≡ true)
one_of_any ops [] d e = cc
one_of_any ops (l ∷ ks) d e = go (or_parts (is_under ops l d) (is_under_any ops ks d) e) (λ f. one_of_any ops ks d f)
  where
    go : (is_under ops l d ≡ true) ⊎ (is_under_any ops ks d ≡ true) → (is_under_any ops ks d ≡ true → (k : Key) × IsOneOf k ks × (is_under ops k d ≡ true)) → (k : Key) × IsOneOf k (l ∷ ks) × (is_under ops k d ≡ true)
    go (inl f) rest = (l, inl refl, f)
    go (inr f) rest = let r : (k : Key) × IsOneOf k ks × (is_under ops k d ≡ true) = rest f in (r.0, inr r.1, r.2)

-- the keys of the nodes that move
pub record AreKeys (s : State) (ks : List Key) (moved : Moved) : Type 0 where
  pub each : (k : Key) → IsOneOf k ks → (n : ℕ) × IsMoved moved n × (numbers s.graph k ≡ Some n)
  pub all : (n : ℕ) → IsMoved moved n → (k : Key) × IsOneOf k ks × (numbers s.graph k ≡ Some n)

-- walking below a node that moves, by its key
to_any : (s : State) (inv : Invariant s) (ks : List Key) (moved : Moved) (d : ℕ) → AreKeys s ks moved → IsWalkingBelowMoved s moved d → is_under_any s.ops ks d ≡ true
to_any s inv ks moved d keys (n, one, w) =
    let k : (k : Key) × IsOneOf k ks × (numbers s.graph k ≡ Some n) = keys.all n one in
    any_of s.ops ks k.0 d k.1 (to_under s inv k.0 n d k.2 w)

from_any : (s : State) (inv : Invariant s) (ks : List Key) (moved : Moved) (d : ℕ) → AreKeys s ks moved → is_under_any s.ops ks d ≡ true → IsWalkingBelowMoved s moved d
from_any s inv ks moved d keys e =
    let k : (k : Key) × IsOneOf k ks × (is_under s.ops k d ≡ true) = one_of_any s.ops ks d e in
    let n : (n : ℕ) × IsMoved moved n × (numbers s.graph k.0 ≡ Some n) = keys.each k.0 k.1 in
    (n.0, n.1, from_under s inv k.0 n.0 d n.2 k.2)

-- the record of a call that walks below a node that moves
below_moved : (s : State) (moved : Moved) (d : ℕ) → IsWalkingBelowMoved s moved d → (op : Record) × (s.ops d ≡ Some op)
below_moved s moved d (n, one, (op, is, walks, below)) = (op, is)

-- another one below a call's position
abbrev is_deeper : Records → ℕ → ℕ → Bool
is_deeper ops d e = not (eqb d e) && is_under ops (walked_of (ops d)) e

abbrev none_of : (ℕ → Bool) → ℕ → Bool
none_of f zero = not (f 0)
none_of f (suc n) = not (f (suc n)) && none_of f n

not_true : (b : Bool) → not b ≡ true → b ≡ false
not_true true e = cc
not_true false e = refl

none_from : (f : ℕ → Bool) (n : ℕ) → ((c : ℕ) → c ≤ n → f c ≡ false) → none_of f n ≡ true
none_from f zero h = ap not (h 0 (omega arith))
none_from f (suc n) h = both (not (f (suc n))) (none_of f n) (ap not (h (suc n) (omega arith))) (none_from f n (λ c k. h c (omega (arith, k))))

none_to : (f : ℕ → Bool) (n : ℕ) → none_of f n ≡ true → (c : ℕ) → c ≤ n → f c ≡ false
none_to f zero e c h = ap f (let k : c ≡ 0 = omega (arith, h) in k) ∙ not_true (f 0) e
none_to f (suc n) e c h = go (up_to c n h) (none_to f n (parts (not (f (suc n))) (none_of f n) e).1 c)
  where
    go : (c ≡ suc n) ⊎ (c ≤ n) → (c ≤ n → f c ≡ false) → f c ≡ false
    go (inl i) g = ap f i ∙ not_true (f (suc n)) (parts (not (f (suc n))) (none_of f n) e).0
    go (inr i) g = g i

-- a lowest call, by the keys
abbrev is_lowest : Records → List Key → ℕ → ℕ → Bool
is_lowest ops ks n d = is_under_any ops ks d && none_of (is_deeper ops d) n

eqb_false : (d e : ℕ) → (d ≡ e → ⊥) → eqb d e ≡ false
eqb_false d e h = go (eqb d e) refl
  where
    go : (b : Bool) → eqb d e ≡ b → b ≡ false
    go true i = absurd (h (eqb_true d e i))
    go false i = refl

not_false : (d e : ℕ) → not (eqb d e) ≡ true → d ≡ e → ⊥
not_false d e h i = let z : eqb d e ≡ true = ap (eqb d) (sym i) ∙ eqb_refl d in let y : not true ≡ true = sym (ap not z) ∙ h in cc

to_lowest : (s : State) → Run s → (inv : Invariant s) (ks : List Key) (moved : Moved) (d : ℕ) → AreKeys s ks moved → is_lowest s.ops ks (begins s.timeline) d ≡ true → IsLowest s moved d
to_lowest s run inv ks moved d keys e = (below, deepest)
  where
    p : (is_under_any s.ops ks d ≡ true) × (none_of (is_deeper s.ops d) (begins s.timeline) ≡ true)
    p = parts (is_under_any s.ops ks d) (none_of (is_deeper s.ops d) (begins s.timeline)) e

    below : IsWalkingBelowMoved s moved d
    below = from_any s inv ks moved d keys p.0

    deepest : (op : Record) (st : Holdings) (c : ℕ) → s.ops d ≡ Some op → op.holdings ≡ Some st → (d ≡ c → ⊥) → IsWalkingBelow s st.node c → ⊥
    deepest op st c is on differs w =
        let there : numbers s.graph (walked_of (s.ops d)) ≡ Some st.node = at_walked s inv d op st is (walks_here_moved s moved d op below is) on in
        let under : is_under s.ops (walked_of (s.ops d)) c ≡ true = to_under s inv (walked_of (s.ops d)) st.node c there w in
        let yes : is_deeper s.ops d c ≡ true = both (not (eqb d c)) (is_under s.ops (walked_of (s.ops d)) c) (ap not (eqb_false d c differs)) under in
        no_both (is_deeper s.ops d c) yes (none_to (is_deeper s.ops d) (begins s.timeline) p.1 c (begun_before s c w.0 run w.1))

from_lowest : (s : State) (inv : Invariant s) (ks : List Key) (moved : Moved) (d : ℕ) → AreKeys s ks moved → IsLowest s moved d → is_lowest s.ops ks (begins s.timeline) d ≡ true
from_lowest s inv ks moved d keys (w, deepest) = both (is_under_any s.ops ks d) (none_of (is_deeper s.ops d) (begins s.timeline)) (to_any s inv ks moved d keys w) (none_from (is_deeper s.ops d) (begins s.timeline) (λ c h. none c (is_deeper s.ops d c) refl))
  where
    none : (c : ℕ) (b : Bool) → is_deeper s.ops d c ≡ b → b ≡ false
    none c false e = refl
    none c true e =
        let q : (not (eqb d c) ≡ true) × (is_under s.ops (walked_of (s.ops d)) c ≡ true) = parts (not (eqb d c)) (is_under s.ops (walked_of (s.ops d)) c) e in
        let v : Walks s d = walks_below s moved d w in
        let there : numbers s.graph (walked_of (s.ops d)) ≡ Some v.st.node = at_walked s inv d v.op v.st v.is v.walks v.on in
        absurd (deepest v.op v.st c v.is v.on (not_false d c q.0) (from_under s inv (walked_of (s.ops d)) v.st.node c there q.1))

-- who has the longest key is a lowest one
longest_lowest : (s : State) → Run s → (inv : Invariant s) (ks : List Key) (moved : Moved) (d : ℕ) → AreKeys s ks moved → is_under_any s.ops ks d ≡ true → ((c : ℕ) → c ≤ begins s.timeline → is_under_any s.ops ks c ≡ true → length (walked_of (s.ops c)) ≤ length (walked_of (s.ops d))) → IsLowest s moved d
longest_lowest s run inv ks moved d keys under longest = (from_any s inv ks moved d keys under, deepest)
  where
    deepest : (op : Record) (st : Holdings) (c : ℕ) → s.ops d ≡ Some op → op.holdings ≡ Some st → (d ≡ c → ⊥) → IsWalkingBelow s st.node c → ⊥
    deepest op st c is on differs (q, q_is, walks, (other, r, on_q, e)) = go r e same
      where
        was : IsWalkingBelowMoved s moved d
        was = from_any s inv ks moved d keys under

        there : numbers s.graph (walked_of (s.ops d)) ≡ Some st.node
        there = at_walked s inv d op st is (walks_here_moved s moved d op was is) on

        same : walked_of (s.ops c) ≡ walked_of (s.ops d) ++ r
        same = inv.is_graph.one_key (walked_of (s.ops c)) (walked_of (s.ops d) ++ r) other.node (at_walked s inv c q other q_is walks on_q) (at_from s.graph.child 0 st.node (walked_of (s.ops d)) r there ∙ e)

        -- it is below the node too
        deeper : IsWalkingBelowMoved s moved c
        deeper = further was
          where
            further : IsWalkingBelowMoved s moved d → IsWalkingBelowMoved s moved c
            further (n, one, (p, p_is, p_walks, (stood, u, on_p, h))) =
                let a : ◌≡◌ {A = Option Record} (Some p) (Some op) = sym p_is ∙ is in
                let b : p ≡ op = cc in
                let f : ◌≡◌ {A = Option Holdings} (Some stood) (Some st) = sym on_p ∙ ap (λ (o : Record). o.holdings) b ∙ on in
                let g : stood ≡ st = cc in
                (n, one, (q, q_is, walks, (other, u ++ r, on_q, at_from s.graph.child n st.node u r (h ∙ ap (λ (x : Holdings). Some x.node) g) ∙ e)))

        go : (r : Key) → at s.graph.child st.node r ≡ Some other.node → walked_of (s.ops c) ≡ walked_of (s.ops d) ++ r → ⊥
        go [] f i =
            let z : ◌≡◌ {A = Option ℕ} (Some st.node) (Some other.node) = f in
            let y : st.node ≡ other.node = cc in
            (inv.kept.pairs d c op q st other differs is q_is on on_q).apart other.node (inl y) (inl refl)
        go (x ∷ r) f i =
            let a : length (walked_of (s.ops c)) ≤ length (walked_of (s.ops d)) = longest c (begun_before s c q run q_is) (to_any s inv ks moved c keys deeper) in
            let b : length (walked_of (s.ops c)) ≡ length (walked_of (s.ops d)) + length (x ∷ r) = ap length i ∙ length-append (walked_of (s.ops d)) (x ∷ r) in
            omega (arith, a, b)

-- whom to help, by the keys: of the lowest calls below one of them the first
abbrev pub whom : Records → List Key → ℕ → Option ℕ
whom ops ks n = least_of (is_lowest ops ks n) n

-- the choice is right: None where nobody walks below a node that moves
abbrev pub IsRight : State → Moved → Option ℕ → Type 0
IsRight s moved None = NoneBelow s moved
IsRight s moved (Some d) = IsChosen s moved d

pub whom_is : (s : State) → Run s → (ks : List Key) (moved : Moved) → AreKeys s ks moved → IsRight s moved (whom s.ops ks (begins s.timeline))
whom_is s run ks moved keys = go (whom s.ops ks (begins s.timeline)) (least (is_lowest s.ops ks (begins s.timeline)) (begins s.timeline))
  where
    inv : Invariant s
    inv = run_keeps s run

    lowest : (d : ℕ) → IsLowest s moved d → is_lowest s.ops ks (begins s.timeline) d ≡ true
    lowest d l = from_lowest s inv ks moved d keys l

    begun : (d : ℕ) → IsWalkingBelowMoved s moved d → d ≤ begins s.timeline
    begun d w = let o : (op : Record) × (s.ops d ≡ Some op) = below_moved s moved d w in begun_before s d o.0 run o.1

    none : ((c : ℕ) → c ≤ begins s.timeline → is_lowest s.ops ks (begins s.timeline) c ≡ false) → Most (is_under_any s.ops ks) (λ c. length (walked_of (s.ops c))) (begins s.timeline) → NoneBelow s moved
    none h (No_one m) d w = no_both (is_under_any s.ops ks d) (to_any s inv ks moved d keys w) (m d (begun d w))
    none h (One e i m) d w = let l : IsLowest s moved e = longest_lowest s run inv ks moved e keys i m in no_both (is_lowest s.ops ks (begins s.timeline) e) (lowest e l) (h e (begun e l.0))

    go : (o : Option ℕ) → Least (is_lowest s.ops ks (begins s.timeline)) (begins s.timeline) o → IsRight s moved o
    go o (Nobody h) = none h (most (is_under_any s.ops ks) (λ c. length (walked_of (s.ops c))) (begins s.timeline))
    go o (First d i h) = (to_lowest s run inv ks moved d keys i, λ c m. h c (lowest c m))

-- nobody walks below a node that moves, or somebody is chosen
pub chosen_or_none : (s : State) → Run s → (ks : List Key) (moved : Moved) → AreKeys s ks moved → NoneBelow s moved ⊎ ((d : ℕ) × IsChosen s moved d)
chosen_or_none s run ks moved keys = go (whom s.ops ks (begins s.timeline)) (whom_is s run ks moved keys)
  where
    go : (o : Option ℕ) → IsRight s moved o → NoneBelow s moved ⊎ ((d : ℕ) × IsChosen s moved d)
    go None h = inl h
    go (Some d) h = inr (d, h)
