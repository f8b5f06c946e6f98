-- Calls that do not meet commute.
use Rattle.std.proofs.Common.{◌≡◌, Bool, true, false, ◌&&◌, List, [], ◌∷◌, ◌++◌, Some, None, Option, is_some, refl, sym, ap, subst, ◌∙◌, append_assoc, arith}
use Rattle.std.specs.List.{list_any, AllByRecursion}
use Rattle.std.proofs.lemmas.Bool.{or_parts}
use Rattle.fs_names.specs.Names.{Name}
use Rattle.fs_names.specs.Keys.{Key, after_prefix, parent_of}
use Rattle.fs_names.proofs.Lemmas.{after_prefix-exact, after_prefix-append}
use Rattle.fs_names.specs.Limits.{entry_limit}
use Rattle.fs_names.specs.declared.limits.Limits.{Limits}
use Rattle.fs_calls.specs.Tree.{Tree, look, IsTree}
use Rattle.fs_calls.specs.Sights.{tree_shapes, is_full, is_same}
use Rattle.fs_calls.specs.Forms.{Form, form}
use Rattle.fs_calls.specs.Outcomes.{reply, after, reply_of, replied}
use Rattle.fs_calls.specs.declared.call.Call.{Call}
use Rattle.fs_calls.specs.declared.call.Call.TheVariants.{Mkdir, Mknod, Unlink, Rmdir, Rename, Exchange, Stat, Readdir, ListAfter, Read, Write, Truncate}
use Rattle.fs_calls.proofs.FormLemmas.{LimitedTo, form_limited}
use Rattle.fs_calls.proofs.KeyLemmas.{parent_of_child, after_prefix-child, only_same, is_same_exact, longer_front}
use Rattle.fs_calls.proofs.TreeLaws.{stays_a_tree, same_trees}
use Rattle.fs_linearize_histories.specs.Meeting.{paths_in, paths_of, paths_meet, calls_meet, HasRoom, ApartCallsCommute}
use Rattle.fs_linearize_histories.proofs.HistoryLemmas.{none_from}
use Rattle.fs_linearize_histories.proofs.ReadingLemmas.{AgreesAt, parent_front, shapes_agree, reply_agrees}
use Rattle.fs_linearize_histories.proofs.ChangingLemmas.{fault_of, after_of, after_is, reply_is, elsewhere, fault_agrees, AlikeBelow, within}
use Rattle.fs_linearize_histories.proofs.CountingLemmas.{after_adds, never_full}

-- ---- paths that do not meet

-- neither path is the other or a prefix of it, and where siblings meet they have other parents
record Apart (siblings : Bool) (p q : Key) : Type 0 where
  pub there : after_prefix p q ≡ None
  pub back : after_prefix q p ≡ None
  pub parents : siblings ≡ true → is_same (parent_of p) (parent_of q) ≡ false

parents_differ : (siblings same : Bool) → (siblings && same) ≡ false → siblings ≡ true → same ≡ false
parents_differ true same h e = h
parents_differ false same h e = absurd (cc)

apart : (siblings : Bool) (p q : Key) → paths_meet siblings p q ≡ false → Apart siblings p q
apart siblings p q h =
    let one = or_parts (is_some (after_prefix p q)) _ h in
    let other = or_parts (is_some (after_prefix q p)) _ one.1 in
    record {
      there = none_from (after_prefix p q) one.0;
      back = none_from (after_prefix q p) other.0;
      parents = parents_differ siblings (is_same (parent_of p) (parent_of q)) other.1;
    }

none_pass : {A : Type 0} (test : A → Bool) (xs : List A) → list_any test xs ≡ false → AllByRecursion (λ x. test x ≡ false) xs
none_pass test [] h = tt
none_pass test (x ∷ xs) h = let both = or_parts (test x) (list_any test xs) h in (both.0, none_pass test xs both.1)

all_mapped : {A : Type 0} (P Q : A → Type 0) (xs : List A) → ((x : A) → P x → Q x) → AllByRecursion P xs → AllByRecursion Q xs
all_mapped P Q [] f h = tt
all_mapped P Q (x ∷ xs) f h = (f x h.0, all_mapped P Q xs f h.1)

-- of two lists of paths, none of the one meets one of the other
abbrev AllApart : Bool → List Key → List Key → Type 0
AllApart siblings ps qs = AllByRecursion (λ p. AllByRecursion (Apart siblings p) qs) ps

all_apart : (siblings : Bool) (ps qs : List Key) → list_any (λ p. list_any (paths_meet siblings p) qs) ps ≡ false → AllApart siblings ps qs
all_apart siblings ps qs h =
    all_mapped (λ p. list_any (paths_meet siblings p) qs ≡ false) (λ p. AllByRecursion (Apart siblings p) qs) ps
    (λ p none. all_mapped (λ q. paths_meet siblings p q ≡ false) (Apart siblings p) qs (λ q. apart siblings p q) (none_pass (paths_meet siblings p) qs none))
    (none_pass (λ p. list_any (paths_meet siblings p) qs) ps h)

same_turned : (p q : Key) → is_same p q ≡ false → is_same q p ≡ false
same_turned p q h = never_same_back (is_same q p) refl
  where
    never_same_back : (b : Bool) → is_same q p ≡ b → b ≡ false
    never_same_back true e = absurd (only_same p q h (sym (is_same_exact q p e)))
    never_same_back false e = refl

turned : (siblings : Bool) (p q : Key) → Apart siblings p q → Apart siblings q p
turned siblings p q a = record { there = a.back; back = a.there; parents = λ e. same_turned (parent_of p) (parent_of q) (a.parents e) }

nothing_apart : (siblings : Bool) (qs : List Key) → AllApart siblings qs []
nothing_apart siblings [] = tt
nothing_apart siblings (q ∷ qs) = (tt, nothing_apart siblings qs)

one_more_apart : (siblings : Bool) (p : Key) (ps qs : List Key) → AllByRecursion (Apart siblings p) qs → AllApart siblings qs ps → AllApart siblings qs (p ∷ ps)
one_more_apart siblings p ps [] a more = tt
one_more_apart siblings p ps (q ∷ qs) a more = ((turned siblings p q a.0, more.0), one_more_apart siblings p ps qs a.1 more.1)

all_turned : (siblings : Bool) (ps qs : List Key) → AllApart siblings ps qs → AllApart siblings qs ps
all_turned siblings [] qs a = nothing_apart siblings qs
all_turned siblings (p ∷ ps) qs a = one_more_apart siblings p ps qs a.0 (all_turned siblings ps qs a.1)

-- ---- what a call leaves is as another call reads it

-- nothing above a path, and nothing below it, is below one that it does not meet
not_above : (siblings : Bool) (p q k r : Key) → Apart siblings p q → q ≡ k ++ r → after_prefix p k ≡ None
not_above siblings p q k r a e = by_case (after_prefix p k) refl
  where
    by_case : (o : Option Key) → after_prefix p k ≡ o → o ≡ None
    by_case None is = refl
    by_case (Some s) is =
        let whole : q ≡ p ++ (s ++ r) = e ∙ ap (λ d. d ++ r) (after_prefix-exact p k s is) ∙ append_assoc p s r in
        let some : after_prefix p q ≡ Some (s ++ r) = ap (after_prefix p) whole ∙ after_prefix-append p (s ++ r) in
        let none = a.there in
        absurd (cc)

not_below : (siblings : Bool) (p q r : Key) → Apart siblings p q → after_prefix p (q ++ r) ≡ None
not_below siblings p q r a = by_case (after_prefix p (q ++ r)) refl
  where
    by_case : (o : Option Key) → after_prefix p (q ++ r) ≡ o → o ≡ None
    by_case None is = refl
    by_case (Some s) is =
        let longer = longer_front q p r s (after_prefix-exact p (q ++ r) s is) a.back in
        let some : after_prefix p q ≡ Some (longer.0 ∷ longer.1) = ap (after_prefix p) longer.2 ∙ after_prefix-append p (longer.0 ∷ longer.1) in
        let none = a.there in
        absurd (cc)

-- nor is an entry of the parent, where siblings meet
not_beside : (p q : Key) (x : Name) → Apart true p q → after_prefix p (parent_of q ++ x ∷ []) ≡ None
not_beside p q x a =
    let front = parent_front q in
    after_prefix-child p (parent_of q) x (λ e. only_same (parent_of p) (parent_of q) (a.parents refl) (parent_of_child p (parent_of q) x e)) (not_above true p q (parent_of q) front.0 a front.1)

-- what stands at a key that is below no path of a call stays
kept : (limits : Limits) (t : Tree) (f : Form) (k : Key) (P : Key → Type 0) → LimitedTo limits f → IsTree t → ((p : Key) → P p → after_prefix p k ≡ None) → AllByRecursion P (paths_in f) → look (after_of t f) k ≡ look t k
kept limits t f k P has is none all = elsewhere limits t f k has is (all_mapped P (λ p. after_prefix p k ≡ None) (paths_in f) none all)

full_still : (limits : Limits) (siblings : Bool) (t : Tree) (f : Form) (q : Key) → LimitedTo limits f → IsTree t → IsTree (after_of t f) → (siblings ≡ false → HasRoom limits 2 t) → AllByRecursion (λ p. Apart siblings p q) (paths_in f)
    → is_full (entry_limit limits) (tree_shapes (after_of t f) (parent_of q)) ≡ is_full (entry_limit limits) (tree_shapes t (parent_of q))
full_still limits true t f q has is new room all =
    let front = parent_front q in
    ap (is_full (entry_limit limits)) (shapes_agree (after_of t f) t (parent_of q) new is
    (kept limits t f (parent_of q) (λ p. Apart true p q) has is (λ p a. not_above true p q (parent_of q) front.0 a front.1) all)
    (λ x. kept limits t f (parent_of q ++ x ∷ []) (λ p. Apart true p q) has is (λ p a. not_beside p q x a) all))
full_still limits false t f q has is new room all =
    let few = room refl in
    let more = after_adds t f is in
    never_full (entry_limit limits) (after_of t f) (parent_of q) (omega (arith, few, more)) ∙ sym (never_full (entry_limit limits) t (parent_of q) (omega (arith, few)))

agrees_at : (limits : Limits) (siblings : Bool) (t : Tree) (f : Form) (q : Key) → LimitedTo limits f → IsTree t → IsTree (after_of t f) → (siblings ≡ false → HasRoom limits 2 t) → AllByRecursion (λ p. Apart siblings p q) (paths_in f) → AgreesAt limits (after_of t f) t q
agrees_at limits siblings t f q has is new room all = record {
  above = λ k r e. kept limits t f k (λ p. Apart siblings p q) has is (λ p a. not_above siblings p q k r a e) all;
  below = λ r. kept limits t f (q ++ r) (λ p. Apart siblings p q) has is (λ p a. not_below siblings p q r a) all;
  full = full_still limits siblings t f q has is new room all;
}

agrees_all : (limits : Limits) (siblings : Bool) (t : Tree) (f : Form) (qs : List Key) → LimitedTo limits f → IsTree t → IsTree (after_of t f) → (siblings ≡ false → HasRoom limits 2 t) → AllApart siblings qs (paths_in f) → AllByRecursion (AgreesAt limits (after_of t f) t) qs
agrees_all limits siblings t f qs has is new room all =
    all_mapped (λ q. AllByRecursion (Apart siblings q) (paths_in f)) (AgreesAt limits (after_of t f) t) qs
    (λ q a. agrees_at limits siblings t f q has is new room (all_mapped (Apart siblings q) (λ p. Apart siblings p q) (paths_in f) (λ p b. turned siblings q p b) a)) all

-- ---- both orders

-- a key is below a path, or below none
by_paths : (Q : Key → Type 0) (k : Key) (ps : List Key) → AllByRecursion (λ p. (r : Key) → Q (p ++ r)) ps → (AllByRecursion (λ p. after_prefix p k ≡ None) ps → Q k) → Q k
by_paths Q k [] below other = other tt
by_paths Q k (p ∷ ps) below other = by_case (λ none. by_paths Q k ps below.1 (λ rest. other (none, rest))) (after_prefix p k) refl
  where
    by_case : (after_prefix p k ≡ None → Q k) → (o : Option Key) → after_prefix p k ≡ o → Q k
    by_case later None e = later e
    by_case later (Some r) e = subst Q (sym (after_prefix-exact p k r e)) (below.0 r)

-- below the paths of the second call stands what it leaves alone
second_leaves : (limits : Limits) (siblings : Bool) (tb : Tree) (f : Form) (q r : Key) → LimitedTo limits f → IsTree tb → AllByRecursion (λ p. Apart siblings p q) (paths_in f) → look (after_of tb f) (q ++ r) ≡ look tb (q ++ r)
second_leaves limits siblings tb f q r has is all = kept limits tb f (q ++ r) (λ p. Apart siblings p q) has is (λ p a. not_below siblings p q r a) all

alike_through : (limits : Limits) (siblings : Bool) (s tb : Tree) (f : Form) (qs : List Key) → LimitedTo limits f → IsTree tb → AllApart siblings qs (paths_in f) → AlikeBelow s tb qs → AllByRecursion (λ q. (r : Key) → look s (q ++ r) ≡ look (after_of tb f) (q ++ r)) qs
alike_through limits siblings s tb f [] has is all alike = tt
alike_through limits siblings s tb f (q ∷ qs) has is all alike = (
  λ r. alike.0 r ∙ sym (second_leaves limits siblings tb f q r has is (all_mapped (Apart siblings q) (λ p. Apart siblings p q) (paths_in f) (λ p b. turned siblings q p b) all.0)),
  alike_through limits siblings s tb f qs has is all.1 alike.1,
)

same_either_order : (limits : Limits) (siblings : Bool) (t : Tree) (f g : Form) → LimitedTo limits f → LimitedTo limits g → IsTree t → IsTree (after_of t f) → IsTree (after_of t g) → (siblings ≡ false → HasRoom limits 2 t) → AllApart siblings (paths_in f) (paths_in g)
    → (k : Key) → look (after_of (after_of t f) g) k ≡ look (after_of (after_of t g) f) k
same_either_order limits siblings t f g has its is one other room all k =
    let ta = after_of t f in
    let tb = after_of t g in
    let back = all_turned siblings (paths_in f) (paths_in g) all in
    let of_g = within limits ta t g its one is (agrees_all limits siblings t f (paths_in g) has is one room back) in
    let of_f = within limits tb t f has other is (agrees_all limits siblings t g (paths_in f) its is other room all) in
    by_paths (λ z. look (after_of ta g) z ≡ look (after_of tb f) z) k (paths_in g) (alike_through limits siblings (after_of ta g) tb f (paths_in g) has other back of_g)
    (λ not_g. elsewhere limits ta g k its one not_g
    ∙ by_paths (λ z. look ta z ≡ look (after_of tb f) z) k (paths_in f) (alike_turned (after_of tb f) ta (paths_in f) of_f)
    (λ not_f. elsewhere limits t f k has is not_f ∙ sym (elsewhere limits t g k its is not_g) ∙ sym (elsewhere limits tb f k has other not_f)))
  where
    alike_turned : (u v : Tree) (ps : List Key) → AlikeBelow u v ps → AllByRecursion (λ p. (r : Key) → look v (p ++ r) ≡ look u (p ++ r)) ps
    alike_turned u v [] h = tt
    alike_turned u v (p ∷ ps) h = (λ r. sym (h.0 r), alike_turned u v ps h.1)

replied_alike : (limits : Limits) (s t : Tree) (g : Form) → LimitedTo limits g → IsTree s → IsTree t → AllByRecursion (AgreesAt limits s t) (paths_in g) → replied (fault_of s g) (reply_of s g) ≡ replied (fault_of t g) (reply_of t g)
replied_alike limits s t g its one other a = λ i. replied (fault_agrees limits s t g its one other a i) (reply_agrees limits s t g one other a i)

-- ---- calls

paths_any : (limits : Limits) (call : Call) → paths_of call ≡ paths_in (form limits call)
paths_any limits (Mkdir p) = refl
paths_any limits (Mknod p) = refl
paths_any limits (Unlink p) = refl
paths_any limits (Rmdir p) = refl
paths_any limits (Rename p q) = refl
paths_any limits (Exchange p q) = refl
paths_any limits (Stat p) = refl
paths_any limits (Readdir p) = refl
paths_any limits (ListAfter count p after) = refl
paths_any limits (Read p off count) = refl
paths_any limits (Write p off bytes) = refl
paths_any limits (Truncate p size) = refl

calls_apart : (limits : Limits) (siblings : Bool) (a b : Call) → calls_meet siblings a b ≡ false → AllApart siblings (paths_in (form limits a)) (paths_in (form limits b))
calls_apart limits siblings a b h =
    subst (λ ps. AllApart siblings ps (paths_in (form limits b))) (paths_any limits a) (subst (λ qs. AllApart siblings (paths_of a) qs) (paths_any limits b) (all_apart siblings (paths_of a) (paths_of b) h))

-- the reply behind another call
told : (limits : Limits) (t : Tree) (siblings : Bool) (a b : Call) → IsTree t → IsTree (after_of t (form limits a)) → (siblings ≡ false → HasRoom limits 2 t) → AllApart siblings (paths_in (form limits b)) (paths_in (form limits a))
    → reply limits (after limits t a) b ≡ reply limits t b
told limits t siblings a b is new room all =
    ap (λ u. reply limits u b) (after_is limits t a)
    ∙ reply_is limits (after_of t (form limits a)) b
    ∙ replied_alike limits (after_of t (form limits a)) t (form limits b) (form_limited limits b) new is (agrees_all limits siblings t (form limits a) (paths_in (form limits b)) (form_limited limits a) is new room all)
    ∙ sym (reply_is limits t b)

pub apart_calls_commute : ApartCallsCommute
apart_calls_commute limits t siblings a b is apart room =
    let f = form limits a in
    let g = form limits b in
    let all = calls_apart limits siblings a b apart in
    let back = all_turned siblings (paths_in f) (paths_in g) all in
    let one : IsTree (after_of t f) = subst IsTree (after_is limits t a) (stays_a_tree limits t a is) in
    let other : IsTree (after_of t g) = subst IsTree (after_is limits t b) (stays_a_tree limits t b is) in
    let there : after limits (after limits t a) b ≡ after_of (after_of t f) g = ap (λ u. after limits u b) (after_is limits t a) ∙ after_is limits (after_of t f) b in
    let here : after limits (after limits t b) a ≡ after_of (after_of t g) f = ap (λ u. after limits u a) (after_is limits t b) ∙ after_is limits (after_of t g) a in
    let both = same_trees (after_of (after_of t f) g) (after_of (after_of t g) f)
    (subst IsTree (after_is limits (after_of t f) b) (stays_a_tree limits (after_of t f) b one))
    (subst IsTree (after_is limits (after_of t g) a) (stays_a_tree limits (after_of t g) a other))
    (same_either_order limits siblings t f g (form_limited limits a) (form_limited limits b) is one other room all) in
    record {
      first = told limits t siblings b a is other room all;
      second = told limits t siblings a b is one room back;
      tree = there ∙ both ∙ sym here;
    }
