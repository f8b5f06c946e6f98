-- A finish keeps each number in use, its kind, and the limits of directories and files.
use Rattle.std.proofs.Common.{◌≡◌, ℕ, ◌+◌, ◌<◌, ◌≤◌, Bool, true, false, not, ◌||◌, List, [], ◌∷◌, ◌++◌, length, Option, Some, None, refl, sym, ap, ap₂, ◌∙◌, append-nil, subst, ◌⊎◌, inl, inr, arith}
use Rattle.std.specs.Prelude.{nat_lt, nat_le}
use Rattle.std.proofs.lemmas.Bool.Decides.{nat_tests}
use Rattle.fs_names.specs.Keys.{Key, after_prefix, parent_of, last_of, has_more, is_end}
use Rattle.fs_names.specs.Failures.{check, first_failure}
use Rattle.fs_names.specs.Names.{Name, inserted_name, removed_name, has_name}
use Rattle.fs_names.specs.Parts.{common, left}
use Rattle.fs_names.specs.Shapes.{Shape, Dir, File, names_of, is_full}
use Rattle.fs_names.specs.Limits.{entry_limit, file_limit}
use Rattle.fs_names.specs.declared.limits.Limits.{Limits}
use Rattle.fs_calls.specs.Forms.{NodeCall, Stat, Readdir, ListAfter, Read, Write, Truncate, Form, AtNode, AtEntry, AtPair, by_paths, EntryCall, Mkdir, Mknod, Unlink, Rmdir}
use Rattle.fs_calls.specs.Forms as pairs
use Rattle.fs_calls.specs.Rows.{answered, node_row, Edit, Keep, Add, Remove, entry_row, written, resized}
use Rattle.fs_laws.proofs.finish.RowParts.{made, entry_row_in_dir, to_row}
use Rattle.fs_calls.proofs.RowNames.{on_dir}
use Rattle.fs_calls.specs.declared.errno.Errno.{Errno}
use Rattle.fs_calls.specs.declared.errno.Errno.TheVariants.{Efbig}
use Rattle.fs_calls.specs.declared.reply.Reply.{Reply}
use Rattle.fs_calls.specs.declared.reply.Reply.TheVariants.{Done, Wrote}
use Rattle.fs_calls.proofs.FormLemmas.{HasLimit, EntryHasLimit, LimitedTo, form_limited, under_limited}
use Rattle.fs_calls.specs.Graphs.{Graph, set_at, entry_shape, IsGraph, at}
use Rattle.fs_machine.specs.Finishes.{node_effect, entry_effect, move_effect, rename_effect, effect_at, effect_of, finish, swap_effect, exchange_effect}
use Rattle.fs_machine.specs.Moves.{dir_error, path_error, there_by, rename_at, target, exchange_at}
use Rattle.fs_machine.specs.Records.{Record, Holdings, Source, Dest}
use Rattle.fs_laws.specs.Invariants.{Forked, ForkedAt, HeadsSound, Own}
use Rattle.fs_laws.proofs.trees.Prefixes.{prefix_some, same_refl}
use Rattle.fs_laws.proofs.events.OneCallChanged.{Place, Here, Else, place}
use Rattle.fs_laws.proofs.finish.Replies.{some_entry}
use Rattle.fs_laws.proofs.finish.TreeAfter.{Really, really, full_row}
use Rattle.fs_laws.proofs.finish.Readings.{dir_of_none}
use Rattle.fs_laws.proofs.finish.Kinds.{Ordered, ordered_with, ordered_without, fewer_without, one_fewer, one_more, no_more, length_written, length_resized}

-- what is left of a call has the limit with which it began
pub own_limited : (limits : Limits) (graph : Graph) (op : Record) → Own limits graph op → LimitedTo limits op.remaining
own_limited limits graph op own = under_limited limits op.walked op.remaining (subst (LimitedTo limits) (sym own.parts) (form_limited limits op.call))

-- a directory's names are in order and within their limit, and so are the bytes of a file
abbrev pub Within : Limits → Shape → Type 0
Within limits (Dir names) = Ordered names × (length names ≤ entry_limit limits)
Within limits (File bytes) = length bytes ≤ file_limit limits

abbrev pub AllWithin : Limits → (ℕ → Option Shape) → Type 0
AllWithin limits f = (n : ℕ) (s : Shape) → f n ≡ Some s → Within limits s

-- of one kind
abbrev pub SameKind : Shape → Shape → Type 0
SameKind (Dir a) (Dir b) = Unit {0}
SameKind (File a) (File b) = Unit {0}
SameKind _ _ = ⊥

-- the same numbers in use, each with its kind, and within the limits
pub record Resizes (limits : Limits) (old new : ℕ → Option Shape) : Type 0 where
  pub to_new : (n : ℕ) (s : Shape) → old n ≡ Some s → (t : Shape) × (new n ≡ Some t) × SameKind s t
  pub to_old : (n : ℕ) (t : Shape) → new n ≡ Some t → (s : Shape) × (old n ≡ Some s)
  pub within : AllWithin limits new

kind_refl : (s : Shape) → SameKind s s
kind_refl (Dir names) = tt
kind_refl (File bytes) = tt

kind_then : (s t u : Shape) → SameKind s t → SameKind t u → SameKind s u
kind_then (Dir a) (Dir b) (Dir c) h g = tt
kind_then (File a) (File b) (File c) h g = tt
kind_then (Dir a) (Dir b) (File c) h g = absurd g
kind_then (File a) (File b) (Dir c) h g = absurd g
kind_then (Dir a) (File b) u h g = absurd h
kind_then (File a) (Dir b) u h g = absurd h

pub resizes_same : (limits : Limits) (f : ℕ → Option Shape) → AllWithin limits f → Resizes limits f f
resizes_same limits f w = record { to_new = λ n s e. (s, e, kind_refl s); to_old = λ n s e. (s, e); within = w }

pub resizes_set : (limits : Limits) (f : ℕ → Option Shape) (n : ℕ) (s v : Shape) → AllWithin limits f → f n ≡ Some s → SameKind s v → Within limits v → Resizes limits f (set_at n (Some v) f)
resizes_set limits f n s v w was kind fits = record {
  to_new = λ m t e. new m t e (place n (Some v) f m);
  to_old = λ m t e. old m t e (place n (Some v) f m);
  within = λ m t e. within m t e (place n (Some v) f m);
}
  where
    new : (m : ℕ) (t : Shape) → f m ≡ Some t → Place (Option Shape) n (Some v) f m → (u : Shape) × (set_at n (Some v) f m ≡ Some u) × SameKind t u
    new m t e (Here i j) =
        let z : ◌≡◌ {A = Option Shape} (Some s) (Some t) = sym was ∙ ap f (sym i) ∙ e in
        (v, j, subst (λ (x : Shape). SameKind x v) (let y : s ≡ t = cc in y) kind)
    new m t e (Else h j) = (t, j ∙ e, kind_refl t)

    old : (m : ℕ) (t : Shape) → set_at n (Some v) f m ≡ Some t → Place (Option Shape) n (Some v) f m → (u : Shape) × (f m ≡ Some u)
    old m t e (Here i j) = (s, ap f i ∙ was)
    old m t e (Else h j) = (t, sym j ∙ e)

    within : (m : ℕ) (t : Shape) → set_at n (Some v) f m ≡ Some t → Place (Option Shape) n (Some v) f m → Within limits t
    within m t e (Here i j) = let z : ◌≡◌ {A = Option Shape} (Some v) (Some t) = sym j ∙ e in subst (Within limits) (let y : v ≡ t = cc in y) fits
    within m t e (Else h j) = w m t (sym j ∙ e)

pub resizes_then : (limits : Limits) (f g h : ℕ → Option Shape) → Resizes limits f g → Resizes limits g h → Resizes limits f h
resizes_then limits f g h a b = record {
  to_new = λ n s e. (
      let t : (t : Shape) × (g n ≡ Some t) × SameKind s t = a.to_new n s e in
      let u : (u : Shape) × (h n ≡ Some u) × SameKind t.0 u = b.to_new n t.0 t.1 in
      (u.0, u.1, kind_then s t.0 u.0 t.2 u.2));
  to_old = λ n s e. (let t : (t : Shape) × (g n ≡ Some t) = b.to_old n s e in a.to_old n t.0 t.1);
  within = b.within;
}

-- a call on a node
on_resizes : (limits : Limits) (graph : Graph) → AllWithin limits graph.shape → (n : ℕ) (c : NodeCall) → HasLimit limits c → (e : Option Errno) (reserved : Option ℕ) (s : Option Shape) → graph.shape n ≡ s → Resizes limits graph.shape (node_effect graph n reserved (node_row c e s)).graph.shape
on_resizes limits graph w n c l (Some e) reserved s i = resizes_same limits graph.shape w
on_resizes limits graph w n c l None reserved None i = resizes_same limits graph.shape w
on_resizes limits graph w n c l None reserved (Some (Dir names)) i =
    subst (λ (o : Option (List ℕ)). Resizes limits graph.shape (node_effect graph n reserved ((node_row c None (Some (Dir names))).0, o)).graph.shape) (sym (on_dir c names)) (resizes_same limits graph.shape w)
on_resizes limits graph w n Stat l None reserved (Some (File bytes)) i = resizes_same limits graph.shape w
on_resizes limits graph w n Readdir l None reserved (Some (File bytes)) i = resizes_same limits graph.shape w
on_resizes limits graph w n (ListAfter after count) l None reserved (Some (File bytes)) i = resizes_same limits graph.shape w
on_resizes limits graph w n (Read m off count) l None reserved (Some (File bytes)) i = resizes_same limits graph.shape w
on_resizes limits graph w n (Write m off []) l None reserved (Some (File bytes)) i = resizes_same limits graph.shape w
on_resizes limits graph w n (Write m off (b ∷ new)) l None reserved (Some (File bytes)) i = go (nat_lt m (off + length (b ∷ new))) refl
  where
    go : (c : Bool) → nat_lt m (off + length (b ∷ new)) ≡ c → Resizes limits graph.shape (node_effect graph n reserved (answered (first_failure (check c Efbig ∷ [])) None (Wrote (length (b ∷ new))) (Some (written bytes off (b ∷ new))))).graph.shape
    go true e = resizes_same limits graph.shape w
    go false e = resizes_set limits graph.shape n (File bytes) (File (written bytes off (b ∷ new))) w i tt (length_written (file_limit limits) bytes off (b ∷ new) (w n (File bytes) i) (subst (λ (k : ℕ). off + length (b ∷ new) ≤ k) l (grind (arith, nat_tests))))
on_resizes limits graph w n (Truncate m size) l None reserved (Some (File bytes)) i = go (nat_lt m size) refl
  where
    go : (c : Bool) → nat_lt m size ≡ c → Resizes limits graph.shape (node_effect graph n reserved (answered (first_failure (check c Efbig ∷ [])) None Done (Some (resized bytes size)))).graph.shape
    go true e = resizes_same limits graph.shape w
    go false e = resizes_set limits graph.shape n (File bytes) (File (resized bytes size)) w i tt (length_resized (file_limit limits) bytes size (w n (File bytes) i) (subst (λ (k : ℕ). size ≤ k) l (grind (arith, nat_tests))))

-- a directory with a name more, or less
with_fits : (limits : Limits) (x : Name) (names : List Name) → Within limits (Dir names) → length names < entry_limit limits → Within limits (Dir (inserted_name x names))
with_fits limits x names w room = (ordered_with x names w.0, (let m : length (inserted_name x names) ≤ length names + 1 = one_more x names in omega (arith, m, room)))

without_fits : (limits : Limits) (x : Name) (names : List Name) → Within limits (Dir names) → Within limits (Dir (removed_name x names))
without_fits limits x names w = (ordered_without x names w.0, (let m : length (removed_name x names) ≤ length names = fewer_without x names in let k : length names ≤ entry_limit limits = w.1 in omega (arith, m, k)))

names_are : (graph : Graph) (n : ℕ) (names : List Name) → graph.shape n ≡ Some (Dir names) → names_of (graph.shape n) ≡ names
names_are graph n names e = ap names_of e

-- a call on an entry
edit_resizes : (limits : Limits) (graph : Graph) → AllWithin limits graph.shape → (n : ℕ) (x : Name) (names : List Name) → graph.shape n ≡ Some (Dir names) → (reserved : Option ℕ) (row : Reply × Edit) → ((s : Shape) → row.1 ≡ Add s → length names < entry_limit limits) → Resizes limits graph.shape (entry_effect graph n x reserved row).graph.shape
edit_resizes limits graph w n x names i reserved (r, Keep) room = resizes_same limits graph.shape w
edit_resizes limits graph w n x names i None (r, Add shape) room = resizes_same limits graph.shape w
edit_resizes limits graph w n x names i (Some m) (r, Add shape) room = resizes_set limits graph.shape n (Dir names) (Dir (inserted_name x (names_of (graph.shape n)))) w i tt (subst (λ (l : List Name). Within limits (Dir (inserted_name x l))) (sym (names_are graph n names i)) (with_fits limits x names (w n (Dir names) i) (room shape refl)))
edit_resizes limits graph w n x names i None (r, Remove) room = resizes_set limits graph.shape n (Dir names) (Dir (removed_name x (names_of (graph.shape n)))) w i tt (subst (λ (l : List Name). Within limits (Dir (removed_name x l))) (sym (names_are graph n names i)) (without_fits limits x names (w n (Dir names) i)))
edit_resizes limits graph w n x names i (Some m) (r, Remove) room = resizes_set limits graph.shape n (Dir names) (Dir (removed_name x (names_of (graph.shape n)))) w i tt (subst (λ (l : List Name). Within limits (Dir (removed_name x l))) (sym (names_are graph n names i)) (without_fits limits x names (w n (Dir names) i)))

-- a node is added where there is room
made_room : (new : Shape) (full : Bool) (there : Option Shape) (s : Shape) → (made new full there).1 ≡ Add s → full ≡ false
made_room new full (Some t) s e = cc
made_room new true None s e = cc
made_room new false None s e = refl

add_room : (limits : Limits) (c : EntryCall) → EntryHasLimit limits c → (parent there : Option Shape) (s : Shape) → (entry_row_in_dir c parent there).1 ≡ Add s → is_full (entry_limit limits) parent ≡ false
add_room limits (Mkdir most) has parent there s e = subst (λ (m : ℕ). is_full m parent ≡ false) has (made_room (Dir []) (is_full most parent) there s e)
add_room limits (Mknod most) has parent there s e = subst (λ (m : ℕ). is_full m parent ≡ false) has (made_room (File []) (is_full most parent) there s e)
add_room limits Unlink has parent None s e = cc
add_room limits Unlink has parent (Some (Dir names)) s e = cc
add_room limits Unlink has parent (Some (File bytes)) s e = cc
add_room limits Rmdir has parent None s e = cc
add_room limits Rmdir has parent (Some (File bytes)) s e = cc
add_room limits Rmdir has parent (Some (Dir [])) s e = cc
add_room limits Rmdir has parent (Some (Dir (x ∷ names))) s e = cc

has_room : (most n : ℕ) → nat_le most n ≡ false → n < most
has_room most n e = grind (arith, nat_tests)

in_resizes : (limits : Limits) (graph : Graph) → AllWithin limits graph.shape → (n : ℕ) (c : EntryCall) → EntryHasLimit limits c → (x : Name) (reserved : Option ℕ) (there : Option Shape) (e : Option Errno) → (e ≡ None → (names : List Name) × (graph.shape n ≡ Some (Dir names))) → Resizes limits graph.shape (entry_effect graph n x reserved (entry_row c e (graph.shape n) there)).graph.shape
in_resizes limits graph w n c has x reserved there (Some e) dir = resizes_same limits graph.shape w
in_resizes limits graph w n c has x reserved there None dir =
    let d : (names : List Name) × (graph.shape n ≡ Some (Dir names)) = dir refl in
    edit_resizes limits graph w n x d.0 d.1 reserved (entry_row_in_dir c (graph.shape n) there) (λ s e. has_room (entry_limit limits) (length d.0) (ap (is_full (entry_limit limits)) (sym d.1) ∙ add_room limits c has (graph.shape n) there s e))

-- paths with one parent: a rename that stands at its common directory has walked nothing of them
end_is : (a b : Key) → is_end (after_prefix a b) ≡ true → a ≡ b
end_is a b e = go (after_prefix a b) refl e
  where
    go : (o : Option Key) → after_prefix a b ≡ o → is_end o ≡ true → a ≡ b
    go None i h = cc
    go (Some []) i h = sym (prefix_some a b [] i ∙ append-nil a)
    go (Some (x ∷ r)) i h = cc

common_self : (a : Key) → common a a ≡ a
common_self [] = refl
common_self (x ∷ a) = rw (same_refl x) (ap (λ (k : Key). x ∷ k) (common_self a))

nil_front : (a b : Key) → [] ≡ a ++ b → a ≡ []
nil_front [] b e = refl
nil_front (x ∷ a) b e = cc

one_parent : (graph : Graph) (most : ℕ) (p q : Key) (st : Holdings) → Forked graph st.node p q st → target (AtPair (pairs.Rename most) p q) ≡ [] → is_end (after_prefix (parent_of p) (parent_of q)) ≡ true → st.source.node ≡ st.dest.node
one_parent graph most p q st f way same =
    let e : parent_of p ≡ parent_of q = end_is (parent_of p) (parent_of q) same in
    let a : parent_of p ≡ [] = sym (common_self (parent_of p)) ∙ ap (common (parent_of p)) e ∙ way in
    let b : st.source.walked ≡ [] = nil_front st.source.walked (left st.source.walked (parent_of p)) (sym a ∙ (f.path Source)) in
    let c : st.dest.walked ≡ [] = nil_front st.dest.walked (left st.dest.walked (parent_of q)) (sym (sym e ∙ a) ∙ (f.path Dest)) in
    let s : ◌≡◌ {A = Option ℕ} (Some st.node) (Some st.source.node) = sym (ap (λ (k : Key). at graph.child st.node k) b) ∙ f.stands Source in
    let d : ◌≡◌ {A = Option ℕ} (Some st.node) (Some st.dest.node) = sym (ap (λ (k : Key). at graph.child st.node k) c) ∙ f.stands Dest in
    let t : st.node ≡ st.source.node = cc in
    let u : st.node ≡ st.dest.node = cc in
    sym t ∙ u

-- the new entry of a rename has room: in its own directory, in one that is not full, or in place of another
abbrev Room : Limits → Graph → Holdings → List Name → Name → Type 0
Room limits graph st names y = (st.source.node ≡ st.dest.node) ⊎ (length names < entry_limit limits) ⊎ (has_name y names ≡ true)

moved_resizes : (limits : Limits) (graph : Graph) → AllWithin limits graph.shape → (st : Holdings) (x y : Name) (reserved : Option ℕ) (r : Reply) (m : ℕ) (from to : List Name) → graph.shape st.source.node ≡ Some (Dir from) → graph.shape st.dest.node ≡ Some (Dir to) → has_name x from ≡ true → Room limits graph st to y
    → Resizes limits graph.shape (move_effect graph st x y reserved r true (Some m)).graph.shape
moved_resizes limits graph w st x y reserved r m from to f t had room = resizes_then limits graph.shape mid (set_at st.dest.node (Some (Dir (inserted_name y (names_of (mid st.dest.node))))) mid) first_failure (second (place st.source.node (Some (Dir (removed_name x (names_of (graph.shape st.source.node))))) graph.shape st.dest.node))
  where
    mid : ℕ → Option Shape
    mid = set_at st.source.node (Some (Dir (removed_name x (names_of (graph.shape st.source.node))))) graph.shape

    from_fits : Within limits (Dir from)
    from_fits = w st.source.node (Dir from) f

    to_fits : Within limits (Dir to)
    to_fits = w st.dest.node (Dir to) t

    first_failure : Resizes limits graph.shape (set_at st.source.node (Some (Dir (removed_name x (names_of (graph.shape st.source.node))))) graph.shape)
    first_failure = resizes_set limits graph.shape st.source.node (Dir from) (Dir (removed_name x (names_of (graph.shape st.source.node)))) w f tt (subst (λ (l : List Name). Within limits (Dir (removed_name x l))) (sym (names_are graph st.source.node from f)) (without_fits limits x from (w st.source.node (Dir from) f)))

    put : (names : List Name) → set_at st.source.node (Some (Dir (removed_name x (names_of (graph.shape st.source.node))))) graph.shape st.dest.node ≡ Some (Dir names) → Within limits (Dir (inserted_name y names))
        → Resizes limits (set_at st.source.node (Some (Dir (removed_name x (names_of (graph.shape st.source.node))))) graph.shape) (set_at st.dest.node (Some (Dir (inserted_name y (names_of (mid st.dest.node))))) mid)
    put names e fits = resizes_set limits mid st.dest.node (Dir names) (Dir (inserted_name y (names_of (mid st.dest.node)))) first_failure.within e tt (subst (λ (l : List Name). Within limits (Dir (inserted_name y l))) (sym (ap names_of e)) fits)

    fits_else : (st.dest.node ≡ st.source.node → ⊥) → Room limits graph st to y → Within limits (Dir (inserted_name y to))
    fits_else n (inl e) = absurd (n (sym e))
    fits_else n (inr (inl h)) = with_fits limits y to to_fits h
    fits_else n (inr (inr h)) = subst (λ (l : List Name). Within limits (Dir l)) (sym (no_more y to to_fits.0 h)) to_fits

    second : Place (Option Shape) st.source.node (Some (Dir (removed_name x (names_of (graph.shape st.source.node))))) graph.shape st.dest.node → Resizes limits (set_at st.source.node (Some (Dir (removed_name x (names_of (graph.shape st.source.node))))) graph.shape) (set_at st.dest.node (Some (Dir (inserted_name y (names_of (mid st.dest.node))))) mid)
    second (Here i j) =
        let e : names_of (graph.shape st.source.node) ≡ from = names_are graph st.source.node from f in
        let less : length (removed_name x from) + 1 ≤ length from = one_fewer x from had in
        let few : length from ≤ entry_limit limits = from_fits.1 in
        put (removed_name x (names_of (graph.shape st.source.node))) j
        (subst (λ (l : List Name). Within limits (Dir (inserted_name y (removed_name x l)))) (sym e) (with_fits limits y (removed_name x from) (without_fits limits x from from_fits) (omega (arith, less, few))))
    second (Else n j) = put to (j ∙ t) (fits_else n room)

or_true : (a b : Bool) → (a || b) ≡ true → (a ≡ true) ⊎ (b ≡ true)
or_true true b e = inl refl
or_true false b e = inr e

not_true : (b : Bool) → not b ≡ true → b ≡ false
not_true true e = cc
not_true false e = refl

room_of : (m : Shape) (room : Bool) → to_row m None room ≡ None → room ≡ true
room_of m true e = refl
room_of (Dir names) false e = cc
room_of (File bytes) false e = cc

rename_resizes : (limits : Limits) (graph : Graph) → IsGraph graph → AllWithin limits graph.shape → (most : ℕ) → most ≡ entry_limit limits → (p q : Key) (st : Holdings) (reserved : Option ℕ) → Forked graph st.node p q st → target (AtPair (pairs.Rename most) p q) ≡ [] → (b : Bool) → (rename_at graph most p q st).1 ≡ b → (o : Option ℕ) → graph.child st.source.node (last_of p) ≡ o
    → Resizes limits graph.shape (move_effect graph st (last_of p) (last_of q) reserved (rename_at graph most p q st).0 b o).graph.shape
rename_resizes limits graph is w most has p q st reserved f way false e o i = resizes_same limits graph.shape w
rename_resizes limits graph is w most has p q st reserved f way true e None i = resizes_same limits graph.shape w
rename_resizes limits graph is w most has p q st reserved f way true e (Some m) i =
    moved_resizes limits graph w st (last_of p) (last_of q) reserved (rename_at graph most p q st).0 m from.0 to.0 from.1 to.1 had (room (entry_shape graph st.dest.node (last_of q)) refl)
  where
    real : Really (dir_error (left st.source.walked (parent_of p)) (graph.shape st.source.node)) (dir_error (left st.dest.walked (parent_of q)) (graph.shape st.dest.node)) (entry_shape graph st.source.node (last_of p)) (is_end (after_prefix p q)) (there_by (has_more (after_prefix q p)) (entry_shape graph st.dest.node (last_of q))) (is_end (after_prefix (parent_of p) (parent_of q)) || not (is_full most (graph.shape st.dest.node)))
    real = really (dir_error (left st.source.walked (parent_of p)) (graph.shape st.source.node)) (dir_error (left st.dest.walked (parent_of q)) (graph.shape st.dest.node)) (entry_shape graph st.source.node (last_of p)) (is_end (after_prefix p q)) (there_by (has_more (after_prefix q p)) (entry_shape graph st.dest.node (last_of q))) (is_end (after_prefix (parent_of p) (parent_of q)) || not (is_full most (graph.shape st.dest.node))) e

    from : (names : List Name) × (graph.shape st.source.node ≡ Some (Dir names))
    from = dir_of_none (left st.source.walked (parent_of p)) (graph.shape st.source.node) real.source

    to : (names : List Name) × (graph.shape st.dest.node ≡ Some (Dir names))
    to = dir_of_none (left st.dest.walked (parent_of q)) (graph.shape st.dest.node) real.dest

    listed : (n k : ℕ) (x : Name) (names : List Name) → graph.shape n ≡ Some (Dir names) → graph.child n x ≡ Some k → has_name x names ≡ true
    listed n k x names a b =
        let d : (ns : List Name) × (graph.shape n ≡ Some (Dir ns)) × (has_name x ns ≡ true) = is.of_dir n k x b in
        let z : ◌≡◌ {A = Option Shape} (Some (Dir d.0)) (Some (Dir names)) = sym d.1 ∙ a in
        ap (has_name x) (let y : names ≡ d.0 = cc in y) ∙ d.2

    had : has_name (last_of p) from.0 ≡ true
    had = listed st.source.node m (last_of p) from.0 from.1 i

    above : (b : Bool) → has_more (after_prefix q p) ≡ b → b ≡ false
    above true j = absurd (full_row real.moved (entry_shape graph st.dest.node (last_of q)) (is_end (after_prefix (parent_of p) (parent_of q)) || not (is_full most (graph.shape st.dest.node))) (has_more (after_prefix q p)) j real.to)
    above false j = refl

    not_above : has_more (after_prefix q p) ≡ false
    not_above = above (has_more (after_prefix q p)) refl

    free : (is_end (after_prefix (parent_of p) (parent_of q)) ≡ true) ⊎ (not (is_full most (graph.shape st.dest.node)) ≡ true) → Room limits graph st to.0 (last_of q)
    free (inl h) = inl (one_parent graph most p q st f way h)
    free (inr h) = inr (inl (has_room (entry_limit limits) (length to.0) (ap (is_full (entry_limit limits)) (sym to.1) ∙ subst (λ (m : ℕ). is_full m (graph.shape st.dest.node) ≡ false) has (not_true (is_full most (graph.shape st.dest.node)) h))))

    room : (there : Option Shape) → entry_shape graph st.dest.node (last_of q) ≡ there → Room limits graph st to.0 (last_of q)
    room None j = free (or_true (is_end (after_prefix (parent_of p) (parent_of q))) (not (is_full most (graph.shape st.dest.node)))
        (room_of real.moved (is_end (after_prefix (parent_of p) (parent_of q)) || not (is_full most (graph.shape st.dest.node))) (ap (λ (t : Option Shape). to_row real.moved t (is_end (after_prefix (parent_of p) (parent_of q)) || not (is_full most (graph.shape st.dest.node)))) (sym (ap₂ there_by not_above j)) ∙ real.to)))
    room (Some s) j = let g : (k : ℕ) × (graph.child st.dest.node (last_of q) ≡ Some k) × (graph.shape k ≡ Some s) = some_entry graph st.dest.node (last_of q) s j in inr (inr (listed st.dest.node g.0 (last_of q) to.0 to.1 g.1))

-- an exchange changes no size
swap_resizes : (limits : Limits) (graph : Graph) → AllWithin limits graph.shape → (st : Holdings) (x y : Name) (reserved : Option ℕ) (r : Reply) (b : Bool) (s t : Option ℕ) → Resizes limits graph.shape (swap_effect graph st x y reserved r b s t).graph.shape
swap_resizes limits graph w st x y reserved r false s t = resizes_same limits graph.shape w
swap_resizes limits graph w st x y reserved r true None t = resizes_same limits graph.shape w
swap_resizes limits graph w st x y reserved r true (Some s) None = resizes_same limits graph.shape w
swap_resizes limits graph w st x y reserved r true (Some s) (Some t) = resizes_same limits graph.shape w

-- a call that finishes where it stands, and any call that finishes
made_resizes : (limits : Limits) (graph : Graph) → IsGraph graph → AllWithin limits graph.shape → (remaining : Form) → LimitedTo limits remaining → (st : Holdings) (reserved : Option ℕ) → HeadsSound graph st.node remaining st → Resizes limits graph.shape (effect_at graph remaining st reserved).graph.shape
made_resizes limits graph is w (AtNode c p) limited st reserved well = on_resizes limits graph w st.node c limited (path_error p (graph.shape st.node)) reserved (graph.shape st.node) refl
made_resizes limits graph is w (AtEntry c p) limited st reserved well = in_resizes limits graph w st.node c limited (last_of p) reserved (entry_shape graph st.node (last_of p)) (dir_error (parent_of p) (graph.shape st.node)) (dir_of_none (parent_of p) (graph.shape st.node))
made_resizes limits graph is w (AtPair (pairs.Rename most) p q) limited st reserved well = go (target (AtPair (pairs.Rename most) p q)) refl well
  where
    go : (l : Key) → target (AtPair (pairs.Rename most) p q) ≡ l → ForkedAt graph st.node p q st l → Resizes limits graph.shape (rename_effect graph most p q st reserved l).graph.shape
    go [] i f = rename_resizes limits graph is w most limited p q st reserved f i (rename_at graph most p q st).1 refl (graph.child st.source.node (last_of p)) refl
    go (x ∷ l) i f = resizes_same limits graph.shape w
made_resizes limits graph is w (AtPair pairs.Exchange p q) limited st reserved well = go (target (AtPair pairs.Exchange p q))
  where
    go : (l : Key) → Resizes limits graph.shape (exchange_effect graph p q st reserved l).graph.shape
    go [] = swap_resizes limits graph w st (last_of p) (last_of q) reserved (exchange_at graph p q st).0 (exchange_at graph p q st).1 (graph.child st.source.node (last_of p)) (graph.child st.dest.node (last_of q))
    go (x ∷ l) = resizes_same limits graph.shape w

pub finish_resizes : (limits : Limits) (graph : Graph) → IsGraph graph → AllWithin limits graph.shape → (op : Record) → LimitedTo limits op.remaining → ((st : Holdings) → op.holdings ≡ Some st → HeadsSound graph st.node op.remaining st) → Resizes limits graph.shape (finish graph op).graph.shape
finish_resizes limits graph is w op limited well = go (by_paths op.call) op.holdings well
  where
    go : (e : Option Errno) (s : Option Holdings) → ((st : Holdings) → s ≡ Some st → HeadsSound graph st.node op.remaining st) → Resizes limits graph.shape (effect_of graph op e s).graph.shape
    go (Some e) s h = resizes_same limits graph.shape w
    go None None h = resizes_same limits graph.shape w
    go None (Some st) h = made_resizes limits graph is w op.remaining limited st op.reserved (h st refl)
