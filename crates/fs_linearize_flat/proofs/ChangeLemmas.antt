-- The entries after a change.
use Rattle.std.proofs.Common.{◌≡◌, ℕ, Bool, true, false, cond, List, [], ◌∷◌, ◌++◌, map, length, Some, None, Option, refl, sym, ap, subst, ◌∙◌, arith, T}
use Rattle.std.specs.Prelude.{nat_eq}
use Rattle.std.specs.FinMap.{put, is_sorted}
use Rattle.std.proofs.lemmas.Bool.Decides.{nat_tests}
use Rattle.fs_names.specs.Keys.{Key, key_cmp}
use Rattle.fs_names.specs.declared.kind.Kind.TheVariants as kinds
use Rattle.fs_names.specs.declared.limits.Limits.{Limits}
use Rattle.fs_names.specs.declared.limits.Limits.TheVariants.{V1}
use Rattle.fs_calls.specs.Starts.{Start}
use Rattle.fs_calls.specs.Tree.{Tree, Node, File, from_list, inserted, removed, renamed, exchanged}
use Rattle.fs_calls.specs.Sights.{tree_shapes, bytes_of, is_same}
use Rattle.fs_calls.specs.Rows.{Edit, Keep, Add, Remove, edit_of, new_bytes, written, resized}
use Rattle.fs_calls.specs.Forms.{Form, form, new_shape, AtNode, AtEntry, AtPair, Rename, Exchange}
use Rattle.fs_calls.specs.Forms as forms
use Rattle.fs_calls.specs.Outcomes.{fault, reply, reply_at, reply_of, replied, success, after, change, change_of, if_sound, filled, edited, node_of}
use Rattle.fs_calls.specs.declared.call.Call.{Call}
use Rattle.fs_calls.specs.declared.call.Call.TheVariants as calls
use Rattle.fs_calls.specs.declared.errno.Errno.{Errno}
use Rattle.fs_calls.specs.declared.reply.Reply.{Reply}
use Rattle.fs_calls.specs.declared.reply.Reply.TheVariants as answer
use Rattle.fs_calls.proofs.LookLemmas.{sorted-inserted, sorted-removed, sorted-from_list}
use Rattle.fs_seq.specs.Rows.{node_of_kind}
use Rattle.fs_linearize_flat.specs.code.Cells.{without_key, moved_cell, swapped_cell, is_failed}

-- to insert is to put
pub inserted_is : (t new : Tree) (k p : Key) (n : Node) → k ≡ p → new ≡ put key_cmp k n t → new ≡ inserted t p n
unfolding inserted
inserted_is t new k p n same e = e ∙ ap (λ z. put key_cmp z n t) same

pub removed_is : (t new : Tree) (k p : Key) → k ≡ p → new ≡ without_key k t → new ≡ removed t p
unfolding removed
removed_is t new k p same e = e ∙ ap (λ z. without_key z t) same

-- what is true holds
true_T : (b : Bool) → b ≡ true → T b
true_T b e = subst T (sym e) tt

-- what holds is true
T_true : (b : Bool) → T b → b ≡ true
T_true true h = refl
T_true false h = absurd h

-- entries put in order rise
pub ordered_rise : (rest new : Tree) → new ≡ from_list rest → is_sorted key_cmp new ≡ true
ordered_rise rest new e = ap (is_sorted key_cmp) e ∙ T_true _ (sorted-from_list rest)

-- ---- renames and exchanges

pub renamed_is : (t left moved new : Tree) (p q k l : Key) → k ≡ p → l ≡ q → left ≡ without_key l t → moved ≡ map (moved_cell k l) left → new ≡ from_list moved → new ≡ renamed t p q
unfolding renamed removed
renamed_is t left moved new p q k l one two went came e =
    e ∙ ap from_list (came ∙ ap (map (moved_cell k l)) went)
    ∙ (λ i. from_list (map (moved_cell (one i) (two i)) (without_key (two i) t)))

-- the same of the entries before the new path and behind it
pub woven_renamed : (t before behind new : Tree) (p q k l : Key) → k ≡ p → l ≡ q → before ++ behind ≡ without_key l t → new ≡ from_list (map (moved_cell k l) (before ++ behind)) → new ≡ renamed t p q
woven_renamed t before behind new p q k l one two parts e = renamed_is t (before ++ behind) (map (moved_cell k l) (before ++ behind)) new p q k l one two parts refl e

pub exchanged_is : (t swapped new : Tree) (p q k l : Key) → k ≡ p → l ≡ q → swapped ≡ map (swapped_cell k l) t → new ≡ from_list swapped → new ≡ exchanged t p q
unfolding exchanged
exchanged_is t swapped new p q k l one two came e =
    e ∙ ap from_list came
    ∙ (λ i. from_list (map (swapped_cell (one i) (two i)) t))

-- ---- bytes

pub written_nothing : (off : ℕ) (bytes : List ℕ) (t new : Tree) (p : Key) → true ≡ nat_eq (length bytes) 0 → new ≡ t → new ≡ filled t p (new_bytes (forms.Write 0 off bytes) (tree_shapes t p))
written_nothing off [] t new p h e = e
written_nothing off (x ∷ bytes) t new p h e = absurd (let none : length (x ∷ bytes) ≡ 0 = grind (arith, nat_tests) in omega arith)

pub written_some : (off : ℕ) (bytes old content : List ℕ) (t new : Tree) (k p : Key) → false ≡ nat_eq (length bytes) 0 → k ≡ p → old ≡ bytes_of (tree_shapes t k) → content ≡ written old off bytes → new ≡ inserted t p (node_of_kind kinds.File content)
    → new ≡ filled t p (new_bytes (forms.Write 0 off bytes) (tree_shapes t p))
written_some off [] old content t new k p h same was is e = absurd (let some : nat_eq 0 0 ≡ true = refl in cc)
written_some off (x ∷ bytes) old content t new k p h same was is e =
    e ∙ ap (λ bs. inserted t p (node_of_kind kinds.File bs)) (is ∙ ap (λ bs. written bs off (x ∷ bytes)) (was ∙ ap (λ z. bytes_of (tree_shapes t z)) same))

pub cut_to : (size : ℕ) (old content : List ℕ) (t new : Tree) (k p : Key) → k ≡ p → old ≡ bytes_of (tree_shapes t k) → content ≡ resized old size → new ≡ inserted t p (node_of_kind kinds.File content) → new ≡ inserted t p (File (resized (bytes_of (tree_shapes t p)) size))
cut_to size old content t new k p same was is e =
    e ∙ ap (λ bs. inserted t p (node_of_kind kinds.File bs)) (is ∙ ap (λ bs. resized bs size) (was ∙ ap (λ z. bytes_of (tree_shapes t z)) same))

-- ---- calls

-- a call that has no error and still replies one leaves the tree as it is
lookup_stays : (t : Tree) (f : Form) → is_failed (reply_of t f) ≡ true → t ≡ change_of t f
lookup_stays t (AtNode forms.Stat p) h = refl
lookup_stays t (AtNode forms.Readdir p) h = absurd (cc)
lookup_stays t (AtNode (forms.ListAfter after count) p) h = absurd (cc)
lookup_stays t (AtNode (forms.Read m off count) p) h = absurd (cc)
lookup_stays t (AtNode (forms.Write m off bytes) p) h = absurd (cc)
lookup_stays t (AtNode (forms.Truncate m size) p) h = absurd (cc)
lookup_stays t (AtEntry c p) h = absurd (cc)
lookup_stays t (AtPair (Rename most) p q) h = absurd (cc)
lookup_stays t (AtPair Exchange p q) h = absurd (cc)

pub stays : (limits : Limits) (t new : Tree) (call : Call) (r : Reply) → r ≡ reply limits t call → is_failed r ≡ true → new ≡ t → new ≡ after limits t call
unfolding reply after
stays limits t new call r is failed e = e ∙ by (fault limits t call) (ap is_failed (sym is) ∙ failed)
  where
    by : (o : Option Errno) → is_failed (replied o (success limits t call)) ≡ true → t ≡ if_sound o t (change limits t call)
    by None h = lookup_stays t (form limits call) h
    by (Some e) h = refl

-- no limit of files changes what a call without an error makes
change_any : (limits : Limits) (t : Tree) (call : Call) → change V1 t call ≡ change limits t call
change_any limits t (calls.Mkdir p) = refl
change_any limits t (calls.Mknod p) = refl
change_any limits t (calls.Unlink p) = refl
change_any limits t (calls.Rmdir p) = refl
change_any limits t (calls.Rename p q) = refl
change_any limits t (calls.Exchange p q) = refl
change_any limits t (calls.Stat p) = refl
change_any limits t (calls.Readdir p) = refl
change_any limits t (calls.ListAfter count p after) = refl
change_any limits t (calls.Read p off count) = refl
change_any limits t (calls.Write p off bytes) = refl
change_any limits t (calls.Truncate p size) = refl

pub changes : (limits : Limits) (t new : Tree) (call : Call) (r : Reply) → r ≡ reply limits t call → is_failed r ≡ false → new ≡ change V1 t call → new ≡ after limits t call
unfolding reply after
changes limits t new call r is fine e = e ∙ change_any limits t call ∙ by (fault limits t call) (ap is_failed (sym is) ∙ fine)
  where
    by : (o : Option Errno) → is_failed (replied o (success limits t call)) ≡ false → change limits t call ≡ if_sound o t (change limits t call)
    by None h = refl
    by (Some e) h = absurd (cc)

-- each change keeps the order
filled_rises : (t : Tree) (p : Key) (o : Option (List ℕ)) → T (is_sorted key_cmp t) → T (is_sorted key_cmp (filled t p o))
filled_rises t p None h = h
filled_rises t p (Some bytes) h = sorted-inserted t p _ h

edited_rises : (t : Tree) (p : Key) (e : Edit) → T (is_sorted key_cmp t) → T (is_sorted key_cmp (edited t p e))
edited_rises t p Keep h = h
edited_rises t p (Add shape) h = sorted-inserted t p (node_of shape) h
edited_rises t p Remove h = sorted-removed t p h

either_rises : (b : Bool) (t u : Tree) → T (is_sorted key_cmp t) → T (is_sorted key_cmp u) → T (is_sorted key_cmp (cond b t u))
either_rises true t u h g = h
either_rises false t u h g = g

renamed_rises : (t : Tree) (p q : Key) → T (is_sorted key_cmp (renamed t p q))
unfolding renamed
renamed_rises t p q = sorted-from_list (map (moved_cell p q) (removed t q))

exchanged_rises : (t : Tree) (p q : Key) → T (is_sorted key_cmp (exchanged t p q))
unfolding exchanged
exchanged_rises t p q = sorted-from_list (map (swapped_cell p q) t)

change_rises : (t : Tree) (f : Form) → T (is_sorted key_cmp t) → T (is_sorted key_cmp (change_of t f))
change_rises t (AtNode c p) h = filled_rises t p (new_bytes c (tree_shapes t p)) h
change_rises t (AtEntry c p) h = edited_rises t p (edit_of (new_shape c)) h
change_rises t (AtPair (Rename most) p q) h = either_rises (is_same p q) t (renamed t p q) h (renamed_rises t p q)
change_rises t (AtPair Exchange p q) h = either_rises (is_same p q) t (exchanged t p q) h (exchanged_rises t p q)

sound_rises : (o : Option Errno) (t u : Tree) → T (is_sorted key_cmp t) → T (is_sorted key_cmp u) → T (is_sorted key_cmp (if_sound o t u))
sound_rises None t u h g = g
sound_rises (Some e) t u h g = h

pub after_sorted : (limits : Limits) (t new : Tree) (call : Call) → is_sorted key_cmp t ≡ true → new ≡ after limits t call → is_sorted key_cmp new ≡ true
unfolding after
after_sorted limits t new call h e = ap (is_sorted key_cmp) e ∙ T_true _ (sound_rises (fault limits t call) t (change limits t call) (true_T _ h) (change_rises t (form limits call) (true_T _ h)))

-- a reply that is no error works
pub not_failed : (r : Reply) → ((e : Errno) → r ≡ answer.Failed e → ⊥) → is_failed r ≡ false
not_failed answer.Done h = refl
not_failed (answer.Failed e) h = absurd (h e refl)
not_failed (answer.Stat kind size) h = refl
not_failed (answer.Names names) h = refl
not_failed (answer.Bytes bytes) h = refl
not_failed (answer.Wrote count) h = refl

-- so what comes of a call that works rises
pub change_sorted : (start : Start) (limits : Limits) (t items new : Tree) (call : Call) (r : Reply) → start ≡ record { limits = limits; tree = t } → is_sorted key_cmp t ≡ true → r ≡ reply_at start call → is_failed r ≡ false → items ≡ t → new ≡ change V1 items call
    → is_sorted key_cmp new ≡ true
change_sorted start limits t items new call r view h is fine same e =
    after_sorted limits t new call h (changes limits t new call r (is ∙ ap (λ (s : Start). reply_at s call) view) fine (e ∙ ap (λ z. change V1 z call) same))
