-- The first error of a call, by what was found.
use Rattle.std.proofs.Common.{◌≡◌, Bool, Some, None, Option, refl, ap, ◌∙◌}
use Rattle.fs_names.specs.Keys.{Key, parent_of}
use Rattle.fs_names.specs.Failures.{or_else, first_failure}
use Rattle.fs_names.specs.declared.limits.Limits.{Limits}
use Rattle.fs_names.specs.declared.limits.Limits.TheVariants.{V1}
use Rattle.fs_names.specs.Limits.{entry_limit}
use Rattle.fs_calls.specs.Tree.{Tree}
use Rattle.fs_calls.specs.Forms.{Form, form, by_text, AtNode, AtEntry, AtPair}
use Rattle.fs_calls.specs.Forms as forms
use Rattle.fs_calls.specs.Rows.{entry_errors, entry_fault, node_fault, pair_errors, has_room}
use Rattle.fs_calls.specs.Sights.{Sight, Shape, tree_shapes, row_in, resolve, resolve_dir, is_full, is_same}
use Rattle.fs_calls.specs.Outcomes.{fault, reply, success, replied}
use Rattle.fs_calls.specs.code.Seen.{sight}
use Rattle.fs_calls.specs.code.Targets.{entry_call, pair_call}
use Rattle.fs_calls.specs.declared.rows.Sight.{Sight as Seen}
use Rattle.fs_calls.specs.declared.rows.PairSight.{PairSight}
use Rattle.fs_calls.specs.declared.call.Call.{Call}
use Rattle.fs_calls.specs.declared.errno.Errno.{Errno}
use Rattle.fs_calls.specs.declared.reply.Reply.{Reply}
use Rattle.fs_calls.specs.declared.reply.Reply.TheVariants.{Failed}
use Rattle.fs_calls.specs.declared.target.EntryCall.{EntryCall}
use Rattle.fs_calls.specs.declared.target.PairCall.{PairCall}
use Rattle.fs_calls.specs.declared.target.PairCall.TheVariants.{Rename, Exchange}

-- ---- a call on a node

pub node_lost : (sh : Sight) (c : forms.NodeCall) (k : Key) (e : Errno) → Some e ≡ resolve sh k → Some e ≡ row_in sh (AtNode c k)
node_lost sh c k e h = ap (λ o. node_fault c o (sh k)) h

pub node_there : (sh : Sight) (c : forms.NodeCall) (k : Key) (r : Option Errno) (there : Seen) → None ≡ resolve sh k → sight (sh k) ≡ there → ((s : Option Shape) → sight s ≡ there → r ≡ node_fault c None s) → r ≡ row_in sh (AtNode c k)
node_there sh c k r there h is by = by (sh k) is ∙ ap (λ o. node_fault c o (sh k)) h

-- ---- a call on an entry

pub entry_lost : (sh : Sight) (limits : Limits) (c : EntryCall) (k d : Key) (e : Errno) → d ≡ parent_of k → Some e ≡ resolve_dir sh d → Some e ≡ row_in sh (AtEntry (entry_call limits c) k)
entry_lost sh limits c k d e above h = ap (λ o. entry_fault (entry_call limits c) o (sh (parent_of k)) (sh k)) (h ∙ ap (resolve_dir sh) above)

pub entry_there : (sh : Sight) (limits : Limits) (c : EntryCall) (k d : Key) (r : Option Errno) (there : Seen) (full : Bool) → d ≡ parent_of k → None ≡ resolve_dir sh d → sight (sh k) ≡ there → full ≡ is_full (entry_limit limits) (sh d)
    → ((l : Limits) (dir s : Option Shape) → full ≡ is_full (entry_limit l) dir → sight s ≡ there → r ≡ first_failure (entry_errors (entry_call l c) dir s)) → r ≡ row_in sh (AtEntry (entry_call limits c) k)
entry_there sh limits c k d r there full above h is filled by =
    by limits (sh d) (sh k) filled is
    ∙ (λ i. entry_fault (entry_call limits c) ((h ∙ ap (resolve_dir sh) above) i) (sh (above i)) (sh k))

-- ---- a call on two entries

-- its row, by the resolutions of both parents and what is seen
pair_row : (sh : Sight) (limits : Limits) (c : PairCall) (p q : Key)
    → or_else (resolve_dir sh (parent_of p)) (or_else (resolve_dir sh (parent_of q)) (first_failure (pair_errors (pair_call limits c) (sh p) (is_same p q) (sh q) (has_room (entry_limit limits) (is_same (parent_of p) (parent_of q)) (sh (parent_of q)))))) ≡ row_in sh (AtPair (pair_call limits c) p q)
pair_row sh limits Rename p q = refl
pair_row sh limits Exchange p q = refl

-- the first of both parents' errors
pub dirs_first : (sh : Sight) (k l d : Key) (e : Errno) → d ≡ parent_of k → Some e ≡ resolve_dir sh d → Some e ≡ or_else (resolve_dir sh (parent_of k)) (resolve_dir sh (parent_of l))
dirs_first sh k l d e above h = ap (λ o. or_else o (resolve_dir sh (parent_of l))) (h ∙ ap (resolve_dir sh) above)

pub dirs_second : (sh : Sight) (k l d f : Key) (r : Option Errno) → d ≡ parent_of k → f ≡ parent_of l → None ≡ resolve_dir sh d → r ≡ resolve_dir sh f → r ≡ or_else (resolve_dir sh (parent_of k)) (resolve_dir sh (parent_of l))
dirs_second sh k l d f r above over h g = g ∙ ap (resolve_dir sh) over ∙ ap (λ o. or_else o (resolve_dir sh (parent_of l))) (h ∙ ap (resolve_dir sh) above)

-- the first of three
first_of_three : (a b c : Option Errno) → or_else (or_else a b) c ≡ or_else a (or_else b c)
first_of_three None b c = refl
first_of_three (Some e) b c = refl

-- its row, by the errors of both parents and what is seen
by_dirs : (sh : Sight) (limits : Limits) (c : PairCall) (p q : Key)
    → or_else (or_else (resolve_dir sh (parent_of p)) (resolve_dir sh (parent_of q))) (first_failure (pair_errors (pair_call limits c) (sh p) (is_same p q) (sh q) (has_room (entry_limit limits) (is_same (parent_of p) (parent_of q)) (sh (parent_of q))))) ≡ row_in sh (AtPair (pair_call limits c) p q)
by_dirs sh limits c p q = first_of_three (resolve_dir sh (parent_of p)) (resolve_dir sh (parent_of q)) _ ∙ pair_row sh limits c p q

pub pair_lost : (sh : Sight) (limits : Limits) (c : PairCall) (p q k l : Key) (e : Errno) → k ≡ p → l ≡ q → Some e ≡ or_else (resolve_dir sh (parent_of k)) (resolve_dir sh (parent_of l)) → Some e ≡ row_in sh (AtPair (pair_call limits c) p q)
pair_lost sh limits c p q k l e one two h =
    ap (λ o. or_else o (first_failure (pair_errors (pair_call limits c) (sh p) (is_same p q) (sh q) (has_room (entry_limit limits) (is_same (parent_of p) (parent_of q)) (sh (parent_of q))))))
    (h ∙ (λ i. or_else (resolve_dir sh (parent_of (one i))) (resolve_dir sh (parent_of (two i)))))
    ∙ by_dirs sh limits c p q

-- a row of errors of a call on two entries is one by all limits
same_errors : (limits : Limits) (c : PairCall) (s : Option Shape) (same : Bool) (t : Option Shape) (room : Bool) → pair_errors (pair_call V1 c) s same t room ≡ pair_errors (pair_call limits c) s same t room
same_errors limits Rename s same t room = refl
same_errors limits Exchange s same t room = refl

pub pair_there : (sh : Sight) (limits : Limits) (c : PairCall) (p q k l : Key) (r : Option Errno) (seen : PairSight) → k ≡ p → l ≡ q → None ≡ or_else (resolve_dir sh (parent_of k)) (resolve_dir sh (parent_of l))
    → sight (sh k) ≡ seen.first → sight (sh l) ≡ seen.second → seen.same_path ≡ is_same p q → seen.has_room ≡ has_room (entry_limit limits) (is_same (parent_of p) (parent_of q)) (sh (parent_of l))
    → ((s t : Option Shape) → sight s ≡ seen.first → sight t ≡ seen.second → r ≡ first_failure (pair_errors (pair_call V1 c) s seen.same_path t seen.has_room)) → r ≡ row_in sh (AtPair (pair_call limits c) p q)
pair_there sh limits c p q k l r seen one two h first second same room by =
    by (sh k) (sh l) first second ∙ ap first_failure (same_errors limits c (sh k) seen.same_path (sh l) seen.has_room)
    ∙ (λ i. first_failure (pair_errors (pair_call limits c) (sh (one i)) (same i) (sh (two i)) ((room ∙ ap (λ z. has_room (entry_limit limits) (is_same (parent_of p) (parent_of q)) (sh (parent_of z))) two) i)))
    ∙ ap (λ o. or_else o (first_failure (pair_errors (pair_call limits c) (sh p) (is_same p q) (sh q) (has_room (entry_limit limits) (is_same (parent_of p) (parent_of q)) (sh (parent_of q))))))
    (h ∙ (λ i. or_else (resolve_dir sh (parent_of (one i))) (resolve_dir sh (parent_of (two i)))))
    ∙ by_dirs sh limits c p q

-- ---- a call

-- the first error of a call is what its paths decide, or else its row
fault_is : (limits : Limits) (t : Tree) (call : Call) → or_else (by_text (form limits call)) (row_in (tree_shapes t) (form limits call)) ≡ fault limits t call
unfolding fault
fault_is limits t call = refl

pub by_paths : (limits : Limits) (t : Tree) (call : Call) (e : Errno) → ((m : Limits) → Some e ≡ by_text (form m call)) → Some e ≡ fault limits t call
by_paths limits t call e h = ap (λ o. or_else o (row_in (tree_shapes t) (form limits call))) (h limits) ∙ fault_is limits t call

pub by_row : (limits : Limits) (t : Tree) (call : Call) (r : Option Errno) (f : Form) → ((m : Limits) → None ≡ by_text (form m call)) → f ≡ form limits call → r ≡ row_in (tree_shapes t) f → r ≡ fault limits t call
by_row limits t call r f h is e = e ∙ ap (row_in (tree_shapes t)) is ∙ ap (λ o. or_else o (row_in (tree_shapes t) (form limits call))) (h limits) ∙ fault_is limits t call

-- ---- the reply

pub fails : (limits : Limits) (t : Tree) (call : Call) (e : Errno) → Some e ≡ fault limits t call → Failed e ≡ reply limits t call
unfolding reply
fails limits t call e h = ap (λ o. replied o (success limits t call)) h

pub works : (limits : Limits) (t : Tree) (call : Call) (r : Reply) → None ≡ fault limits t call → r ≡ success limits t call → r ≡ reply limits t call
unfolding reply
works limits t call r h is = is ∙ ap (λ o. replied o (success limits t call)) h
