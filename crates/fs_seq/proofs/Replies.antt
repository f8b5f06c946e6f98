-- What a call answers, by its errors, and what it leaves.
use Rattle.std.proofs.Common.{◌≡◌, true, not, ◌&&◌, Some, None, Option, is_some, Result, Ok, Err, IfOk, OnOk, OnErr, IsTrue, refl, sym, ap, subst, ◌∙◌}
use Rattle.fs_names.specs.Failures.{or_else}
use Rattle.fs_names.specs.declared.limits.Limits.{Limits}
use Rattle.fs_names.specs.declared.limits.Limits.TheVariants.{V1}
use Rattle.fs_calls.specs.Tree.{Tree}
use Rattle.fs_calls.specs.Forms.{form, by_text}
use Rattle.fs_calls.specs.Outcomes.{row, fault, success, change, reply, after, replied, if_sound}
use Rattle.fs_seq.specs.Memory.{takes_memory, needs_memory}
use Rattle.fs_seq_nodes.specs.code.Slots.{Slots, tree_of, IsForest, KeepsForm}
use Rattle.fs_seq.specs.code.Effects.{Gives, AnswersWithin, Answers}
use Rattle.fs_calls.specs.declared.call.Call.{Call}
use Rattle.fs_calls.specs.declared.reply.Reply.{Reply}
use Rattle.fs_calls.specs.declared.reply.Reply.TheVariants.{Failed}
use Rattle.fs_calls.specs.declared.errno.Errno.{Errno}

-- an error that the paths of a call decide is its first one
pub fault_by_paths : (limits : Limits) (t : Tree) (call : Call) (e : Errno) → by_text (form limits call) ≡ Some e → fault limits t call ≡ Some e
unfolding fault
fault_by_paths limits t call e h = ap (λ o. or_else o (row limits t call)) h

-- without one, its first error is that of what is read
pub fault_by_row : (limits : Limits) (t : Tree) (call : Call) (o : Option Errno) → by_text (form limits call) ≡ None → row limits t call ≡ o → fault limits t call ≡ o
unfolding fault
fault_by_row limits t call o h found = ap (λ z. or_else z (row limits t call)) h ∙ found

-- a call without an error
pub works : (g g' : Slots) (found : Option Errno) (well : Reply) (new : Tree) → found ≡ None → tree_of g' ≡ new → IsForest g' → Gives g g' found well new well
works g g' found well new none made forest = record { reply = ap (λ f. replied f well) (sym none); tree = made ∙ ap (λ f. if_sound f (tree_of g) new) (sym none); forest = forest }

-- a call with one
pub fails : (g : Slots) (found : Option Errno) (well : Reply) (new : Tree) (e : Errno) → found ≡ Some e → IsForest g → Gives g g found well new (Failed e)
fails g found well new e some forest = record { reply = ap (λ f. replied f well) (sym some); tree = ap (λ f. if_sound f (tree_of g) new) (sym some); forest = forest }

-- an answer by the errors of a call is one to the call
pub answers : (limits : Limits) (g g' : Slots) (call : Call) (found : Option Errno) (well : Reply) (new : Tree) (r : Reply) → fault limits (tree_of g) call ≡ found → success limits (tree_of g) call ≡ well → change limits (tree_of g) call ≡ new → KeepsForm limits g g' → Gives g g' found well new r → AnswersWithin limits g g' call r
unfolding reply after
answers limits g g' call found well new r e f h form given = record {
  reply = given.reply ∙ (λ i. replied (sym e i) (sym f i));
  tree = given.tree ∙ (λ i. if_sound (sym e i) (tree_of g) (sym h i));
  forest = given.forest;
  form = form;
}

-- an answer that holds by all limits
pub at_each : (g g' : Slots) (call : Call) (r : Reply) → ((limits : Limits) → AnswersWithin limits g g' call r) → Answers g g' call r
at_each g g' call r h = record { reply = λ limits. (h limits).reply; tree = λ limits. (h limits).tree; forest = (h V1).forest; form = λ limits. (h limits).form }

-- what follows of a value
pub IfOk-map : {A E : Type 0} {P Q : A → Type 0} (r : Result A E) → ((a : A) → P a → Q a) → IfOk r P → IfOk r Q
IfOk-map (Ok a) f h = f a h
IfOk-map (Err e) f h = h

-- what follows of an error
pub OnErr-map : {A E P Q : Type 0} (r : Result A E) → (P → Q) → OnErr r P → OnErr r Q
OnErr-map (Ok a) f h = h
OnErr-map (Err e) f h = f h

-- a call without an error that takes memory needs it
pub needs : (limits : Limits) (t : Tree) (call : Call) → fault limits t call ≡ None → takes_memory limits t call ≡ true → IsTrue (needs_memory limits t call)
unfolding needs_memory
needs limits t call none takes = λ i. not (is_some (none i)) && takes i

-- a fact is one of an error
pub on_err : {A E P : Type 0} (r : Result A E) → P → OnErr r P
on_err (Ok a) h = tt
on_err (Err e) h = h

-- a call that fails, and leaves the graph as it was
pub refused : (limits : Limits) (g g' : Slots) (call : Call) (e : Errno) → g' ≡ g → IsForest g → fault limits (tree_of g) call ≡ Some e → AnswersWithin limits g g' call (Failed e)
refused limits g g' call e same forest found =
    subst (λ h. AnswersWithin limits g h call (Failed e)) (sym same) (answers limits g g call (Some e) (success limits (tree_of g) call) (change limits (tree_of g) call) (Failed e) found refl refl (λ have. have) (fails g (Some e) (success limits (tree_of g) call) (change limits (tree_of g) call) e refl forest))

-- a fact is one of a success
pub on_ok : {A E P : Type 0} (r : Result A E) → P → OnOk r P
on_ok (Ok a) h = h
on_ok (Err e) h = tt

-- a call that makes the tree that is there leaves it
pub leaves : (limits : Limits) (t : Tree) (call : Call) → change limits t call ≡ t → after limits t call ≡ t
unfolding after
leaves limits t call same = by_fault (fault limits t call)
  where
    by_fault : (found : Option Errno) → if_sound found t (change limits t call) ≡ t
    by_fault None = same
    by_fault (Some e) = refl
