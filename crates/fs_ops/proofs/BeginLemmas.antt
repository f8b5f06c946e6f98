-- On numbers that are reserved.
use Rattle.std.proofs.Common.{◌≡◌, ℕ, Bool, true, false, cond, IsTrue, Option, Some, None, refl, sym, ap, subst, ◌∙◌}
use Rattle.std.specs.Prelude.{eqb}
use Rattle.fs_names.specs.Shapes.{Shape, is_there, has_entries}
use Rattle.fs_names.specs.declared.kind.Kind.{Kind}
use Rattle.fs_names.specs.declared.limits.Limits.{Limits}
use Rattle.fs_names.specs.declared.kind.Kind.TheVariants as kinds
use Rattle.fs_nodes.specs.Graphs.{Graph, reserved_in, released_in}
use Rattle.fs_nodes.specs.Stores.{new_shape, IsUnlinked}
use Rattle.fs_calls.proofs.EqualLemmas.{graph_by, eqb_true, eqb_refl}
use Rattle.fs_calls.specs.declared.call.Call.{Call}
use Rattle.fs_ops.specs.code.Reservations.{Reserves}
use Rattle.fs_machine.specs.Leaving.{unreserved}
use Rattle.fs_machine.specs.OpValues.{OpValue, new_value, BegunAs, IsSpare}

-- ---- numbers in use

no_entries : (kind : Kind) → has_entries (Some (new_shape kind)) ≡ false
no_entries kinds.Dir = refl
no_entries kinds.File = refl

-- a number that was reserved may be given back
pub reserved_spare : (graph : Graph) (kind : Kind) (n : ℕ) (new : Graph) → IsUnlinked graph.child n → (n ≡ 0 → ⊥) → new ≡ reserved_in n (new_shape kind) graph → IsSpare new n
reserved_spare graph kind n new unlinked root e = subst (λ (g : Graph). IsSpare g n) (sym e) (record {
  used = subst (λ (b : Bool). IsTrue (is_there (cond b (Some (new_shape kind)) (graph.shape n)))) (sym (eqb_refl n)) refl;
  unlinked = unlinked;
  not_root = root;
  empty = ap (λ (b : Bool). has_entries (cond b (Some (new_shape kind)) (graph.shape n))) (eqb_refl n) ∙ no_entries kind;
})

-- and then the graph is as before
given_back : (graph : Graph) (n : ℕ) (shape : Shape) → graph.shape n ≡ None → released_in n (reserved_in n shape graph) ≡ graph
given_back graph n shape free = graph_by (λ d y. refl) (λ m. go m (eqb m n) refl)
  where
    go : (m : ℕ) (b : Bool) → eqb m n ≡ b → cond b None (cond b (Some shape) (graph.shape m)) ≡ graph.shape m
    go m true e = sym (ap graph.shape (eqb_true m n e) ∙ free)
    go m false e = refl

pub undone : (graph : Graph) (limit : ℕ) (shape : Option Shape) (number : Option ℕ) (new : Graph) → Reserves graph limit shape number new → unreserved number new ≡ graph
undone graph limit None None new h = h
undone graph limit None (Some n) new h = absurd h
undone graph limit (Some shape) None new h = absurd h
undone graph limit (Some shape) (Some n) new h = ap (released_in n) h.added ∙ given_back graph n shape h.free

-- a call that begins with what was reserved
pub begun : (graph : Graph) (limit : ℕ) (limits : Limits) (call : Call) (shape : Option Shape) (number : Option ℕ) (op : OpValue) (new : Graph) → Reserves graph limit shape number new → op ≡ new_value limits call number → BegunAs graph limit limits call shape op new
begun graph limit limits call None None op new h e = (e, h)
begun graph limit limits call None (Some n) op new h e = absurd h
begun graph limit limits call (Some shape) None op new h e = absurd h
begun graph limit limits call (Some shape) (Some n) op new h e = (n, h.within, h.free, e, h.added)

-- what holds of a number holds of the one that is some
pub only : (n : ℕ) (P : ℕ → Type 0) → P n → (m : ℕ) → Some n ≡ Some m → P m
only n P h m e = let k : n ≡ m = cc in subst P k h
