-- The handle, its parts and a box of the core own the same where there is a core: the walks of `src/held.rt` and
-- `src/parts.rt` take them apart as boxes.
use mir.Syntax.{impl, tnil, dnil, Args, Dict, a_type, dcons}
use mathlib.Core.List.{List, [], ◌∷◌, ◌++◌}
use mathlib.Core.Path.{◌≡◌, refl, ap, sym, subst}
use seplogic.Ra.Ura.{Ura}
use mir.Val.{Val}
use base.Logic.{SProp, ent, id⊢}
use denote.Param.{bounded}
use denote.RattleType.{RattleType}
use denote.Signature.{Slot, plain}
use Rattle.std.specs.Prelude.{Bool, false, true, Option, Some, None, IsSome}
use Rattle.std_alloc.proofs.BoxSteps.Form.{Bx, R, P}
use Rattle.std_heap.specs.contracts.Global as Heap
use Rattle.std_heap.specs.contracts.GlobalAllocator.TheImpl.{ghosts, dict}
use Rattle.std_heap.proofs.Global.TheLaws as heap
use Rattle.fs_core.specs.contracts.engine.Core as Home
use Rattle.fs_core.proofs.engine.Core.TheLaws as home
use Rattle.atomfs_c.specs.contracts.parts.Parts as Parts
use Rattle.atomfs_c.specs.contracts.held.Held as Held

-- the core as a type of the logic
abbrev pub Row : RattleType
Row = Home.the_row

-- the box of a core from the heap
abbrev pub core_box : Bx
core_box = record { row = Home.the_row; laws = home.the_row_laws; al = record { row = Heap.the_row; laws = heap.the_row_laws; g = ghosts; d = dict; drops = impl [] tnil dnil } }

-- what a function by value takes: parts of a core, a handle, an allocator
abbrev pub takes_parts : Slot 0
takes_parts = plain (λ _. Parts.the_row Home.the_row Heap.the_row ghosts)

abbrev pub takes_held : Slot 0
takes_held = plain (λ _. Held.the_row)

abbrev pub takes_alloc : Slot 0
takes_alloc = plain (λ _. Heap.the_row)

-- the parts of any box
abbrev pub parts_of : Bx → RattleType
parts_of E = Parts.the_row (R E) (P E) E.al.g

-- what a call at a box passes, where its elements can be dropped
abbrev pub dropping : Bx → Dict → Args
dropping E dx = bounded (a_type ∷ a_type ∷ []) (E.row, (E.al.row, tt)) (dcons E.al.d (dcons E.al.drops (dcons dx dnil)))

-- what is there where something is
pub some_of : (core : Option Home.the_row.Denot) → IsSome core → (x : Home.the_row.Denot) × (core ≡ Some x)
some_of (Some x) is = (x, refl)
some_of None is = absurd (let z : ◌≡◌ {A = Bool} false true = is in cc)

-- a goal of the machine values that were told, in the place of those that were given
pub at_values : {M : Type 1} (𝓤 : Ura M) (Run : List Val → SProp 𝓤) (us : List Val) (w : Val) → us ≡ w ∷ [] → ent 𝓤 (Run (w ∷ [])) (Run (us ++ []))
at_values 𝓤 Run us w e = subst (λ (vs : List Val). ent 𝓤 (Run (w ∷ [])) (Run vs)) (sym (ap (λ (vs : List Val). vs ++ []) e)) (id⊢ 𝓤 (Run (w ∷ [])))
