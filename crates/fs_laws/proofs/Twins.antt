-- Two runs by the same seats and calls are one up to a renaming of numbers.
use Rattle.std.proofs.Common.{◌≡◌, ℕ, ◌++◌, [], ◌∷◌, List, Option, Some, None, refl, sym, ap, ap₂, ◌∙◌, subst, Ok}
use Rattle.fs_names.specs.Shapes.{Shape, Dir}
use Rattle.fs_names.specs.Names.{Name}
use Rattle.fs_calls.specs.Forms.{reserved_by}
use Rattle.fs_calls.specs.declared.call.Call.{Call}
use Rattle.fs_timeline.specs.declared.entry.Entry.TheVariants.{Begin}
use Rattle.fs_calls.specs.Graphs.{Graph, empty_graph, reserved_in, set_at, graph_shapes}
use Rattle.fs_laws.specs.Invariants.{Invariant}
use Rattle.fs_machine.specs.States.{State, empty, begun_again, Run, Starting, Beginning, Stepping, Begins, Reserves, began, new_op, Step}
use Rattle.fs_machine.specs.declared.answers.Stepped.{Stepped}
use Rattle.fs_machine.proofs.StepsAreDetermined.{one_step}
use Rattle.fs_laws.proofs.states.Headline.{run_keeps}
use Rattle.fs_laws.specs.Renamings.{Renaming, renamed_number, renamed_graph, renamed, renamed_answer, Alike}
use Rattle.fs_laws.specs.Twins.{Twins, Started, Again, Began, Went, AreOne}
use Rattle.fs_laws.proofs.Edits.{shapes_renamed, reserved_renamed}
use Rattle.fs_laws.proofs.Steps.{same_state, records_renamed, step_renamed}
use Rattle.fs_laws.proofs.Leaks.{numbers_kept}
use Rattle.fs_laws.proofs.Again.{timelines_begin_again}
use Rattle.fs_laws.proofs.states.StartsEmpty.{starts_empty}
use Rattle.fs_calls.specs.Starts.{root_start}
use Rattle.fs_names.specs.declared.limits.Limits.{Limits}
use Rattle.fs_laws.proofs.Composing.{nothing, nothing_empty, after, renamed_after}
use Rattle.fs_laws.proofs.Swaps.{Free, swapping, swapped, swap_stays}

-- ---- begins

began_renamed : (r : Renaming) (s : State) (seat : ℕ) (call : Call) (c : ℕ) (reserved : Option ℕ) (graph : Graph) → renamed r (began s seat call c reserved graph) ≡ began (renamed r s) seat call c (renamed_number r reserved) (renamed_graph r graph)
began_renamed r s seat call c reserved graph = same_state s.limit s.start (set_at seat (Some c) s.on_seat) (s.timeline ++ Begin c seat call ∷ []) _ _ _ _ _ _ refl refl (records_renamed r c (Some (new_op s.start.limits seat call reserved)) s.ops)

-- a call that reserves the number n
abbrev pub with_number : State → ℕ → Call → ℕ → ℕ → Shape → State
with_number s seat call c n shape = began s seat call c (Some n) (reserved_in n shape s.graph)

with_renamed : (r : Renaming) (s : State) (seat : ℕ) (call : Call) (c n : ℕ) (shape : Shape) → renamed r (with_number s seat call c n shape) ≡ with_number (renamed r s) seat call c (r.to n) shape
with_renamed r s seat call c n shape = began_renamed r s seat call c (Some n) (reserved_in n shape s.graph) ∙ ap (began (renamed r s) seat call c (Some (r.to n))) (reserved_renamed r n shape s.graph)

not_root : (s : State) → Invariant s → (n : ℕ) → s.graph.shape n ≡ None → 0 ≡ n → ⊥
not_root s inv n free e = let root : (names : List Name) × (s.graph.shape 0 ≡ Some (Dir names)) = inv.is_graph.root in let z : ◌≡◌ {A = Option Shape} None (Some (Dir root.0)) = sym free ∙ ap s.graph.shape (sym e) ∙ root.1 in cc

-- with another number it is the same, renamed
number_alike : (r : Renaming) (s : State) → Run s → (seat : ℕ) (call : Call) (c n m : ℕ) (shape : Shape) → s.graph.shape n ≡ None → (renamed r s).graph.shape m ≡ None → Alike (with_number s seat call c n shape) (with_number (renamed r s) seat call c m shape)
number_alike r s run seat call c n m shape free other = (
  after r (swapping s n (r.from m) both),
  sym
      (renamed_after r (swapping s n (r.from m) both) (with_number s seat call c n shape)
      ∙ ap (renamed r)
      (with_renamed (swapping s n (r.from m) both) s seat call c n shape
      ∙ ap₂ (λ (x : State) (y : ℕ). with_number x seat call c y shape) (swap_stays s (run_keeps s run) (numbers_kept s run) n (r.from m) both) (swapped s n (r.from m) both))
      ∙ with_renamed r s seat call c (r.from m) shape
      ∙ ap (λ (y : ℕ). with_number (renamed r s) seat call c y shape) (r.back m)),
)
  where
    both : Free s n (r.from m)
    both = record { first = free; second = other; first_root = not_root s (run_keeps s run) n free; second_root = not_root s (run_keeps s run) (r.from m) other }

begin_alike : (r : Renaming) (s : State) → Run s → (seat c d : ℕ) (call : Call) (new other : State) → Begins s seat call (Ok c) new → Begins (renamed r s) seat call (Ok d) other → Alike new other
begin_alike r s run seat c d call new other (off, number, a) (off_b, number_b, b) = go (reserved_by call) a b
  where
    same : d ≡ c
    same = number_b ∙ sym number

    go : (o : Option Shape) → Reserves s seat call c o new → Reserves (renamed r s) seat call d o other → Alike new other
    go None e f = (r, f ∙ ap (λ (x : ℕ). began (renamed r s) seat call x None (renamed_graph r s.graph)) same ∙ sym (began_renamed r s seat call c None s.graph) ∙ ap (renamed r) (sym e))
    go (Some shape) (n, less, free, e) (m, less_b, free_b, f) =
        subst (λ (x : State). Alike x other) (sym e)
        (subst (λ (x : State). Alike (with_number s seat call c n shape) x) (sym (f ∙ ap (λ (x : ℕ). with_number (renamed r s) seat call x m shape) same)) (number_alike r s run seat call c n m shape free free_b))

pub begins_alike : (a b : State) → Run a → (seat c d : ℕ) (call : Call) (new other : State) → Alike a b → Begins a seat call (Ok c) new → Begins b seat call (Ok d) other → Alike new other
begins_alike a b run seat c d call new other (r, is) f g = begin_alike r a run seat c d call new other f (subst (λ (x : State). Begins x seat call (Ok d) other) is g)

-- ---- steps

pub steps_alike : (a b : State) (seat : ℕ) (answer reply : Stepped) (new other : State) → Alike a b → Step a seat answer new → Step b seat reply other → Alike new other
steps_alike a b seat answer reply new other (r, is) f g =
    let mine : Step b seat (renamed_answer r answer) (renamed r new) = subst (λ (x : State). Step x seat (renamed_answer r answer) (renamed r new)) (sym is) (step_renamed r a new seat answer f) in
    (r, (one_step b seat reply (renamed_answer r answer) other (renamed r new) g mine).1)

-- ---- runs

-- with the numbers renamed, the timeline begins again at one tree
pub again_alike : (a b : State) → Alike a b → Alike (begun_again a) (begun_again b)
again_alike a b (r, is) = (r, ap begun_again is)

pub alike_start : (limits : Limits) (limit : ℕ) → Alike (empty limits limit) (empty limits limit)
alike_start limits limit = (nothing, nothing_empty limits limit)

twin_run : (a b : State) → Twins a b → Run a
twin_run a b (Started limits limit least) = Starting limit (root_start limits) empty_graph (starts_empty limits limit least)
twin_run a b (Again {first} {second} twins idle other) = timelines_begin_again first (twin_run first second twins) idle
twin_run a b (Began {first} {second} seat c d call new other twins f g) = Beginning seat call (Ok c) new (twin_run first second twins) f
twin_run a b (Went {first} {second} seat answer reply new other twins f g) = Stepping seat answer new (twin_run first second twins) f

twins_alike : (a b : State) → Twins a b → Alike a b
twins_alike a b (Started limits limit least) = alike_start limits limit
twins_alike a b (Again {first} {second} twins idle other) = again_alike first second (twins_alike first second twins)
twins_alike a b (Began {first} {second} seat c d call new other twins f g) = begins_alike first second (twin_run first second twins) seat c d call new other (twins_alike first second twins) f g
twins_alike a b (Went {first} {second} seat answer reply new other twins f g) = steps_alike first second seat answer reply new other (twins_alike first second twins) f g

pub alike_one : (a b : State) → Alike a b → AreOne a b
alike_one a b (r, is) = record { timeline = ap (λ (s : State). s.timeline) is; spelled = ap (λ (s : State). graph_shapes s.graph) is ∙ shapes_renamed r a.graph }

pub twins_are_one : (a b : State) → Twins a b → AreOne a b
twins_are_one a b twins = alike_one a b (twins_alike a b twins)
