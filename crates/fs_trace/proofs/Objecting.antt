-- Objects that are added one after the other, as the loops do it.
use Rattle.std.proofs.Common.{◌≡◌, ℕ, List, [], ◌∷◌, ◌++◌, map, Bool, refl, sym, ap, ◌∙◌, subst, append_assoc, append-nil}
use Rattle.std.specs.List.{flat_map}
use Rattle.std.specs.Prelude.{codes}
use Rattle.std.proofs.lemmas.Grind.{flat_map-append}
use Rattle.fs_calls.specs.Tree.{Tree}
use Rattle.fs_words.specs.JsonObjects.{Member, Number, Text, object_text}
use Rattle.fs_machine.specs.States.{State}
use Rattle.fs_script.specs.TreeText.{tree_text, IsSpelled}
use Rattle.fs_sched.specs.RunTexts.{number_of}
use Rattle.fs_sched.specs.code.Counts.{AreCounts}
use Rattle.fs_sched.specs.declared.run_texts.Counts.{Counts}
use Rattle.fs_sched.specs.declared.run_texts.EntryKind.TheVariants as kind
use Rattle.fs_trace_story.specs.Shown.{deed_told, shown, Saying}
use Rattle.fs_trace.specs.Objects.{end_object, thread_object, told_members, AreObjects, IsObjectOf, IsObjectText}
use Rattle.fs_trace.specs.code.ObjectTexts.{AddsObject, AddsObjects, AddsSome, HasObjects, IsObjectsStart}
use Rattle.fs_timeline.specs.declared.entry.Entry.{Entry}
use Rattle.fs_trace.specs.declared.objects.TraceObjects.{TraceObjects}
use Rattle.fs_sched_witness.specs.declared.moments.Moment.{Moment}

-- there are no objects where a trace begins
pub objects_none : (page : TraceObjects) → HasObjects page page []
objects_none page = (refl, refl, ([], refl, sym (append-nil page.text.added)))

-- an object behind the others
objects_behind : (names : List (List ℕ)) (told : List Saying) (s : Saying) (lines line : List ℕ) → AreObjects names told lines → IsObjectOf (told_members names s) line → AreObjects names (told ++ s ∷ []) (lines ++ line)
objects_behind names [] s lines line none is = (line, [], is, refl, ap (λ (l : List ℕ). l ++ line) none ∙ sym (append-nil line))
objects_behind names (t ∷ told) s lines line (first, rest, is_first, are, e) is = (first, rest ++ line, is_first, objects_behind names told s rest line are is, ap (λ (l : List ℕ). l ++ line) e ∙ append_assoc first rest line)

pub objects_more : (names : List (List ℕ)) (told : List Saying) (s : Saying) (first old new : List ℕ) → AddsObjects names told first old → AddsObject (told_members names s) old new → AddsObjects names (told ++ s ∷ []) first new
objects_more names told s first old new (lines, are, e) (line, is, adds) =
    (lines ++ line, objects_behind names told s lines line are is, adds ∙ ap (λ (l : List ℕ). l ++ line) e ∙ append_assoc first lines line)

-- some objects: none, one, and more behind others
pub some_none : (text : List ℕ) → AddsSome text text
some_none text = ([], sym (append-nil text))

pub some_one : (members : List Member) (old new : List ℕ) → new ≡ old ++ object_text members → AddsSome old new
some_one members old new e = (members ∷ [], e ∙ ap (λ (l : List ℕ). old ++ l) (sym (append-nil (object_text members))))

pub some_more : (first old new : List ℕ) → AddsSome first old → AddsSome old new → AddsSome first new
some_more first old new (objects, e) (others, f) = (
  objects ++ others,
  f ∙ ap (λ (l : List ℕ). l ++ flat_map object_text others) e ∙ append_assoc first (flat_map object_text objects) (flat_map object_text others)
      ∙ ap (λ (l : List ℕ). first ++ l) (sym (flat_map-append object_text objects others)),
)

-- the whole trace
pub objects_are : (every : Bool) (names : List (List ℕ)) (ms : List Moment) (last : State) (start page : TraceObjects) (left ended text : List ℕ) → IsObjectsStart names start → HasObjects start page (map deed_told (shown every ms)) → AddsSome page.text.added left
    → ((t : Tree) × IsSpelled last.graph t × (ended ≡ left ++ end_object t last.timeline)) → text ≡ page.text.before ++ ended → IsObjectText every names ms last text
objects_are every names ms last start page left ended text (is_names, none, starts) (same_names, same, (lines, are, e)) (objects, f) (t, spelled, g) is =
    let threads : List ℕ = flat_map thread_object names in
    let others : List ℕ = flat_map object_text objects in
    let end : List ℕ = end_object t last.timeline in (
      lines,
      objects,
      t,
      subst (λ (n : List (List ℕ)). AreObjects n (map deed_told (shown every ms)) lines) is_names are,
      spelled,
      is ∙ ap (λ (l : List ℕ). l ++ ended) (same ∙ none) ∙ g ∙ ap (λ (l : List ℕ). l ++ end) (f ∙ ap (λ (l : List ℕ). l ++ others) (e ∙ ap (λ (l : List ℕ). l ++ lines) starts))
          ∙ append_assoc ((threads ++ lines)) others end ∙ append_assoc threads lines (others ++ end),
    )

-- the last object, by its members
pub end_is : (t : Tree) (es : List Entry) (counts : Counts) (tree old new : List ℕ) (did of_tree begun committed returned : Member) → tree ≡ tree_text t → AreCounts counts es → did ≡ (codes "did", Text (codes "ends")) → of_tree ≡ (codes "tree", Text tree)
    → begun ≡ (codes "begun", Number counts.begun) → committed ≡ (codes "committed", Number counts.committed) → returned ≡ (codes "returned", Number counts.returned)
    → new ≡ old ++ object_text (did ∷ of_tree ∷ begun ∷ committed ∷ returned ∷ []) → new ≡ old ++ end_object t es
end_is t es counts tree old new did of_tree begun committed returned is are a b c d e f =
    let last : Member → List ℕ = λ m. old ++ object_text (did ∷ of_tree ∷ begun ∷ committed ∷ m ∷ []) in
    f ∙ ap last (e ∙ ap (λ (n : ℕ). (codes "returned", Number n)) are.returned)
    ∙ ap (λ (m : Member). old ++ object_text (did ∷ of_tree ∷ begun ∷ m ∷ (codes "returned", Number (number_of kind.Return es)) ∷ [])) (d ∙ ap (λ (n : ℕ). (codes "committed", Number n)) are.committed)
    ∙ ap (λ (m : Member). old ++ object_text (did ∷ of_tree ∷ m ∷ (codes "committed", Number (number_of kind.Commit es)) ∷ (codes "returned", Number (number_of kind.Return es)) ∷ [])) (c ∙ ap (λ (n : ℕ). (codes "begun", Number n)) are.begun)
    ∙ ap (λ (m : Member). old ++ object_text (did ∷ m ∷ (codes "begun", Number (number_of kind.Begin es)) ∷ (codes "committed", Number (number_of kind.Commit es)) ∷ (codes "returned", Number (number_of kind.Return es)) ∷ [])) (b ∙ ap (λ (x : List ℕ). (codes "tree", Text x)) is)
    ∙ ap (λ (m : Member). old ++ object_text (m ∷ (codes "tree", Text (tree_text t)) ∷ (codes "begun", Number (number_of kind.Begin es)) ∷ (codes "committed", Number (number_of kind.Commit es)) ∷ (codes "returned", Number (number_of kind.Return es)) ∷ [])) a
