-- Objects that are added one after the other.
use Rattle.std.proofs.Common.{◌≡◌, ℕ, List, [], ◌∷◌, ◌++◌, sym, ap, ◌∙◌, append_assoc, append-nil}
use Rattle.std.specs.List.{flat_map}
use Rattle.std.proofs.lemmas.Grind.{flat_map-append}
use Rattle.fs_words.specs.JsonObjects.{Member, object_text}
use Rattle.fs_trace_entries.specs.code.Mades.{AddsSome}

-- none, one, and more behind others
pub some_none : (text : List ℕ) → AddsSome text text
some_none text = ([], sym (append-nil text))

pub some_one : (members : List Member) (old new : List ℕ) → new ≡ old ++ object_text members → AddsSome old new
some_one members old new e = (members ∷ [], e ∙ ap (λ (l : List ℕ). old ++ l) (sym (append-nil (object_text members))))

pub some_more : (first old new : List ℕ) → AddsSome first old → AddsSome old new → AddsSome first new
some_more first old new (objects, e) (others, f) = (
  objects ++ others,
  f ∙ ap (λ (l : List ℕ). l ++ flat_map object_text others) e ∙ append_assoc first (flat_map object_text objects) (flat_map object_text others)
      ∙ ap (λ (l : List ℕ). first ++ l) (sym (flat_map-append object_text objects others)),
)
