-- The end of a run: what each call of the script replied, and the tree.
use Rattle.std.specs.Prelude.{ℕ, ◌≡◌, List, [], ◌∷◌, ◌++◌, map}
use Rattle.std.specs.List.{flat_map}
use Rattle.fs_calls.specs.Tree.{Tree}
use Rattle.fs_machine.specs.States.{State}
use Rattle.fs_script.specs.TreeText.{tree_text, IsSpelled}
pub use Rattle.fs_sched_seen.specs.Calls.{places_of, reply_at}
use Rattle.fs_sched_seen.specs.declared.places.Place.{Place}

-- what each call replied, in the order of the blocks, and the text of the tree
pub record EndValue : Type 0 where
  pub replies : List (List ℕ)
  pub tree : List ℕ

-- a line for each reply, and the tree: two ends are one where these texts are
abbrev pub reply_line : List ℕ → List ℕ
reply_line reply = reply ++ 10 ∷ []

abbrev pub end_text : EndValue → List ℕ
end_text end = flat_map reply_line end.replies ++ end.tree

-- the end of a run of these calls whose last state is this
pub record IsEndOf (places : List Place) (last : State) (end : EndValue) : Type 0 where
  pub replies : end.replies ≡ map (reply_at last.timeline) places
  pub spelled : Tree
  pub is_spelled : IsSpelled last.graph spelled
  pub tree : end.tree ≡ tree_text spelled
