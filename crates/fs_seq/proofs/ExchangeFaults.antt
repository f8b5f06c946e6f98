-- The errors of an exchange, by what was looked up.
use Rattle.std.proofs.Common.{◌≡◌, false, ◌||◌, [], ◌∷◌, length, ◌<◌, Some, None, Option, Ok, refl, subst}
use Rattle.fs_names.specs.Failures.{check, first_failure}
use Rattle.fs_names.specs.Keys.{Key, is_root, is_proper_prefix}
use Rattle.fs_names.proofs.FailureLemmas.{check-none}
use Rattle.fs_calls.specs.Forms.{AtPair, by_text}
use Rattle.fs_calls.specs.Forms as pairs
use Rattle.fs_calls.specs.Rows.{exchange_errors, exchange_fault}
use Rattle.fs_calls.specs.Sights.{Shape, tree_shapes}
use Rattle.fs_calls.specs.Tree.{Tree}
use Rattle.fs_calls.specs.Outcomes.{parents_resolution}
use Rattle.fs_calls.specs.declared.call.Call.TheVariants.{Exchange}
use Rattle.fs_calls.specs.declared.errno.Errno.{Errno}
use Rattle.fs_calls.specs.declared.errno.Errno.TheVariants.{Ebusy, Einval}
use Rattle.fs_calls.proofs.FaultLemmas.{all_none, or_first, or_second}
use Rattle.fs_seq_nodes.specs.declared.nodes.Entry.{Entry}
use Rattle.fs_seq_nodes.specs.declared.nodes.Spot.{Spot}
use Rattle.fs_seq_nodes.specs.declared.nodes.Spot.TheVariants.{Taken, Free}
use Rattle.fs_seq_nodes.specs.code.Slots.{Slots, tree_of, IsForest}
use Rattle.fs_seq.specs.code.Effects.{HasFault}
use Rattle.fs_seq_nodes.specs.code.Nodes.{LooksUp, IsAt, shape_there, entry_there}
use Rattle.fs_seq.proofs.Spots.{has_names, spot_parents, spot_seen}
use Rattle.fs_seq.proofs.Replies.{fault_by_row}

-- the errors of an exchange, by all that is read
by_sights : (t : Tree) (p q : Key) (source dest : Option Errno) (one other : Option Shape) → by_text (AtPair pairs.Exchange p q) ≡ None
    → parents_resolution t p ≡ source → parents_resolution t q ≡ dest → tree_shapes t p ≡ one → tree_shapes t q ≡ other → HasFault t (Exchange p q) (exchange_fault source dest one other)
by_sights t p q source dest one other text a b c d limits = fault_by_row limits t (Exchange p q) (exchange_fault source dest one other) text (λ i. exchange_fault (a i) (b i) (c i) (d i))

module _ (g : Slots) (forest : IsForest g) (p q : Key) (text : by_text (AtPair pairs.Exchange p q) ≡ None) where
  -- neither path is the root
  roots : is_root p || is_root q ≡ false
  roots = check-none (is_root p || is_root q) Ebusy (all_none (check (is_root p || is_root q) Ebusy ∷ check (is_proper_prefix p q || is_proper_prefix q p) Einval ∷ []) text).0

  -- the first path has a name
  pub named : 0 < length p
  named = has_names p (or_first (is_root p) (is_root q) roots)

  -- and so has the second
  pub other_named : 0 < length q
  other_named = has_names q (or_second (is_root p) (is_root q) roots)

  -- the error of the first path's parent
  pub lost : (e : Errno) → parents_resolution (tree_of g) p ≡ Some e → HasFault (tree_of g) (Exchange p q) (Some e)
  lost e h = by_sights (tree_of g) p q (Some e) _ _ _ text h refl refl refl

  -- the error of the second path's parent
  pub other_lost : (e : Errno) (spot : Spot) → LooksUp g p (Ok spot) → parents_resolution (tree_of g) q ≡ Some e → HasFault (tree_of g) (Exchange p q) (Some e)
  other_lost e spot at h = by_sights (tree_of g) p q None (Some e) _ _ text (spot_parents g forest p named spot at) h refl refl

  -- the errors of what stands at both
  pub met : (one other : Spot) → LooksUp g p (Ok one) → LooksUp g q (Ok other) → HasFault (tree_of g) (Exchange p q) (first_failure (exchange_errors (shape_there g one) (shape_there g other)))
  met one other at to =
      by_sights (tree_of g) p q None None (shape_there g one) (shape_there g other) text (spot_parents g forest p named one at) (spot_parents g forest q other_named other to)
      (spot_seen g forest p named one at) (spot_seen g forest q other_named other to)

-- without an error the first entry is there
pub first_there : (g : Slots) (one other : Spot) → first_failure (exchange_errors (shape_there g one) (shape_there g other)) ≡ None → entry_there one ≡ None → ⊥
first_there g (Taken dir i n) other h none = cc
first_there g (Free dir i entries) other h none = cc

-- and so is the second
pub second_there : (g : Slots) (one other : Spot) → first_failure (exchange_errors (shape_there g one) (shape_there g other)) ≡ None → entry_there other ≡ None → ⊥
second_there g one (Taken dir i n) h none = cc
second_there g one (Free dir i entries) h none = by_first (shape_there g one) h
  where
    by_first : (one : Option Shape) → first_failure (exchange_errors one None) ≡ None → ⊥
    by_first None e = cc
    by_first (Some s) e = cc

-- an entry that stands where a path was looked up is the entry at the path
pub at_path : (g : Slots) (p : Key) (spot : Spot) (entry : Entry) → LooksUp g p (Ok spot) → entry_there spot ≡ Some entry → IsAt g p entry
at_path g p (Taken dir i n) entry at is = subst (IsAt g p) (only_some is) at
  where
    only_some : {A : Type 0} {a b : A} → Some a ≡ Some b → a ≡ b
    only_some e = cc
at_path g p (Free dir i entries) entry at is = absurd (cc)
