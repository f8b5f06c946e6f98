use Rattle.std.proofs.Common.{rules}
use Rattle.std.proofs.lemmas.Fn.{always_returns_same}
use Rattle.fs_names.specs.Keys.{Key, key_cmp}
use Rattle.fs_calls.specs.Tree.{Node}
use Rattle.fs_linearize_flat.proofs.SearchLemmas.{searched}
use Rattle.fs_linearize_flat.proofs.searching.search.Goals as goal

pub returns : goal.returns
returns c = searched c.args.key.now c.args.cells.now c.binary_search_by.result c.requires c.binary_search_by.ensures.bound (c.binary_search_by.ensures.position (λ (l : Key × Node). key_cmp l.0 c.args.key.now) (always_returns_same _ _ _ (λ a r g called. search rules)))
