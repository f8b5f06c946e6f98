use Rattle.std.proofs.Common.{rules}
use Rattle.std.specs.Ordering.{is_lt}
use Rattle.std.proofs.lemmas.List.Sorted.{IsPartitionPoint-from_clause}
use Rattle.fs_names.specs.Keys.{Key, key_cmp}
use Rattle.fs_calls.specs.Tree.{Node}
use Rattle.fs_linearize_flat.proofs.RangeLemmas.{less_first}
use Rattle.fs_linearize_flat.proofs.searching.count_before.Goals as goal

pub returns-clause-before : goal.returns-clause-before
returns-clause-before c = (IsPartitionPoint-from_clause (λ (l : Key × Node). is_lt (key_cmp l.0 c.args.key.now)) _ _ c.partition_point.ensures.partitioned (less_first c.args.key.now c.args.cells.now c.requires) (λ a r q k. search rules)).0

pub returns-clause-behind : goal.returns-clause-behind
returns-clause-behind c = (IsPartitionPoint-from_clause (λ (l : Key × Node). is_lt (key_cmp l.0 c.args.key.now)) _ _ c.partition_point.ensures.partitioned (less_first c.args.key.now c.args.cells.now c.requires) (λ a r q k. search rules)).1
