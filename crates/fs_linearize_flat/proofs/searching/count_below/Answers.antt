use Rattle.std.proofs.Common.{rules}
use Rattle.std.proofs.lemmas.List.Sorted.{IsPartitionPoint-from_clause}
use Rattle.fs_names.specs.Keys.{Key}
use Rattle.fs_calls.specs.Tree.{Node}
use Rattle.fs_linearize_flat.proofs.RangeLemmas.{begins, begins_first}
use Rattle.fs_linearize_flat.proofs.searching.count_below.Goals as goal

pub returns-clause-inside : goal.returns-clause-inside
returns-clause-inside c = (IsPartitionPoint-from_clause (λ (l : Key × Node). begins c.args.key.now l.0) _ _ c.partition_point.ensures.partitioned (begins_first c.args.key.now c.args.cells.now c.requires.sorted c.requires.above) (λ a r q k. search rules)).0

pub returns-clause-behind : goal.returns-clause-behind
returns-clause-behind c = (IsPartitionPoint-from_clause (λ (l : Key × Node). begins c.args.key.now l.0) _ _ c.partition_point.ensures.partitioned (begins_first c.args.key.now c.args.cells.now c.requires.sorted c.requires.above) (λ a r q k. search rules)).1
