use Rattle.std.proofs.Common.{rules}
use Rattle.std.proofs.lemmas.List.Sorted.{IsPartitionPoint-from_clause}
use Rattle.fs_seq_nodes.specs.code.Lists.{is_within}
use Rattle.fs_seq_nodes.proofs.SearchLemmas.{parts}
use Rattle.fs_seq_nodes.proofs.nodes.above.Goals as goal

pub returns : goal.returns
returns c =
    let x = c.args.bytes.now in
    let links = c.args.links.now in
    let cut = IsPartitionPoint-from_clause (is_within x) links c.partition_point.result c.partition_point.ensures.partitioned (parts x links c.requires) (λ a r g called. search rules) in
    record { first = cut.0; second = cut.1; within = c.partition_point.ensures.bound }
