use Rattle.std.proofs.Common.{rules, not}
use Rattle.std.proofs.lemmas.List.Sorted.{IsPartitionPoint-from_clause}
use Rattle.fs_seq_nodes.specs.code.Lists.{begins_above}
use Rattle.fs_seq_nodes.proofs.ListSearch.{lists_parted, list_found}
use Rattle.fs_seq_nodes.proofs.many.list_of.Goals as goal

pub returns : goal.returns
returns c =
    let x = c.args.bytes.now in
    let lists = c.args.lists.now in
    let n = c.partition_point.result in
    let cut = IsPartitionPoint-from_clause (λ l. not (begins_above x l)) lists n c.partition_point.ensures.partitioned (lists_parted x lists c.requires.rising c.requires.lists) (λ a r g called. search rules) in
    list_found x lists n c.saturating_sub.result c.requires.some c.partition_point.ensures.bound c.saturating_sub.ensures cut.0 cut.1
