use Rattle.std.proofs.Common.{subst, ◌+◌}
use Rattle.fs_seq_nodes.specs.code.Entries.{pairs}
use Rattle.fs_seq_nodes.specs.code.Lists.{flat, before, Bisects, shifted}
use Rattle.fs_seq_nodes.proofs.LinkLemmas.{not_in_place}
use Rattle.fs_seq_nodes.proofs.SearchLemmas.{parted, in_place, true_T}
use Rattle.fs_seq_nodes.proofs.many.belongs.Goals as goal

pub unreachable-requires : goal.unreachable-requires
unreachable-requires c =
    let ls = c.args.lists.now in
    let x = c.args.name.now in
    let found = subst (λ r. Bisects x (flat ls) (shifted (before ls c.locate.result.0) r)) c.in_default-Ok.is-1 c.locate.ensures.whole in
    not_in_place (pairs (flat ls)) x (before ls c.locate.result.0 + c.in_default-Ok.field-0-1) c.requires.absent (in_place x (flat ls) _ (true_T _ c.requires.rising) found.within found.same)

pub returns-clause-name : goal.returns-clause-name
returns-clause-name c =
    let ls = c.args.lists.now in
    let x = c.args.name.now in
    let found = subst (λ r. Bisects x (flat ls) (shifted (before ls c.locate.result.0) r)) c.in_default-Err.is-1 c.locate.ensures.whole in
    (parted x (flat ls) (before ls c.locate.result.0 + c.in_default-Err.at) found).placed
