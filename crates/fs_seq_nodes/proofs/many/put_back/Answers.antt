use Rattle.std.proofs.Common.{subst, ◌+◌}
use Rattle.fs_seq_nodes.specs.code.Lists.{IsGap, before}
use Rattle.fs_seq_nodes.proofs.ListEdits.{put_links, put_count}
use Rattle.fs_seq_nodes.proofs.many.put_back.Goals as goal

pub returns-then-i-room-clause-links : goal.returns-then-i-room-clause-links
returns-then-i-room-clause-links c =
    put_links c.args.lists.now.items c.deref.result.now c.carry_up.new.lists.items c.belongs-i.result.0 c.belongs-i.result.1 c.args.link c.name.result.now c.deref.ensures.value c.name.ensures c.belongs-i.ensures.name c.carry_up.ensures.links

pub returns-then-i-room-clause-len : goal.returns-then-i-room-clause-len
returns-then-i-room-clause-len c =
    let gap = subst (λ z. IsGap z (before z c.belongs-i.result.0 + c.belongs-i.result.1) c.belongs-i.result.0 c.belongs-i.result.1) c.deref.ensures.value c.belongs-i.ensures.gap in
    put_count c.args.lists.now.items c.carry_up.new.lists.items c.belongs-i.result.0 c.belongs-i.result.1 c.args.link gap.list gap.within c.carry_up.ensures.links

pub returns-else-i-room-clause-links : goal.returns-else-i-room-clause-links
returns-else-i-room-clause-links c =
    put_links c.args.lists.now.items c.deref.result.now c.carry_down.new.lists.items c.belongs-i.result.0 c.belongs-i.result.1 c.args.link c.name.result.now c.deref.ensures.value c.name.ensures c.belongs-i.ensures.name c.carry_down.ensures.links

pub returns-else-i-room-clause-len : goal.returns-else-i-room-clause-len
returns-else-i-room-clause-len c =
    let gap = subst (λ z. IsGap z (before z c.belongs-i.result.0 + c.belongs-i.result.1) c.belongs-i.result.0 c.belongs-i.result.1) c.deref.ensures.value c.belongs-i.ensures.gap in
    put_count c.args.lists.now.items c.carry_down.new.lists.items c.belongs-i.result.0 c.belongs-i.result.1 c.args.link gap.list gap.within c.carry_down.ensures.links
