use Rattle.std.proofs.Common.{◌≡◌, ◌-◌, ◌++◌, Some, take, length, sym, subst, arith}
use Rattle.std.proofs.lemmas.List.{length-map}
use Rattle.fs_seq_nodes.specs.code.Nodes.{place, pair, pairs}
use Rattle.fs_seq_nodes.specs.code.Slots.{links_of}
use Rattle.fs_seq.proofs.Ahead.{ahead_more, part_short, none_ahead, all_ahead}
use Rattle.fs_seq.proofs.rows.push_entries.Goals as goal

pub loop-left-init : goal.loop-left-init
loop-left-init c =
    let all = links_of (Some (place c.args.node.now)) in record {
      ahead = sym (none_ahead c.args.key.now all c.entries-left.result c.args.ahead.now.items c.entries-left.ensures);
      within = omega (arith, c.entries-left.ensures);
    }

pub overflow_sub-left : goal.overflow_sub-left
overflow_sub-left c =
    let all = links_of (Some (place c.args.node.now)) in
    let run = c.until-links.result.now in
    let long : length (pairs run) ≡ length run = length-map run pair in
    let part = subst (λ n. take c.loop-left.left all ≡ take (c.loop-left.left - n) all ++ pairs run) (sym long) c.until-links.ensures.part in
    let short = part_short all (pairs run) c.loop-left.left c.loop-left.invariant.within part in
    omega (arith, short, long)

pub loop-left-preserved : goal.loop-left-preserved
loop-left-preserved c =
    let all = links_of (Some (place c.args.node.now)) in
    let run = c.until-links.result.now in
    let long : length (pairs run) ≡ length run = length-map run pair in
    let within = c.loop-left.invariant.within in
    let part = subst (λ n. take c.loop-left.left all ≡ take (c.loop-left.left - n) all ++ pairs run) (sym long) c.until-links.ensures.part in record {
      ahead = ahead_more c.args.key.now all (pairs run) c.loop-left.left (length run) c.args.ahead.now.items c.loop-left.ahead.items c.push_links.new.ahead.items within (sym long) part c.loop-left.invariant.ahead c.in_ok-push_links.ensures;
      within = omega (arith, within);
    }

pub returns : goal.returns
returns c =
    let none : c.loop-left.left ≡ 0 = omega (arith, c.loop-left-test.false) in
    all_ahead c.args.key.now (links_of (Some (place c.args.node.now))) c.loop-left.left c.args.ahead.now.items c.loop-left.ahead.items none c.loop-left.invariant.ahead
