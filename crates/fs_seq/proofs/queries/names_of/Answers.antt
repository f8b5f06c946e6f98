use Rattle.std.proofs.Common.{◌≡◌, ◌+◌, ◌-◌, ◌≤◌, ◌++◌, Some, arith, ap, sym, ◌∙◌, length, map, take, drop}
use Rattle.std.proofs.lemmas.List.{length-take-le}
use Rattle.fs_seq_nodes.specs.code.Nodes.{place, pairs}
use Rattle.fs_seq_nodes.specs.code.Slots.{links_of}
use Rattle.fs_seq.proofs.NameParts.{some_names, names_more}
use Rattle.fs_seq.proofs.Replies.{on_err}
use Rattle.fs_seq.proofs.queries.names_of.Goals as goal

pub returns-in_err-names-clause-memory : goal.returns-in_err-names-clause-memory
returns-in_err-names-clause-memory c = on_err c.from_residual.result (some_names (links_of (Some (place c.args.node.now))) c.args.from c.args.end c.requires.from c.requires.end c.in_err-names.ensures.some)

pub loop-at-preserved : goal.loop-at-preserved
loop-at-preserved c =
    let all = links_of (Some (place c.args.node.now)) in
    let names = map (λ l. l.0) all in
    let from = c.args.from in
    let at = c.loop-at.at in
    let run = c.from-links.result.now in
    let m = c.min.result in
    let least = c.min.ensures in
    let before = c.loop-at.invariant.from in
    let within = c.loop-at.invariant.within in
    let room = c.loop-at.invariant.room in
    let left = c.push_names.ensures.room in
    let few : m ≤ length run = omega (arith, least) in
    let long : length (take m run) ≡ m = length-take-le m run few in record {
      names = c.push_names.ensures.names ∙ ap (λ z. z ++ map (λ l. l.0) (pairs (take m run))) c.loop-at.invariant.names ∙ names_more all run from at m before c.from-links.ensures.part few ∙ ap (λ n. take (at + n - from) (drop from names)) (sym long);
      from = omega (arith, before);
      within = omega (arith, within, least, long);
      room = omega (arith, room, left, least, long);
    }
