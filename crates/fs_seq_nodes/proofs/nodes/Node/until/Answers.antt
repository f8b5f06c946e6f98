use Rattle.std.proofs.Common.{◌-◌, ◌++◌, ap, sym, ◌∙◌, length, take}
use Rattle.std.proofs.lemmas.List.{take-map, map-append}
use Rattle.fs_seq_nodes.specs.code.Entries.{pair, pairs}
use Rattle.fs_seq_nodes.proofs.nodes.Node.until.Goals as goal

pub returns-clause-part : goal.returns-clause-part
returns-clause-part c =
    let part = c.until.result.now in
    let links = c.in-Dir.links in
    rw c.in-Dir.is (take-map pair c.args.end links ∙ ap pairs c.until.ensures.part ∙ map-append pair (take (c.args.end - length part) links) part ∙ ap (λ z. z ++ pairs part) (sym (take-map pair (c.args.end - length part) links)))
