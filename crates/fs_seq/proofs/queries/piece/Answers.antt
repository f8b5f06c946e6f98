use Rattle.std.proofs.Common.{arith, ◌≡◌, ◌+◌, ◌-◌, Some, length, length-drop, map, take, drop, min, sym, ap, ◌∙◌}
use Rattle.std.proofs.lemmas.List.{length-map, take_min}
use Rattle.fs_names.specs.Names.{names_above}
use Rattle.fs_seq_nodes.specs.code.Nodes.{place}
use Rattle.fs_seq_nodes.specs.code.Slots.{links_of}
use Rattle.fs_seq.proofs.NameParts.{drop_names}
use Rattle.fs_seq.proofs.queries.piece.Goals as goal

pub returns-clause-names : goal.returns-clause-names
returns-clause-names c =
    let all = links_of (Some (place c.args.node.now)) in
    let names = map (λ l. l.0) all in
    let from = c.above-from.result in
    let most = c.min-most.result in
    let rest = drop from names in
    let long : length rest ≡ length all - from = length-drop from names ∙ ap (λ n. n - from) (length-map all (λ l. l.0)) in
    let less : from + c.min.result - from ≡ c.min.result = omega arith in
    let count : from + c.min.result - from ≡ min most (length rest) = less ∙ c.min.ensures ∙ ap (min most) (ap (λ n. n - from) c.entries.ensures ∙ sym long) in
    ap (λ k. take k rest) count ∙ take_min most rest ∙ ap (λ n. take n rest) c.min-most.ensures
    ∙ ap (take _) (sym (drop_names all from) ∙ c.above-from.ensures.names ∙ ap (λ x. names_above x names) c.last_bytes.ensures)
