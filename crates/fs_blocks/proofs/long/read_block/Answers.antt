use Rattle.std.proofs.Common.{ℕ, List, ◌≡◌, ◌-◌, ◌++◌, length, replicate, ap, ◌∙◌, arith}
use Rattle.std.proofs.lemmas.Grind.{common_steps}
use Rattle.std.proofs.lemmas.List.{append_assoc}
use Rattle.fs_blocks.proofs.SpanLemmas.{bytes_from-block}
use Rattle.fs_blocks.proofs.long.read_block.Goals as goal

pub returns-clause-bytes : goal.returns-clause-bytes
returns-clause-bytes c =
    let into = c.args.into.now.items in
    let there = c.part-there.result.now in
    let zeros : List ℕ = replicate (c.args.count - length there) 0 in
    let done : c.resize-room_was_made.new.self.items ≡ (into ++ there) ++ zeros = grind (arith, common_steps) in
    done ∙ append_assoc into there zeros ∙ ap (λ (xs : List ℕ). into ++ xs) (bytes_from-block c.args.block.now c.args.off c.args.count there c.part-there.ensures)
