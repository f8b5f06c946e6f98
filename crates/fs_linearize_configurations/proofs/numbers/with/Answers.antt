use Rattle.std.proofs.Common.{◌≡◌, ◌++◌, ap, ◌∙◌}
use Rattle.std.specs.List.{insert}
use Rattle.fs_linearize_configurations.proofs.NumberLemmas.{insert_placed}
use Rattle.fs_linearize_configurations.proofs.numbers.with.Goals as goal

pub returns : goal.returns
returns c =
    let number = c.args.number in
    let numbers = c.args.numbers.now in
    let copied : c.extend_from_slice.new.self.items ≡ numbers = c.in_ok-extend_from_slice.ensures.items ∙ ap (λ xs. xs ++ numbers) c.in_ok-all.ensures.items in
    c.in_ok-insert.ensures.items ∙ ap (λ xs. insert xs c.place_of.result number) copied ∙ ap (λ place. insert numbers place number) c.place_of.ensures.place ∙ insert_placed number numbers
