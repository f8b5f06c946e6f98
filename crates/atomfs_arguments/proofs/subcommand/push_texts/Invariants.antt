use Rattle.std.proofs.Common.{◌≡◌, ◌++◌, map, take}
use Rattle.atomfs_arguments.specs.Commands.{said}
use Rattle.atomfs_arguments.proofs.subcommand.push_texts.Given as goal

abbrev pub invariant-loop-text : goal.invariant-loop-text
invariant-loop-text l = map said l.asserted.items ≡ map said l.fn.asserted.items ++ map (λ text. (l.quantifier, text.now)) (take l.text-index l.texts)
