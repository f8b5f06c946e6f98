use Rattle.std.proofs.Common.{◌≡◌, ◌++◌, length}
use Rattle.fs_embed.specs.Texts.{names_text}
use Rattle.fs_embed.proofs.names.names_text.Given as goal

abbrev pub invariant-names : goal.invariant-names
invariant-names l = l.text.items ++ names_text l.left ≡ names_text l.names

abbrev pub decreases-names : goal.decreases-names
decreases-names l = length l.left
