use Rattle.std.proofs.Common.{◌≡◌, ◌++◌, length}
use Rattle.fs_embed.specs.Texts.{names_text}
use Rattle.fs_embed.specs.code.Shown.{fitting}
use Rattle.fs_embed.proofs.names.push_fitting.Given as goal

abbrev pub invariant-names : goal.invariant-names
invariant-names l = l.text.items ++ names_text (fitting l.free l.left) ≡ l.fn.text.items ++ names_text (fitting l.room l.fn.left)

abbrev pub decreases-names : goal.decreases-names
decreases-names l = length l.left
