use Rattle.std.proofs.Common.{◌≡◌, length}
use Rattle.fs_embed.specs.code.Shown.{behind}
use Rattle.fs_embed.proofs.names.first_behind.Given as goal

abbrev pub invariant-names : goal.invariant-names
invariant-names l = behind l.after l.left ≡ behind l.after l.fn.left

abbrev pub decreases-names : goal.decreases-names
decreases-names l = length l.left
