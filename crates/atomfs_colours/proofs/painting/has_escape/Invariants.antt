use Rattle.std.proofs.Common.{◌≡◌, take}
use Rattle.atomfs_colours.specs.Colours.{has_escape}
use Rattle.atomfs_colours.proofs.painting.has_escape.Given as goal

abbrev pub invariant-loop-byte : goal.invariant-loop-byte
invariant-loop-byte l = l.found ≡ has_escape (take l.byte-index l.text)
