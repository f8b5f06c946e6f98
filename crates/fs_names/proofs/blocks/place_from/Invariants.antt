use Rattle.memchr.specs.Find.{Nowhere, Passes, is_byte}
use Rattle.fs_names.proofs.blocks.place_from.Given as goal

-- the byte is not passed
abbrev pub invariant-loop-at : goal.invariant-loop-at
invariant-loop-at l = Nowhere (Passes (is_byte l.byte) l.text) l.start l.at
