use Rattle.std.proofs.Common.{◌≡◌, ◌++◌, take}
use Rattle.fs_draw_page.specs.code.Marks.{marked}
use Rattle.fs_draw_page.proofs.marking.push_marked.Given as goal

abbrev pub invariant-loop-byte : goal.invariant-loop-byte
invariant-loop-byte l = l.text.items ≡ l.fn.text.items ++ marked (take l.byte-index l.bytes)
