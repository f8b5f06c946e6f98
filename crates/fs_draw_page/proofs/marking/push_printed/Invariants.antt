use Rattle.std.proofs.Common.{◌≡◌, ◌++◌, take}
use Rattle.fs_draw_page.specs.Html.{printed}
use Rattle.fs_draw_page.proofs.marking.push_printed.Given as goal

abbrev pub invariant-loop-byte : goal.invariant-loop-byte
invariant-loop-byte l = l.text.items ≡ l.fn.text.items ++ printed (take l.byte-index l.bytes)
