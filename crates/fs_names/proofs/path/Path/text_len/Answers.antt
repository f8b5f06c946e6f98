use Rattle.std.proofs.Common.{arith, ap, length}
use Rattle.fs_names.proofs.TextLemmas.{name_at, length-names_text-drop, name_short}
use Rattle.fs_names.proofs.path.Path.text_len.Goals as goal

pub loop-name-preserved : goal.loop-name-preserved
loop-name-preserved c =
    let names = c.names-names.result.now in
    let at = name_at names c.loop-name.name-index c.name-item.result c.loop-name-test.true c.name-item.is in
    let short = name_short c.name-item.result c.bytes.ensures.named in
    let bytes = ap length c.bytes.ensures.bytes in
    let text = length-names_text-drop names c.loop-name.name-index c.name-item.result at in
    record { rest = omega (arith, bytes, text, c.loop-name.invariant.rest); few = omega (arith, bytes, short, c.loop-name.invariant.few) }
