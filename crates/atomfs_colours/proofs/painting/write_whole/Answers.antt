use Rattle.std.proofs.Common.{rules, arith, ◌≡◌, ◌-◌, length, drop, take, length-drop}
use Rattle.fs_verdict.proofs.KnownLemmas.{take_rest}
use Rattle.atomfs_colours.proofs.painting.write_whole.Goals as goal

pub texts-preserved : goal.texts-preserved
texts-preserved g c =
    let text = c.args.text.now in
    let at = c.texts.at in
    let piece : take (length text - at) (drop at text) ≡ drop at text = take_rest text at in
    let bound = rw piece at c.in-Ok.ensures.bound in
    record {
      within = omega (arith, length-drop at text);
      quiet = search rules;
    }
