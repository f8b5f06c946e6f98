use Rattle.std.proofs.Common.{rules, arith, ◌≡◌, ◌-◌, length, drop, take, length-drop}
use Rattle.fs_verdict.proofs.KnownLemmas.{Appends_piece, take_rest}
use Rattle.fs_verdict.proofs.sink.write_text.Goals as goal

pub loop-at-preserved : goal.loop-at-preserved
loop-at-preserved g c =
    let text = c.args.text.now in
    let at = c.loop-at.at in
    let piece : take (length text - at) (drop at text) ≡ drop at text = take_rest text at in
    let took = rw piece at c.in-Ok.ensures.bytes in
    let bound = rw piece at c.in-Ok.ensures.bound in
    record {
      within = omega (arith, length-drop at text);
      held = Appends_piece _ _ _ text at c.in-Ok.count c.loop-at.invariant.held took;
      quiet = search rules;
    }
