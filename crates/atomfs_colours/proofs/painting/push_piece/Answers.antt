use Rattle.std.proofs.lemmas.Result.{on_ok_weaker}
use Rattle.atomfs_colours.proofs.Plain.{shows_more}
use Rattle.atomfs_colours.proofs.painting.push_piece.Goals as goal

pub returns : goal.returns
returns c before none shows =
    on_ok_weaker c.push-3.result
    (λ e. shows_more c.args.painted.now.items c.opening.result.now c.args.piece.now c.closing.result.now c.push.new.painted.items c.push-2.new.painted.items c.push-3.new.painted.items before c.in_ok-push.ensures c.in_ok-push-2.ensures e c.opening.ensures c.closing.ensures none shows) c.push-3.ensures
