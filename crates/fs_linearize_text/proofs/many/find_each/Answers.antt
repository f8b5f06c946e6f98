use Rattle.std.proofs.Common.{refl, length, take, drop, ◌-◌}
use Rattle.fs_linearize_text.proofs.ManyLemmas.{step_told, rest_all, within_more}
use Rattle.fs_linearize_text.proofs.many.find_each.Goals as goal

pub pieces-preserved : goal.pieces-preserved
pieces-preserved g c =
    let lines = c.args.lines.now in
    let at = c.pieces.at in
    let count = c.piece_length-count.result in
    record {
      within = within_more lines at count c.pieces.invariant.within c.piece_length-count.ensures.most;
      told = step_told c.args.dialect.now _ at count c.args.limit lines (take (length lines - at) (drop at lines)) (take count (take (length lines - at) (drop at lines)))
          c.pieces.told.outcomes.items c.push_piece.new.told.outcomes.items c.pieces.told.text.items c.push_piece.new.told.text.items
          (rest_all at lines) refl c.piece_length-count.ensures.most c.piece_length-count.ensures.cut c.pieces.invariant.told c.in_ok-push_piece.ensures.ok;
    }
