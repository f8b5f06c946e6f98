use Rattle.std.proofs.Common.{refl, length, take, drop, ◌-◌}
use Rattle.fs_linearize_text.proofs.ManyLemmas.{rest_all, within_more}
use Rattle.fs_linearize_text.proofs.LearningLemmas.{read_more}
use Rattle.fs_linearize_text.proofs.learning.pieces_in.Goals as goal

pub pieces-preserved : goal.pieces-preserved
pieces-preserved c =
    let lines = c.args.lines.now in
    let at = c.pieces.at in
    let count = c.piece_length-count.result in
    let read = c.in_ok-push_piece.ensures.ok in
    record {
      within = within_more lines at count c.pieces.invariant.within c.piece_length-count.ensures.most;
      read = read_more c.args.dialect.now _ at count lines (take (length lines - at) (drop at lines)) (take count (take (length lines - at) (drop at lines)))
          c.pieces.pieces.items c.push_piece.new.pieces.items read.piece (rest_all at lines) refl c.piece_length-count.ensures.most c.piece_length-count.ensures.cut c.pieces.invariant.read read.read read.pushed;
    }
