use Rattle.std.proofs.Common.{◌≡◌, ℕ, List, sym, ◌∙◌}
use Rattle.fs_linearize_sparse.specs.code.Extents.{bytes_left, piece_bytes}
use Rattle.fs_linearize_sparse.proofs.RestLemmas.{parts_same, rests_same, rest_len}
use Rattle.fs_linearize_sparse.proofs.rest.are_same.Goals as goal

pub loop-left-preserved : goal.loop-left-preserved
loop-left-preserved c =
    let count = c.min-count.result in
    let x = bytes_left c.at_hand-x.result in
    let y = bytes_left c.at_hand-y.result in
    let v = bytes_left c.after-x.result in
    let w = bytes_left c.after-y.result in
    let alike : piece_bytes c.front.result ≡ piece_bytes c.front-in-loop-left.result = c.are_alike.ensures.0 c.if-not-are_alike.false in
    record {
      one = rest_len count c.loop-left.left (bytes_left c.loop-left.x) x v c.at_hand-x.ensures.same c.after-x.ensures c.loop-left.invariant.one;
      other = rest_len count c.loop-left.left (bytes_left c.loop-left.y) y w c.at_hand-y.ensures.same c.after-y.ensures c.loop-left.invariant.other;
      same = (
        λ later. c.loop-left.invariant.same.0 (sym c.at_hand-x.ensures.same ∙ parts_same count x y (piece_bytes c.front.result) (piece_bytes c.front-in-loop-left.result) v w c.front.ensures c.front-in-loop-left.ensures alike c.after-x.ensures c.after-y.ensures later ∙ c.at_hand-y.ensures.same),
        λ all. rests_same count x y v w c.after-x.ensures c.after-y.ensures (c.at_hand-x.ensures.same ∙ c.loop-left.invariant.same.1 all ∙ sym c.at_hand-y.ensures.same),
      );
    }
