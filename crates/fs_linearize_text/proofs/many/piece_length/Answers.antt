use Rattle.std.proofs.Common.{List, ℕ, ◌≤◌, length, subst, ap, ◌∙◌}
use Rattle.std.specs.Borrow.{Bor}
use Rattle.fs_words.proofs.ReadLemmas.{words_in}
use Rattle.fs_linearize_text.specs.code.Each.{lines_before}
use Rattle.fs_linearize_text.proofs.ManyLemmas.{piece_cut, rest_all}
use Rattle.fs_linearize_text.proofs.many.piece_length.Goals as goal

pub returns-clause-cut : goal.returns-clause-cut
returns-clause-cut c =
    let behind = rest_all 1 c.args.lines.now in
    piece_cut c.args.lines.now c.lines_before.result c.requires
    (c.lines_before.ensures.is ∙ ap (λ (xs : List (Bor (List ℕ))). lines_before (words_in xs)) behind)
    (subst (λ (xs : List (Bor (List ℕ))). c.lines_before.result ≤ length xs) behind c.lines_before.ensures.most)
