use Rattle.std.proofs.Common.{ℕ, List, ◌≡◌, ◌+◌, ◌-◌, length, take, drop, sym, ap, ◌∙◌, arith}
use Rattle.std.proofs.lemmas.List.{length-take, length-drop, drop-drop, drop-take}
use Rattle.fs_blocks.proofs.piece.Piece.split_at.Goals as goal

pub returns-clause-back : goal.returns-clause-back
returns-clause-back c =
    let whole = c.self.inside.whole.now in
    let start = c.self.inside.start in
    let end = c.self.inside.end in
    let count = c.args.count in
    let left = end - (start + count) in
    let len : length (take (end - start) (drop start whole)) ≡ length c.args.self.now = ap (λ (xs : List ℕ). length xs) c.self.view_is in
    let all : count + left ≡ end - start = omega (arith, length-take (end - start) (drop start whole), length-drop start whole) in
    ap (λ (xs : List ℕ). take left xs) (sym (drop-drop count start whole))
    ∙ sym (drop-take count left (drop start whole))
    ∙ ap (λ (n : ℕ). drop count (take n (drop start whole))) all
    ∙ ap (λ (xs : List ℕ). drop count xs) c.self.view_is
