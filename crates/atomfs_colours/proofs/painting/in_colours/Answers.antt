use Rattle.std.proofs.Common.{◌≡◌, ℕ, false, List, [], ◌++◌, refl, sym, ap, ◌∙◌, append_assoc, length, arith}
use Rattle.std.proofs.lemmas.Bool.Decides.{nat_tests}
use Rattle.std.proofs.lemmas.Grind.{common_steps}
use Rattle.atomfs_colours.specs.Colours.{has_escape, plain_on}
use Rattle.atomfs_colours.proofs.Plain.{all_plain, escape_parts}
use Rattle.atomfs_colours.proofs.painting.in_colours.Goals as goal

pub pieces-init : goal.pieces-init
pieces-init c none = ([], refl, none, λ rest. ap (λ (l : List ℕ). plain_on false (l ++ rest)) c.new-painted.ensures.items)

pub pieces-preserved : goal.pieces-preserved
pieces-preserved c none =
    let told = c.pieces.invariant none in
    let piece = c.split_at.result.0.now in
    let rest = c.split_at.result.1.now in
    let whole : c.pieces.left.now ≡ piece ++ rest = c.split_at.ensures.by_index.0 in
    let parts = escape_parts piece rest (ap has_escape (sym whole) ∙ told.2) in
    (told.0 ++ piece, told.1 ∙ ap (λ (l : List ℕ). told.0 ++ l) whole ∙ sym (append_assoc told.0 piece rest), parts.1, c.in_ok-push_piece.ensures told.0 parts.0 told.3)

pub returns : goal.returns
returns c none =
    let zero : length c.pieces.left.now ≡ 0 = grind (arith, nat_tests, common_steps) in
    all_plain c.args.text.now c.pieces.left.now c.pieces.painted.items zero none c.pieces.invariant
