use Rattle.std.proofs.Common.{ℕ, Bool, List, IfOk, ◌≡◌, subst, sym, ap, ◌∙◌}
use Rattle.fs_linearize_dialects.specs.LearnedTables.{table_text}
use Rattle.fs_linearize_text.specs.Learnings.{written_of}
use Rattle.fs_linearize_text.proofs.learning.text_of.Goals as goal

pub returns : goal.returns
returns c =
    let rows = c.args.lessons.now.rows.items in
    subst (λ (t : List ℕ). IfOk c.table_text.result (λ text. text.items ≡ t)) (ap table_text c.as_slice.ensures.value ∙ ap (λ (b : Bool). written_of b rows) (sym c.if-lessons.false)) c.table_text.ensures
