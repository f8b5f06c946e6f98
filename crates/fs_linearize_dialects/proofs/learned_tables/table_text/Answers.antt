use Rattle.std.proofs.Common.{List, ℕ, ◌++◌, ap, ◌∙◌}
use Rattle.std.specs.Prelude.{codes}
use Rattle.std.specs.List.{flat_map}
use Rattle.fs_linearize_dialects.specs.declared.call_name.TheConstants.{NAMES}
use Rattle.fs_linearize_dialects.specs.LearnedTables.{lines_of}
use Rattle.fs_linearize_dialects.proofs.learned_tables.table_text.Goals as goal

pub returns : goal.returns
returns c =
    c.in_ok-push_names.ensures
    ∙ ap (λ (t : List ℕ). t ++ flat_map (lines_of c.args.rows.now) NAMES) (c.in_ok-extend_from_slice.ensures.items ∙ ap (λ (t : List ℕ). t ++ codes "atomfs-dialect 1\n") c.new-text.ensures.items)
