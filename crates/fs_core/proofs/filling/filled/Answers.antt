use Rattle.std.proofs.Common.{◌≡◌, ◌<◌, ◌≤◌, ◌+◌, ℕ, None, Some, map, take, length, sym, ap, ◌∙◌, subst, arith}
use Rattle.std.specs.Prelude.{slice_get}
use Rattle.std.proofs.lemmas.List.{length-map}
use Rattle.std.proofs.lemmas.Option.{slice_get-get_or}
use Rattle.fs_calls.specs.Tree.{Tree}
use Rattle.fs_names.specs.Limits.{in_blocks}
use Rattle.fs_nodes.specs.Seen.{Seen}
use Rattle.fs_nodes.specs.Stores.{graph_of, used_below}
use Rattle.fs_seq.specs.declared.rows.Row.{Row}
use Rattle.fs_seq.specs.Rows.{row_of, misfit}
use Rattle.fs_locks.specs.Holding.{room}
use Rattle.fs_machine.specs.States.{IsStart}
use Rattle.fs_core.specs.code.Filling.{IsAdded}
use Rattle.fs_core.proofs.RowsFit.{rows_fit, first_is_root, fits_each, one_more_row}
use Rattle.fs_core.proofs.Started.{can_add, added_starts, added_count, added_below, root_starts, root_count, root_below, used_most}
use Rattle.fs_core.proofs.filling.filled.Goals as goal

pub loop-i-init : goal.loop-i-init
loop-i-init c =
    let limits = c.args.start.now.limits in
    let graph = ap (λ (s : Seen). s.graph) c.in-Ok-with_form.ensures in
    let fit : misfit limits c.in-Ok.rows.items ≡ None = rows_fit limits c.in-Ok.rows.items c.args.start.now.tree c.in-Ok.ensures.tree c.in-Ok.ensures.plain c.requires.within in
    record {
      starts = root_starts c.args.limit limits (map row_of (take 1 c.in-Ok.rows.items)) (graph_of c.in-Ok-with_form.store) c.requires.least (first_is_root limits c.in-Ok.rows.items fit) graph;
      count = root_count c.args.limit (graph_of c.in-Ok-with_form.store) c.requires.least graph;
      limit = ap (λ (s : Seen). s.limit) c.in-Ok-with_form.ensures;
      form = ap (λ (s : Seen). s.in_blocks) c.in-Ok-with_form.ensures ∙ c.in_blocks.ensures ∙ ap in_blocks c.limits.ensures;
      holders = c.in-Ok-make_room.ensures.holders ∙ c.new-holders.ensures.holders;
      room = root_below limits (graph_of c.in-Ok-with_form.store) (room c.make_room.new.self) graph (omega (arith, c.in-Ok-make_room.ensures.room));
    }

pub add_row-requires-clause-can : goal.add_row-requires-clause-can
add_row-requires-clause-can c =
    let limits = c.args.start.now.limits in
    let rows = c.in-Ok.rows.items in
    let i = c.loop-i.i in
    let row = c.index.result.now in
    let fit : misfit limits rows ≡ None = rows_fit limits rows c.args.start.now.tree c.in-Ok.ensures.tree c.in-Ok.ensures.plain c.requires.within in
    let within : i < length rows = omega (arith, c.loop-i-test.true, c.len-i-end.ensures, c.in-Ok.rows.ok.0) in
    let at : slice_get rows i ≡ Some row = slice_get-get_or rows i row within ∙ ap (λ (r : Row). Some r) (sym c.index.ensures) in
    can_add c.args.limit limits (map row_of (take i rows)) (graph_of c.loop-i.store) row c.loop-i.invariant.starts (fits_each limits rows i row fit c.loop-i.auto.i at)

pub loop-i-preserved : goal.loop-i-preserved
loop-i-preserved c =
    let limits = c.args.start.now.limits in
    let rows = c.in-Ok.rows.items in
    let i = c.loop-i.i in
    let row = c.index.result.now in
    let old = graph_of c.loop-i.store in
    let new = graph_of c.add_row.new.store in
    let before = c.loop-i.invariant in
    let fit : misfit limits rows ≡ None = rows_fit limits rows c.args.start.now.tree c.in-Ok.ensures.tree c.in-Ok.ensures.plain c.requires.within in
    let within : i < length rows = omega (arith, c.loop-i-test.true, c.len-i-end.ensures, c.in-Ok.rows.ok.0) in
    let at : slice_get rows i ≡ Some row = slice_get-get_or rows i row within ∙ ap (λ (r : Row). Some r) (sym c.index.ensures) in
    let node = c.in_ok-add_row.ensures.added.0 in
    let added : IsAdded c.args.limit old new row node = subst (λ (limit : ℕ). IsAdded limit old new row node) before.limit c.in_ok-add_row.ensures.added.1 in
    record {
      starts = subst (λ (t : Tree). IsStart c.args.limit (record { limits = limits; tree = t }) new) (sym (one_more_row rows i row at)) (added_starts c.args.limit limits (map row_of (take i rows)) old new row node before.starts (fits_each limits rows i row fit c.loop-i.auto.i at) added);
      count = added_count c.args.limit old new row node before.starts.is_graph added ∙ ap (λ (n : ℕ). n + 1) before.count;
      limit = c.in_ok-add_row.ensures.limit ∙ before.limit;
      form = c.in_ok-add_row.ensures.form ∙ before.form;
      holders = c.in_ok-add_row.ensures.holders ∙ before.holders;
      room = added_below c.args.limit old new row node (room c.loop-i.holders) (room c.add_row.new.holders) before.starts.is_graph added before.room c.in_ok-add_row.ensures.more c.in_ok-add_row.ensures.added.2;
    }

pub returns-clause-few : goal.returns-clause-few
returns-clause-few c =
    let less : used_below (graph_of c.loop-i.store).shape c.args.limit ≤ c.args.limit = used_most (graph_of c.loop-i.store).shape c.args.limit in
    let all : length c.in-Ok.rows.items ≡ length c.args.start.now.tree = sym (length-map c.in-Ok.rows.items row_of) ∙ ap length c.in-Ok.ensures.tree in
    omega (arith, less, all, c.loop-i.invariant.count, c.loop-i-test.false, c.len-i-end.ensures, c.in-Ok.rows.ok.0)
