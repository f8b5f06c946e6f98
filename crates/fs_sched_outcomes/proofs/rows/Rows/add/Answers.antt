use Rattle.std.proofs.Common.{slice_set, ap, ◌∙◌}
use Rattle.fs_sched_outcomes.specs.code.Adding.{merged}
use Rattle.fs_sched_outcomes.proofs.RowLemmas.{row_first, row_again}
use Rattle.fs_sched_outcomes.proofs.rows.Rows.add.Goals as goal

pub returns-in_ok-push-clause-rows : goal.returns-in_ok-push-clause-rows
returns-in_ok-push-clause-rows c =
    (row_first (λ v. v.items) c.args.self.now.texts.keys c.insert_full.new.self.keys c.in_ok-text.text c.in-Ok.new c.args.self.now.rows.items c.push.new.self.items c.args.row c.requires.kept c.in_ok-text.ensures c.in-Ok.ensures.keys c.in-Ok.ensures.added c.if-new.true c.in_ok-push.ensures.items).1

pub returns-else-new-clause-kept : goal.returns-else-new-clause-kept
returns-else-new-clause-kept c =
    let rows = c.args.self.now.rows.items in
    let changed = ap (λ r. slice_set rows c.in-Ok.at r) (c.merge.ensures ∙ ap (λ r. merged r c.args.row) c.index_mut.ensures.value) in
    (row_again (λ v. v.items) c.args.self.now.texts.keys c.insert_full.new.self.keys c.in_ok-text.text c.in-Ok.new c.in-Ok.at rows (slice_set rows c.in-Ok.at c.merge.new.row) c.args.row c.index_mut.result.now c.requires.kept c.in_ok-text.ensures c.in-Ok.ensures.keys c.in-Ok.ensures.added c.if-new.false c.in-Ok.ensures.index changed).1.0

pub returns-else-new-clause-rows : goal.returns-else-new-clause-rows
returns-else-new-clause-rows c =
    let rows = c.args.self.now.rows.items in
    let changed = ap (λ r. slice_set rows c.in-Ok.at r) (c.merge.ensures ∙ ap (λ r. merged r c.args.row) c.index_mut.ensures.value) in
    (row_again (λ v. v.items) c.args.self.now.texts.keys c.insert_full.new.self.keys c.in_ok-text.text c.in-Ok.new c.in-Ok.at rows (slice_set rows c.in-Ok.at c.merge.new.row) c.args.row c.index_mut.result.now c.requires.kept c.in_ok-text.ensures c.in-Ok.ensures.keys c.in-Ok.ensures.added c.if-new.false c.in-Ok.ensures.index changed).1.1
