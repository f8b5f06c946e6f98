use Rattle.std.proofs.Common.{ap, ◌∙◌, refl, [], ◌∷◌}
use Rattle.std.proofs.lemmas.List.Folds.{list_all-append}
use Rattle.fs_seq.specs.Rows.{is_plain}
use Rattle.fs_seq.proofs.Walked.{ahead_by, told_by}
use Rattle.fs_seq.proofs.rows.visit.Goals as goal

pub returns-clause-ahead : goal.returns-clause-ahead
returns-clause-ahead c = ahead_by c.args.nodes.now c.args.at c.at.inside.node c.deref.result.now c.index-node.result.now c.args.ahead.now.items c.push_entries.new.ahead.items (ap (λ key. (key, c.at.inside.node)) c.deref.ensures.value ∙ c.at.view_is) c.index-node.ensures c.in_ok-push_entries.ensures

pub returns-clause-rows : goal.returns-clause-rows
returns-clause-rows c = told_by c.args.nodes.now c.args.at c.at.inside.node c.at.inside.key.items c.index-node.result.now c.in_ok-row.row c.args.rows.now.items c.push.new.self.items c.at.view_is c.index-node.ensures c.in_ok-row.ensures.row c.in_ok-push.ensures.items

pub returns-clause-plain : goal.returns-clause-plain
returns-clause-plain c = λ old. rw (c.in_ok-push.ensures.items, list_all-append is_plain c.args.rows.now.items (c.in_ok-row.row ∷ []), old, c.in_ok-row.ensures.plain) refl
