use Rattle.std.proofs.Common.{◌∙◌, Some, sym}
use Rattle.fs_nodes.proofs.StepLemmas.{entry_read, rest_read, rest_past}
use Rattle.fs_nodes.proofs.siblings.entry_after.Goals as goal

pub returns-in-Some-clause-entry : goal.returns-in-Some-clause-entry
returns-in-Some-clause-entry c = λ dir name child. rw c.name.ensures (entry_read c.args.places.now dir (Some name) c.in-Some.n c.index-places-n.result c.requires (sym (c.sibling_after.ensures.next dir name child) ∙ c.in-Some.is) c.index-places-n.is)

pub returns-in-Some-clause-rest : goal.returns-in-Some-clause-rest
returns-in-Some-clause-rest c = λ dir name child. rw c.name.ensures (rest_read c.args.places.now dir (Some name) c.in-Some.n c.index-places-n.result c.requires (sym (c.sibling_after.ensures.next dir name child) ∙ c.in-Some.is) c.index-places-n.is)

pub returns-in-None-clause-rest : goal.returns-in-None-clause-rest
returns-in-None-clause-rest c = λ dir name child. rest_past c.args.places.now dir (Some name) c.requires (sym (c.sibling_after.ensures.next dir name child) ∙ c.in-None.is)
