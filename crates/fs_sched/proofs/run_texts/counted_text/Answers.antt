use Rattle.std.proofs.Common.{◌∙◌}
use Rattle.fs_nodes.specs.Stores.{graph_of}
use Rattle.fs_sched.proofs.RunTextLemmas.{counted_line, run_text_made}
use Rattle.fs_sched.proofs.run_texts.counted_text.Goals as goal

pub returns-clause-text : goal.returns-clause-text
returns-clause-text c =
    run_text_made c.args.start.now c.args.entries.items (graph_of c.args.store.now) _ _ _ _ c.in_ok-made.ensures.text c.in_ok-write_tree.ensures.ok
    (c.deref.ensures.value ∙ c.in_ok-line.ensures ∙ counted_line c.in_ok-made.made.counts c.args.entries.items c.in_ok-made.ensures.counts) c.in_ok-extend_from_slice.ensures.items
