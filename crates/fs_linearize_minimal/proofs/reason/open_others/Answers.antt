use Rattle.std.proofs.Common.{List, [], refl, sym, subst}
use Rattle.std.proofs.lemmas.List.{drop_all}
use Rattle.fs_timeline.proofs.TimelineLemmas.{append_nil}
use Rattle.fs_linearize_histories.specs.declared.heard.Heard.{Heard}
use Rattle.fs_linearize_minimal.specs.Reasons.{AreOpen}
use Rattle.fs_linearize_minimal.proofs.reason.open_others.Goals as goal

pub returns : goal.returns
returns c =
    subst (AreOpen c.args.call c.args.entries.now) (append_nil c.loop-entry.opened.items)
    (c.loop-entry.invariant [] (subst (λ (l : List Heard). AreOpen c.args.call l []) (sym (drop_all c.loop-entry.entry-index c.args.entries.now c.loop-entry-test.false)) refl))
