use Rattle.std.proofs.Common.{◌++◌, ◌∙◌, ap, sym, subst, codes, List, ℕ}
use Rattle.fs_sched.specs.RunTexts.{end_line}
use Rattle.fs_trace_entries.specs.Entries.{AreLines}
use Rattle.fs_trace_entries.proofs.running.words_of.Goals as goal

pub returns : goal.returns
returns c =
    let lines = c.deref.result.now in
    let left = c.deref-2.result.now in
    let rest = codes "atomfs-trace 2\n" ++ (lines ++ (left ++ (c.args.tree.now ++ end_line c.args.entries.now))) in
    let before = c.in_ok-push_trace.ensures.before ∙ c.new-text.ensures.before ∙ c.new.ensures.items in (
      lines,
      left,
      subst (λ (t : List ℕ). AreLines 1 c.args.entries.now t) (sym c.deref.ensures.value) c.in_ok-lines.ensures,
      c.kept.ensures ∙ ap (λ b. b ++ c.push_trace.new.text.added) before ∙ c.in_ok-push_trace.ensures.ok ∙ ap (λ z. z ++ rest) c.new-text.ensures.added,
    )
