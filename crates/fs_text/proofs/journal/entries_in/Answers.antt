use Rattle.std.proofs.Common.{◌≡◌, true, false, sym, ◌∙◌}
use Rattle.fs_text.specs.Journal.{is_tree_line}
use Rattle.fs_text.proofs.ReadLemmas.{after_tree, after_entry, after_fault, after_all}
use Rattle.fs_text.proofs.journal.entries_in.Goals as goal

pub returns-then-is_word : goal.returns-then-is_word
returns-then-is_word c =
    let tree : is_tree_line c.in-Some.line.text.now ≡ true = sym c.is_word.ensures ∙ c.if-is_word.true in
    after_tree c.args.limits _ c.lines.entries.items c.lines.left c.next.new.self c.in-Some.line c.lines.invariant c.in-Some.ensures.line tree

pub returns-in-Err : goal.returns-in-Err
returns-in-Err c =
    let tree : is_tree_line c.in-Some.line.text.now ≡ false = sym c.is_word.ensures ∙ c.if-is_word.false in
    after_fault c.args.limits _ c.lines.entries.items c.lines.left c.next.new.self c.in-Some.line c.in-Err.kind c.lines.invariant c.in-Some.ensures.line tree c.in-Err.ensures

pub lines-preserved : goal.lines-preserved
lines-preserved c =
    let tree : is_tree_line c.in-Some.line.text.now ≡ false = sym c.is_word.ensures ∙ c.if-is_word.false in
    let grown = after_entry c.args.limits _ c.lines.entries.items c.lines.left c.next.new.self c.in-Some.line c.in-Ok.entry c.lines.invariant c.in-Some.ensures.line tree c.in-Ok.ensures in
    rw (c.in_default-push_item.ensures) grown

pub returns : goal.returns
returns c = after_all c.args.limits _ c.lines.entries.items c.lines.left c.next.new.self c.lines.invariant c.in_default.ensures.line
