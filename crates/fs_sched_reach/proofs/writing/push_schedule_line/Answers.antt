use Rattle.std.proofs.Common.{ℕ, Bool, true, List, ◌∷◌, [], ◌++◌, map, ap, sym, subst, ◌∙◌}
use Rattle.fs_sched_reach.specs.code.Writing.{WritesWords}
use Rattle.fs_sched_reach.proofs.Adding.{line_done}
use Rattle.fs_sched_reach.proofs.writing.push_schedule_line.Goals as goal

pub returns : goal.returns
returns c =
    let from = c.args.from.now in
    let limits = c.args.limits in
    let old = c.args.text.now.items in
    let new = c.push_words.new.text.items in
    line_done from limits old new c.push.new.self.items c.args.line.now (map (λ w. w.now) c.cut_words.new.words.items) c.requires.some c.in-Ok.ensures
    (subst (λ words. WritesWords from limits old (map (λ w. w.now) words) true new) c.deref.ensures.value
    (subst (λ (b : Bool). WritesWords from limits old (map (λ w. w.now) c.deref.result.now) b new) c.if-not-branch.false c.in_ok-push_words.ensures))
    (λ written is. c.in_ok-push.ensures.items ∙ ap (λ (l : List ℕ). l ++ 10 ∷ []) (c.pop_from.ensures old 32 written (sym (c.len-start.ensures ∙ c.args.text.now.ok.0)) is))
