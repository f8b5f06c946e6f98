use Rattle.std.proofs.Common.{◌++◌, ◌∙◌, ap, codes, decimal}
use Rattle.std.proofs.lemmas.Result.{on_ok_weaker}
use Rattle.fs_words.proofs.Chains.{added, added_number}
use Rattle.fs_trace_entries.proofs.lines.push_line.Goals as goal

pub returns-clause-ok : goal.returns-clause-ok
returns-clause-ok c =
    let new = c.push-5.new.self.added in
    let last = c.args.words.now ++ codes "\n" in
    let verb = c.args.verb.now ++ last in
    let seat = c.args.seat.now ++ verb in
    let on = codes " on seat " ++ seat in
    let counted = c.in_ok-push_with_number.ensures.ok ∙ ap (λ n. c.push_number.new.self.added ++ codes " call " ++ decimal n) c.get.ensures in
    on_ok_weaker c.push-5.result (λ e. added c.args.text.now.added (decimal c.args.place) (codes " call " ++ (decimal c.args.number ++ on)) c.push_number.new.self.added new c.in_ok-push_number.ensures.ok
    (added_number c.push_number.new.self.added (codes " call ") (decimal c.args.number) on c.push_with_number.new.self.added new counted
    (added c.push_with_number.new.self.added (codes " on seat ") seat c.push.new.self.added new c.in_ok-push.ensures.ok
    (added c.push.new.self.added c.args.seat.now verb c.push-2.new.self.added new c.in_ok-push-2.ensures.ok
    (added c.push-2.new.self.added c.args.verb.now last c.push-3.new.self.added new c.in_ok-push-3.ensures.ok
    (added c.push-3.new.self.added c.args.words.now (codes "\n") c.push-4.new.self.added new c.in_ok-push-4.ensures.ok e)))))) c.push-5.ensures.ok
