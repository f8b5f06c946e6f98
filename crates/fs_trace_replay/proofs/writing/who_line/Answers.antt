use Rattle.std.proofs.Common.{◌≡◌, ◌∙◌, [], ap, List, ℕ, ◌++◌}
use Rattle.std.specs.Prelude.{codes, decimal}
use Rattle.std.specs.List.{join_with_byte}
use Rattle.fs_text.specs.Calls.{call_words}
use Rattle.fs_trace_replay.proofs.WritingLemmas.{chained}
use Rattle.fs_trace_replay.proofs.writing.who_line.Goals as goal

pub returns : goal.returns
returns c =
    let before : c.push-3.new.self.before ≡ [] = cc (c.in_ok-push-3.ensures.before, c.in_ok-push_with_number-3.ensures.before, c.in_ok-push-2.ensures.before, c.in_ok-push.ensures.before, c.in_ok-push_with_number-2.ensures.before, c.in_ok-push_with_number.ensures.before, c.new-line.ensures.before, c.new.ensures.items) in
    let none : c.new-line.result.added ≡ [] = c.new-line.ensures.added in
    let first : c.push_with_number.new.self.added ≡ codes "commit " ++ decimal c.args.place = c.in_ok-push_with_number.ensures.ok ∙ ap (λ (xs : List ℕ). xs ++ codes "commit " ++ decimal c.args.place) none in
    let kept = c.kept-text.ensures ∙ ap (λ (xs : List ℕ). xs ++ c.push-3.new.self.added) before in
    chained c.push_with_number.new.self.added c.push_with_number-2.new.self.added c.push.new.self.added c.push-2.new.self.added c.push_with_number-3.new.self.added c.push-3.new.self.added c.kept-text.result.items c.write_call.new.text.items c.push-4.new.self.items
    (codes "commit ") (decimal c.args.place) (codes " call ") (decimal c.args.number) (codes " ") c.args.thread.now (codes "#") (decimal c.args.turn) (codes " ") (join_with_byte 32 (call_words c.args.call.now)) (codes "\n")
    first c.in_ok-push_with_number-2.ensures.ok c.in_ok-push.ensures.ok c.in_ok-push-2.ensures.ok c.in_ok-push_with_number-3.ensures.ok c.in_ok-push-3.ensures.ok kept c.in_ok-write_call.ensures.ok c.in_ok-push-4.ensures.items
