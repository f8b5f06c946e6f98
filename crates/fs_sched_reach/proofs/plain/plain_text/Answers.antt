use Rattle.std.proofs.Common.{ℕ, List, ◌++◌, sym, ap, ◌∙◌, map, take}
use Rattle.std.specs.List.{slice_split}
use Rattle.std.proofs.lemmas.List.{length-take-le}
use Rattle.fs_words.specs.Lines.{is_line_feed}
use Rattle.fs_sched_reach.specs.Plain.{plain_line, plain_from, lines_from}
use Rattle.fs_sched_reach.specs.code.Joined.{closed}
use Rattle.fs_sched_reach.proofs.plain.plain_text.Goals as goal

pub returns : goal.returns
returns c =
    let text = c.args.text.now in
    let start = c.in-Some.start in
    c.pop_from.ensures (take start text) 10 (map plain_line (lines_from text start)) (length-take-le start text c.in-Some.ensures.within)
    (c.in_ok-push_plain_lines.ensures ∙ ap (λ (l : List ℕ). l ++ closed 10 (map plain_line (map (λ p. p.now) c.deref.result.now))) (c.in_ok-made.ensures.items ∙ c.split_at.ensures.front)
    ∙ ap (λ (ls : List (List ℕ)). take start text ++ closed 10 (map plain_line ls)) (ap (λ l. map (λ p. p.now) l) c.deref.ensures.value ∙ c.in_ok-lines.ensures ∙ ap (slice_split is_line_feed) c.split_at.ensures.back))
    ∙ ap (plain_from text) (sym c.in-Some.is ∙ c.schedule_start.ensures.start)
