use Rattle.std.proofs.Common.{◌≡◌, ◌<◌, ◌+◌, ◌++◌, ◌∷◌, ◌||◌, [], ℕ, List, take, sym, ap, ◌∙◌, subst, arith}
use Rattle.std.proofs.lemmas.List.{take_more, length-take-le}
use Rattle.fs_timeline.specs.declared.entry.Entry.{Entry}
use Rattle.fs_sched_seen.specs.Meetings.{meet}
use Rattle.fs_sched_seen.specs.code.Heards.{IsHeard}
use Rattle.fs_sched_seen.specs.code.Meetings.{has_met}
use Rattle.fs_sched_seen.proofs.MeetLemmas.{entry_more}
use Rattle.fs_sched_seen.proofs.replies.heard_of.Goals as goal

pub loop-at-preserved : goal.loop-at-preserved
loop-at-preserved c =
    let at = c.loop-at.at in
    let entries = c.args.entries.now in
    let entry = c.index-entries-at.result in
    let es = take at entries in
    let more : take (at + 1) entries ≡ es ++ entry ∷ [] = take_more entries at entry c.loop-at-test.true ∙ ap (λ (e : Entry). es ++ e ∷ []) (sym c.index-entries-at.is) in
    let heard : IsHeard c.hear.new.self (es ++ entry ∷ []) = c.in_ok-hear.ensures es (length-take-le at entries (omega arith)) c.loop-at.invariant.heard in
    record {
      heard = subst (λ (l : List Entry). IsHeard c.hear.new.self l) (sym more) heard;
      met = λ p q order less.
          entry_more es entry p q (has_met c.args.meetings.now p q) (has_met c.loop-at.meetings p q) (has_met c.note.new.self p q) (c.loop-at.invariant.met p q order less)
          (c.in_ok-note.ensures.met (es ++ entry ∷ []) heard p q order (subst (λ (n : ℕ). q.seat < n) (sym c.loop-at.invariant.threads) less))
          ∙ ap (λ (l : List Entry). (has_met c.args.meetings.now p q || meet l p q)) (sym more);
      threads = c.note.ensures.threads ∙ c.loop-at.invariant.threads;
    }
