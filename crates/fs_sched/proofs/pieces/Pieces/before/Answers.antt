use Rattle.std.proofs.Common.{◌≡◌, ◌++◌, Result, Err, List, length, map, refl, sym, subst, rules}
use Rattle.std.specs.Prelude.{OnOk, IfErr}
use Rattle.std.proofs.lemmas.Result.{on_ok_weaker, IfErr-weaker}
use Rattle.fs_sched.specs.Runs.{Words, StopsInWords}
use Rattle.fs_sched.specs.Schedules.{words_by, drawn_seats, one_event, prepared, turns_by}
use Rattle.fs_script.specs.declared.script.Word.{Word}
use Rattle.fs_sched.specs.Gives.{given_words, words_before}
use Rattle.fs_sched.specs.code.Notes.{Notes, NotesCut}
use Rattle.fs_sched.specs.code.Done.{HasDone}
use Rattle.fs_sched.specs.code.Stages.{stage_of, IsWhy}
use Rattle.fs_sched.specs.declared.schedule.Schedule.{Schedule}
use Rattle.fs_sched.specs.declared.schedule.Schedule.TheVariants.{Seeded}
use Rattle.fs_sched.specs.declared.schedule.TheConstants.{DRAW_LIMIT}
use Rattle.fs_verdict.specs.declared.fault.RunFault.{RunFault}
use Rattle.fs_verdict.specs.declared.fault.RunFault.TheVariants.{Full}
use Rattle.fs_sched.proofs.Done.{none_told, result_why}
use Rattle.fs_sched.proofs.Drawn.{drawn_words, drawn_stops}
use Rattle.fs_sched.proofs.Preparing.{cut_prepared, cut_turns, done_append, stops_behind, why_behind, why_front}
use Rattle.fs_sched.proofs.pieces.Pieces.before.Goals as goal

pub returns-in_ok-prepare-in-Seeded-clause-notes : goal.returns-in_ok-prepare-in-Seeded-clause-notes
returns-in_ok-prepare-in-Seeded-clause-notes g c =
    let lists = c.args.script.now.lists in
    let words = c.args.script.now.words in
    let old = stage_of c.args.self.now.play in
    let middle = stage_of c.prepare-in-Seeded.new.self.play in
    let first = subst (λ (ws : List Word). Notes g.W.Witness.Told lists old c.args.witness.now (given_words (prepared ws)) middle c.prepare-in-Seeded.new.witness) c.as_slice-in-Seeded.ensures c.in_ok-prepare-in-Seeded.ensures.notes in
    subst (λ (s : Schedule). OnOk c.drawn.result (NotesCut g.W.Witness.Told lists old c.args.witness.now (words_before s words lists) (stage_of c.drawn.new.self) c.drawn.new.witness)) (sym c.in-Seeded.is)
    (on_ok_weaker c.drawn.result (λ notes. cut_prepared g.W.Witness.Told lists old middle (stage_of c.drawn.new.self) c.args.witness.now c.prepare-in-Seeded.new.witness c.drawn.new.witness words (drawn_seats c.in-Seeded.seed (length lists) DRAW_LIMIT) first notes) c.drawn.ensures.notes)

pub returns-in_ok-prepare-in-Seeded-clause-done : goal.returns-in_ok-prepare-in-Seeded-clause-done
returns-in_ok-prepare-in-Seeded-clause-done g c =
    let lists = c.args.script.now.lists in
    let words = c.args.script.now.words in
    let old = stage_of c.args.self.now.play in
    let middle = stage_of c.prepare-in-Seeded.new.self.play in
    let new = record c.prepare-in-Seeded.new.self { play = c.drawn.new.self } in
    let seats = drawn_seats c.in-Seeded.seed (length lists) DRAW_LIMIT in
    let first = subst (λ (ws : List Word). HasDone (Words lists old (prepared ws)) c.args.self.now c.prepare-in-Seeded.new.self) c.as_slice-in-Seeded.ensures c.in_ok-prepare-in-Seeded.ensures.done in
    subst (λ (s : Schedule). OnOk c.drawn.result (HasDone (Words lists old (words_by s words lists)) c.args.self.now new)) (sym c.in-Seeded.is)
    (on_ok_weaker c.drawn.result (λ events. done_append lists (prepared words) (map one_event seats) c.args.self.now c.prepare-in-Seeded.new.self new first
    (none_told (Words lists middle (map one_event seats)) c.prepare-in-Seeded.new.self new (drawn_words lists seats middle (stage_of c.drawn.new.self) events) refl)) c.drawn.ensures.events)

pub returns-in_ok-prepare-in-Seeded-clause-why : goal.returns-in_ok-prepare-in-Seeded-clause-why
returns-in_ok-prepare-in-Seeded-clause-why g c =
    let lists = c.args.script.now.lists in
    let words = c.args.script.now.words in
    let old = stage_of c.args.self.now.play in
    let middle = stage_of c.prepare-in-Seeded.new.self.play in
    let seats = drawn_seats c.in-Seeded.seed (length lists) DRAW_LIMIT in
    let first = subst (λ (ws : List Word). HasDone (Words lists old (prepared ws)) c.args.self.now c.prepare-in-Seeded.new.self) c.as_slice-in-Seeded.ensures c.in_ok-prepare-in-Seeded.ensures.done in
    subst (λ (s : Schedule). IfErr c.drawn.result (IsWhy (StopsInWords lists old (words_by s words lists)))) (sym c.in-Seeded.is)
    (result_why c.drawn.result (StopsInWords lists old (words_by (Seeded c.in-Seeded.seed) words lists)) c.drawn.ensures.fault (λ full. stops_behind lists (prepared words) (map one_event seats) first.told old middle Full first.came (drawn_stops lists seats middle (c.drawn.ensures.full full))))

pub returns-in_err-prepare-in-Seeded-clause-why : goal.returns-in_err-prepare-in-Seeded-clause-why
returns-in_err-prepare-in-Seeded-clause-why g c =
    let lists = c.args.script.now.lists in
    let words = c.args.script.now.words in
    let old = stage_of c.args.self.now.play in
    let fault = c.in_err-prepare-in-Seeded.field-0.0 in
    let e : ◌≡◌ {A = Result (Unit {0}) RunFault} c.from_residual.result (Err fault) = search rules in
    let why = subst (λ (ws : List Word). IsWhy (StopsInWords lists old (prepared ws)) fault) c.as_slice-in-Seeded.ensures c.in_err-prepare-in-Seeded.ensures.why in
    subst (λ (s : Schedule). IfErr c.from_residual.result (IsWhy (StopsInWords lists old (words_by s words lists)))) (sym c.in-Seeded.is)
    (subst (λ (r : Result (Unit {0}) RunFault). IfErr r (IsWhy (StopsInWords lists old (words_by (Seeded c.in-Seeded.seed) words lists)))) (sym e)
    (why_front lists (prepared words) (map one_event (drawn_seats c.in-Seeded.seed (length lists) DRAW_LIMIT)) old fault why))

pub returns-in_ok-prepare-in-Priorities-clause-notes : goal.returns-in_ok-prepare-in-Priorities-clause-notes
returns-in_ok-prepare-in-Priorities-clause-notes g c =
    let lists = c.args.script.now.lists in
    let words = c.args.script.now.words in
    let old = stage_of c.args.self.now.play in
    let middle = stage_of c.prepare-in-Priorities.new.self.play in
    let first = subst (λ (ws : List Word). Notes g.W.Witness.Told lists old c.args.witness.now (given_words (prepared ws)) middle c.prepare-in-Priorities.new.witness) c.as_slice-in-Priorities.ensures c.in_ok-prepare-in-Priorities.ensures.notes in
    subst (λ (s : Schedule). OnOk c.turns.result (NotesCut g.W.Witness.Told lists old c.args.witness.now (words_before s words lists) (stage_of c.turns.new.self.play) c.turns.new.witness)) (sym c.in-Priorities.is)
    (on_ok_weaker c.turns.result (λ notes. cut_turns g.W.Witness.Told lists old middle (stage_of c.turns.new.self.play) c.args.witness.now c.prepare-in-Priorities.new.witness c.turns.new.witness words (turns_by lists c.in-Priorities.depth c.in-Priorities.seed) first notes) c.turns.ensures.notes)

pub returns-in_ok-prepare-in-Priorities-clause-done : goal.returns-in_ok-prepare-in-Priorities-clause-done
returns-in_ok-prepare-in-Priorities-clause-done g c =
    let lists = c.args.script.now.lists in
    let words = c.args.script.now.words in
    let old = stage_of c.args.self.now.play in
    let first = subst (λ (ws : List Word). HasDone (Words lists old (prepared ws)) c.args.self.now c.prepare-in-Priorities.new.self) c.as_slice-in-Priorities.ensures c.in_ok-prepare-in-Priorities.ensures.done in
    subst (λ (s : Schedule). OnOk c.turns.result (HasDone (Words lists old (words_by s words lists)) c.args.self.now c.turns.new.self)) (sym c.in-Priorities.is)
    (on_ok_weaker c.turns.result (λ done. done_append lists (prepared words) (turns_by lists c.in-Priorities.depth c.in-Priorities.seed) c.args.self.now c.prepare-in-Priorities.new.self c.turns.new.self first done) c.turns.ensures.done)

pub returns-in_ok-prepare-in-Priorities-clause-why : goal.returns-in_ok-prepare-in-Priorities-clause-why
returns-in_ok-prepare-in-Priorities-clause-why g c =
    let lists = c.args.script.now.lists in
    let words = c.args.script.now.words in
    let old = stage_of c.args.self.now.play in
    let turns = turns_by lists c.in-Priorities.depth c.in-Priorities.seed in
    let first = subst (λ (ws : List Word). HasDone (Words lists old (prepared ws)) c.args.self.now c.prepare-in-Priorities.new.self) c.as_slice-in-Priorities.ensures c.in_ok-prepare-in-Priorities.ensures.done in
    subst (λ (s : Schedule). IfErr c.turns.result (IsWhy (StopsInWords lists old (words_by s words lists)))) (sym c.in-Priorities.is)
    (IfErr-weaker c.turns.result (IsWhy (StopsInWords lists (stage_of c.prepare-in-Priorities.new.self.play) turns)) (IsWhy (StopsInWords lists old (prepared words ++ turns)))
    (λ fault why. why_behind lists (prepared words) turns c.args.self.now c.prepare-in-Priorities.new.self fault first why) c.turns.ensures.why)

pub returns-in_err-prepare-in-Priorities-clause-why : goal.returns-in_err-prepare-in-Priorities-clause-why
returns-in_err-prepare-in-Priorities-clause-why g c =
    let lists = c.args.script.now.lists in
    let words = c.args.script.now.words in
    let old = stage_of c.args.self.now.play in
    let fault = c.in_err-prepare-in-Priorities.field-0.0 in
    let turns = turns_by lists c.in-Priorities.depth c.in-Priorities.seed in
    let e : ◌≡◌ {A = Result (Unit {0}) RunFault} c.from_residual-in_err-prepare-in-Priorities.result (Err fault) = search rules in
    let why = subst (λ (ws : List Word). IsWhy (StopsInWords lists old (prepared ws)) fault) c.as_slice-in-Priorities.ensures c.in_err-prepare-in-Priorities.ensures.why in
    subst (λ (s : Schedule). IfErr c.from_residual-in_err-prepare-in-Priorities.result (IsWhy (StopsInWords lists old (words_by s words lists)))) (sym c.in-Priorities.is)
    (subst (λ (r : Result (Unit {0}) RunFault). IfErr r (IsWhy (StopsInWords lists old (prepared words ++ turns)))) (sym e)
    (why_front lists (prepared words) turns old fault why))
