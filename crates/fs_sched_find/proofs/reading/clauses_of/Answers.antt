use Rattle.std.proofs.Common.{◌≡◌, ◌+◌, ◌<◌, ◌≤◌, List, Vec, Global, Result, Ok, Err, length, drop, codes, sym, ap, ◌∙◌, subst, arith, rules}
use Rattle.std.proofs.lemmas.List.{length-map}
use Rattle.fs_words.specs.Words.{Word}
use Rattle.fs_words.proofs.ReadLemmas.{words_in, with_front}
use Rattle.fs_sched_find.specs.Reading.{clause_of, clauses_of, is_same}
use Rattle.fs_sched_find.specs.code.Answers.{FailsAs, Says}
use Rattle.fs_sched_find.specs.declared.reading.WhatFault.{WhatFault}
use Rattle.fs_sched_find.specs.declared.what.Clause.{Clause}
use Rattle.fs_sched_find.proofs.Splitting.{none_before, group_pushed, words_refused, words_said, taken, left_of}
use Rattle.fs_sched_find.proofs.reading.clauses_of.Goals as goal

pub clauses-init : goal.clauses-init
clauses-init c = none_before _ _ c.new-clauses.ensures.items

pub returns-in_err-clause : goal.returns-in_err-clause
unfolding clauses_of
returns-in_err-clause c =
    let f = c.in_err-clause.field-0.0 in
    let end = c.place_of-end.result in
    let rest = c.clauses.rest.now in
    let whole = clauses_of (words_in c.args.words.now) in
    let e : ◌≡◌ {A = Result (Vec Clause Global) WhatFault} c.from_residual.result (Err f) = search rules in
    let fails = subst (λ (ws : List Word). FailsAs f (clause_of ws)) (taken rest c.front.result.now end c.front.ensures) c.in_err-clause.ensures in
    subst (λ (r : Result (Vec Clause Global) WhatFault). Says (λ (clauses : Vec Clause Global). clauses.items) r whole) (sym e) (words_refused clause_of (is_same (codes "and")) whole c.clauses.clauses.items (words_in rest) end f c.clauses.invariant c.place_of-end.ensures.at fails)

pub returns-then-end-rest : goal.returns-then-end-rest
unfolding clauses_of
returns-then-end-rest c =
    let end = c.place_of-end.result in
    let rest = c.clauses.rest.now in
    let whole = clauses_of (words_in c.args.words.now) in
    let is = subst (λ (ws : List Word). clause_of ws ≡ Ok c.in_ok-clause.clause) (taken rest c.front.result.now end c.front.ensures) c.in_ok-clause.ensures in
    let long : length (words_in rest) ≤ end = simp length-map (omega (arith, c.if-end-rest.true)) in
    words_said clause_of (is_same (codes "and")) whole c.clauses.clauses.items (words_in rest) end c.in_ok-clause.clause c.clauses.invariant c.place_of-end.ensures.at long is ∙ ap Ok (sym c.in_ok-push_clause.ensures.ok)

pub clauses-preserved : goal.clauses-preserved
unfolding clauses_of
clauses-preserved c =
    let end = c.place_of-end.result in
    let rest = c.clauses.rest.now in
    let whole = clauses_of (words_in c.args.words.now) in
    let is = subst (λ (ws : List Word). clause_of ws ≡ Ok c.in_ok-clause.clause) (taken rest c.front.result.now end c.front.ensures) c.in_ok-clause.ensures in
    let less : end < length (words_in rest) = simp length-map (omega (arith, c.if-end-rest.false, c.place_of-end.ensures.within)) in
    group_pushed clause_of (is_same (codes "and")) whole c.clauses.clauses.items (words_in rest) end c.in_ok-clause.clause c.clauses.invariant c.place_of-end.ensures.at less is
    ∙ ap (λ (front : List Clause). with_front front (clauses_of (drop (end + 1) (words_in rest)))) (sym c.in_ok-push_clause.ensures.ok)
    ∙ ap (λ (ws : List Word). with_front c.push_clause.new.clauses.items (clauses_of ws)) (sym (left_of rest c.behind-rest.result.now end c.behind-rest.ensures))
