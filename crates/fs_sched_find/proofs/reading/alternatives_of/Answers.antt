use Rattle.std.proofs.Common.{◌≡◌, ◌+◌, ◌<◌, ◌≤◌, List, Vec, Global, Result, Ok, Err, length, drop, codes, sym, ap, ◌∙◌, subst, arith, rules}
use Rattle.std.proofs.lemmas.List.{length-map}
use Rattle.fs_words.specs.Words.{Word}
use Rattle.fs_words.proofs.ReadLemmas.{words_in, with_front}
use Rattle.fs_sched_find.specs.Reading.{clauses_of, alternatives_of, is_same}
use Rattle.fs_sched_find.specs.code.Answers.{FailsAs, Says}
use Rattle.fs_sched_find.specs.declared.reading.WhatFault.{WhatFault}
use Rattle.fs_sched_find.specs.declared.what.Clause.{Clause}
use Rattle.fs_sched_find.proofs.Splitting.{none_before, group_pushed, words_refused, words_said, taken, left_of}
use Rattle.fs_sched_find.proofs.reading.alternatives_of.Goals as goal

pub alternatives-init : goal.alternatives-init
alternatives-init c = none_before _ _ c.new-what.ensures.items

pub returns-in_err-clauses : goal.returns-in_err-clauses
unfolding alternatives_of
returns-in_err-clauses c =
    let f = c.in_err-clauses.field-0.0 in
    let end = c.place_of-end.result in
    let rest = c.alternatives.rest.now in
    let whole = alternatives_of (words_in c.args.words.now) in
    let e : ◌≡◌ {A = Result (Vec (List Clause) Global) WhatFault} c.from_residual.result (Err f) = search rules in
    let fails = subst (λ (ws : List Word). FailsAs f (clauses_of ws)) (taken rest c.front.result.now end c.front.ensures) c.in_err-clauses.ensures in
    subst (λ (r : Result (Vec (List Clause) Global) WhatFault). Says (λ (what : Vec (List Clause) Global). what.items) r whole) (sym e) (words_refused clauses_of (is_same (codes "or")) whole c.alternatives.what.items (words_in rest) end f c.alternatives.invariant c.place_of-end.ensures.at fails)

pub returns-then-end-rest : goal.returns-then-end-rest
unfolding alternatives_of
returns-then-end-rest c =
    let end = c.place_of-end.result in
    let rest = c.alternatives.rest.now in
    let whole = alternatives_of (words_in c.args.words.now) in
    let is = subst (λ (ws : List Word). clauses_of ws ≡ Ok c.in_ok-clauses.clauses.items) (taken rest c.front.result.now end c.front.ensures) c.in_ok-clauses.ensures in
    let long : length (words_in rest) ≤ end = simp length-map (omega (arith, c.if-end-rest.true)) in
    words_said clauses_of (is_same (codes "or")) whole c.alternatives.what.items (words_in rest) end c.in_ok-clauses.clauses.items c.alternatives.invariant c.place_of-end.ensures.at long is ∙ ap Ok (sym c.in_ok-push_clauses.ensures.ok)

pub alternatives-preserved : goal.alternatives-preserved
unfolding alternatives_of
alternatives-preserved c =
    let end = c.place_of-end.result in
    let rest = c.alternatives.rest.now in
    let whole = alternatives_of (words_in c.args.words.now) in
    let is = subst (λ (ws : List Word). clauses_of ws ≡ Ok c.in_ok-clauses.clauses.items) (taken rest c.front.result.now end c.front.ensures) c.in_ok-clauses.ensures in
    let less : end < length (words_in rest) = simp length-map (omega (arith, c.if-end-rest.false, c.place_of-end.ensures.within)) in
    group_pushed clauses_of (is_same (codes "or")) whole c.alternatives.what.items (words_in rest) end c.in_ok-clauses.clauses.items c.alternatives.invariant c.place_of-end.ensures.at less is
    ∙ ap (λ (front : List (List Clause)). with_front front (alternatives_of (drop (end + 1) (words_in rest)))) (sym c.in_ok-push_clauses.ensures.ok)
    ∙ ap (λ (ws : List Word). with_front c.push_clauses.new.what.items (alternatives_of ws)) (sym (left_of rest c.behind-rest.result.now end c.behind-rest.ensures))
