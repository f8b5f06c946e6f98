use Rattle.std.proofs.Common.{◌++◌, ◌∷◌, [], List, subst, sym}
use Rattle.fs_linearize_histories.specs.Histories.{IsHistory}
use Rattle.fs_linearize_histories.specs.declared.heard.Heard.{Heard}
use Rattle.fs_linearize_histories.specs.declared.heard.Heard.TheVariants.{Return}
use Rattle.fs_linearize.proofs.PlaceLemmas.{some_place, place_at, limited_at, refused_at, refused_limited}
use Rattle.fs_linearize.proofs.PossibleLemmas.{asked_history}
use Rattle.fs_linearize.proofs.linearizing.refused.Goals as goal

pub possible_replies-requires : goal.possible_replies-requires
possible_replies-requires g c = λ p.
    let h = c.args.history.items in
    let found = place_at c.args.start.now h c.deref.result.now c.args.limit c.in-First.place c.in-First.call c.in_ok-place.field-0 c.deref.ensures.value c.in_ok-place.ensures c.in-First.is in
    subst (λ (xs : List Heard). IsHistory (xs ++ Return c.in-First.call p ∷ [])) (sym c.truncate.ensures.items)
    (asked_history h c.in-First.place c.in-First.call (some_place c.args.start.now h c.in-First.place found.0) c.requires.history found.1 p)

pub returns-in_ok-possible-in-First : goal.returns-in_ok-possible-in-First
returns-in_ok-possible-in-First g c =
    let h = c.args.history.items in
    let found = place_at c.args.start.now h c.deref.result.now c.args.limit c.in-First.place c.in-First.call c.in_ok-place.field-0 c.deref.ensures.value c.in_ok-place.ensures c.in-First.is in
    refused_at c.args.start.now h c.truncate.new.self.items c.args.limit c.in-First.place c.in-First.call c.args.held c.in_ok-possible-in-First.possible found.0 found.1 c.in_ok-possible-in-First.ensures c.truncate.ensures.items c.requires.held

pub returns-in-Limited : goal.returns-in-Limited
returns-in-Limited g c =
    let h = c.args.history.items in
    refused_limited c.args.start.now h c.args.limit c.in-Limited.place
    (limited_at c.args.start.now h c.deref.result.now c.args.limit c.in-Limited.place c.in_ok-place.field-0 c.deref.ensures.value c.in_ok-place.ensures c.in-Limited.is)
