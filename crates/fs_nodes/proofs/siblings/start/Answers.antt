use Rattle.std.proofs.Common.{◌≡◌, ◌<◌, ◌∙◌, ℕ, Option, Some, None, IfSome, sym, subst, arith}
use Rattle.fs_names.specs.declared.limits.TheConstants.{NODE_LIMIT}
use Rattle.fs_nodes.specs.code.Linked.{graph_of_places, IsEntry, IsLesser, IsPassed}
use Rattle.fs_nodes.proofs.StepLemmas.{passed_first}
use Rattle.fs_nodes.proofs.BehindLemmas.{single_passed}
use Rattle.fs_nodes.proofs.WalkLemmas.{entry_place, entry_below}
use Rattle.fs_nodes.proofs.siblings.start.Goals as goal

pub offset_bounds-places-n : goal.offset_bounds-places-n
offset_bounds-places-n c = let h : c.in-Some.n < NODE_LIMIT = entry_below c.args.places.now c.args.dir c.in-Some.n c.requires.places (subst (λ (o : Option ℕ). IfSome o (IsEntry (graph_of_places c.args.places.now) c.args.dir)) c.in-Some.is c.requires.after) in omega arith

pub bounds-places-n : goal.bounds-places-n
bounds-places-n c = entry_place c.args.places.now c.args.dir c.in-Some.n (subst (λ (o : Option ℕ). IfSome o (IsEntry (graph_of_places c.args.places.now) c.args.dir)) c.in-Some.is c.requires.after)

pub at-requires : goal.at-requires
at-requires c = entry_below c.args.places.now c.args.dir c.in-Some.n c.requires.places (subst (λ (o : Option ℕ). IfSome o (IsEntry (graph_of_places c.args.places.now) c.args.dir)) c.in-Some.is c.requires.after)

pub returns-in-Some-clause-stands : goal.returns-in-Some-clause-stands
returns-in-Some-clause-stands c x r = subst (λ (o : Option ℕ). IsPassed c.args.places.now c.args.dir x o c.index-places-n.result.next) (sym c.at.ensures) (single_passed c.args.places.now c.args.dir x c.in-Some.n c.index-places-n.result c.requires.places (subst (λ (o : Option ℕ). IfSome o (IsLesser (graph_of_places c.args.places.now) c.args.dir x)) c.in-Some.is r) c.index-places-n.is)

pub returns-in-Some-clause-first : goal.returns-in-Some-clause-first
returns-in-Some-clause-first c e = let h : ◌≡◌ {A = Option ℕ} (Some c.in-Some.n) None = sym c.in-Some.is ∙ e in absurd (cc)

pub returns-in-None-clause-stands : goal.returns-in-None-clause-stands
returns-in-None-clause-stands c x r = passed_first c.args.places.now c.args.dir x c.none.result c.first_spot.result c.none.ensures c.first_spot.ensures

pub returns-in-None-clause-first : goal.returns-in-None-clause-first
returns-in-None-clause-first c e = c.first_spot.ensures
