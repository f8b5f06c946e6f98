use Rattle.std.proofs.Common.{ℕ, Option, IfSome, subst}
use Rattle.fs_nodes.specs.code.Linked.{graph_of_places, IsLesser}
use Rattle.fs_nodes.proofs.BehindLemmas.{places_few, one_most}
use Rattle.fs_nodes.proofs.siblings.lesser_told.Goals as goal

pub greatest_below-told-requires-clause-most : goal.greatest_below-told-requires-clause-most
greatest_below-told-requires-clause-most c = places_few c.args.places.now c.requires.places

pub returns-in-Some-clause-lesser : goal.returns-in-Some-clause-lesser
returns-in-Some-clause-lesser c = subst (λ (o : Option ℕ). IfSome o (IsLesser (graph_of_places c.args.places.now) c.args.dir c.args.name.now)) c.in-Some.is c.lesser.ensures

pub returns-in-Some-clause-some : goal.returns-in-Some-clause-some
returns-in-Some-clause-some c = one_most c.args.given
