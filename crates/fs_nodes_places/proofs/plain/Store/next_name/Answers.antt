use Rattle.std.proofs.Common.{Some, ℕ, sym, ap, ◌∙◌}
use Rattle.std.specs.Option.{option_copied}
use Rattle.fs_nodes_places.specs.Stores.{graph_of, limit_of, room}
use Rattle.fs_nodes_places.proofs.PlainEditLemmas.{next_is, next_name_is}
use Rattle.fs_nodes_places.proofs.PickLemmas.{found_child}
use Rattle.fs_nodes_places.proofs.RealLemmas.{real_of}
use Rattle.fs_nodes_places.proofs.plain.Store.next_name.Goals as goal

pub returns-in_default-clause-rest : goal.returns-in_default-clause-rest
unfolding graph_of limit_of room
returns-in_default-clause-rest c = rw (← c.self.view_is) (next_name_is c.self.inside.limit c.self.inside.places.items c.args.dir (option_copied c.args.low) _ c.self.invariant.0 (sym (ap option_copied c.in_default.is) ∙ (rw c.deref.ensures.value at c.least_in.ensures)))

pub returns-in_default-clause-real : goal.returns-in_default-clause-real
unfolding graph_of limit_of room
returns-in_default-clause-real c = rw (← c.self.view_is) (real_of c.self.inside.limit c.self.inside.limit c.self.inside.places.items c.self.invariant.0 c.self.invariant.0.within)

pub returns-in_default-find_in-clause-rest : goal.returns-in_default-find_in-clause-rest
unfolding graph_of limit_of room
returns-in_default-find_in-clause-rest c = absurd (found_child c.self.inside.places.items c.args.dir (option_copied c.args.low) c.in-Some.name.now ((rw c.deref.ensures.value at (sym c.least_in.ensures)) ∙ ap option_copied c.in-Some.is) ((rw c.deref-2.ensures.value at (sym c.find_in.ensures)) ∙ c.in_default-find_in.is))

pub returns-in_default-find_in-clause-real : goal.returns-in_default-find_in-clause-real
unfolding graph_of limit_of room
returns-in_default-find_in-clause-real c = rw (← c.self.view_is) (real_of c.self.inside.limit c.self.inside.limit c.self.inside.places.items c.self.invariant.0 c.self.invariant.0.within)

pub returns-clause-entry : goal.returns-clause-entry
unfolding graph_of limit_of room
returns-clause-entry c = rw (← c.self.view_is) (next_is c.self.inside.limit c.self.inside.places.items c.args.dir c.new.result (option_copied c.args.low) c.in-Some.name.now c.self.invariant.0 (sym (ap option_copied c.in-Some.is) ∙ (rw c.deref.ensures.value at c.least_in.ensures)) (ap (λ (n : ℕ). Some n) c.new.ensures ∙ sym c.in-Some-find_in.is ∙ (rw c.deref-2.ensures.value at c.find_in.ensures)))

pub returns-clause-rest : goal.returns-clause-rest
unfolding graph_of limit_of room
returns-clause-rest c = rw (← c.self.view_is) (next_name_is c.self.inside.limit c.self.inside.places.items c.args.dir (option_copied c.args.low) _ c.self.invariant.0 (sym (ap option_copied c.in-Some.is) ∙ (rw c.deref.ensures.value at c.least_in.ensures)))

pub returns-clause-real : goal.returns-clause-real
unfolding graph_of limit_of room
returns-clause-real c = rw (← c.self.view_is) (real_of c.self.inside.limit c.self.inside.limit c.self.inside.places.items c.self.invariant.0 c.self.invariant.0.within)
