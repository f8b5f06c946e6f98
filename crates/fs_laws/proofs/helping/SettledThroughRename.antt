-- The settled tree through the commit of a call that moves nodes.
use Rattle.std.proofs.Common.{◌≡◌, ℕ, ◌<◌, List, [], ◌∷◌, Option, Some, sym, ap, ◌∙◌, arith, subst}
use Rattle.fs_names.specs.Keys.{Key}
use Rattle.fs_laws.specs.Maps.{Map}
use Rattle.fs_calls.specs.Graphs.{Graph, IsGraph, numbers, graph_shapes}
use Rattle.fs_machine.specs.Records.{Record, Records, Phase, Placed}
use Rattle.fs_laws.specs.Invariants.{spots, IsPlaced, AllLater, InOrder}
use Rattle.fs_laws.specs.Placed.{NoneUnder, InPlace}
use Rattle.fs_laws.specs.CallFacts.{IsAfter, Keeps, CallFacts}
use Rattle.fs_laws.proofs.graphs.TreesOfChanges.{resolve_at}

-- two placed calls with different places are two
pub two_calls : (ops : Records) (c d : ℕ) (p : IsPlaced ops c) (q : IsPlaced ops d) → p.place < q.place → c ≡ d → ⊥
two_calls ops c d p q less e =
    let a : ◌≡◌ {A = Option Record} (Some p.op) (Some q.op) = sym p.is ∙ ap ops e ∙ q.is in
    let b : p.op ≡ q.op = cc in
    let f : ◌≡◌ {A = Phase} (Placed p.place) (Placed q.place) = sym p.phase ∙ ap (λ (o : Record). o.phase) b ∙ q.phase in
    let g : p.place ≡ q.place = cc in
    omega arith

none_below : (tree : Map ℕ) (ops : Records) (key : ℕ → Key) → CallFacts tree ops key → (c : ℕ) (p : IsPlaced ops c) (cs : List ℕ) → AllLater ops p.place cs → InOrder ops cs → NoneUnder (key c) (spots ops key cs)
none_below tree ops key kept c p [] later order = tt
none_below tree ops key kept c p (d ∷ cs) later order =
    let q : IsPlaced ops d = order.0 in
    let less : p.place < q.place = later.0 q in (
      (kept.pairs c d p.op q.op p.holdings q.holdings (two_calls ops c d p q less) p.is q.is p.on q.on).after (subst (λ (z : Phase). IsAfter z q.op.phase) (sym p.phase) (subst (λ (z : Phase). IsAfter (Placed p.place) z) (sym q.phase) less)),
      none_below tree ops key kept c p cs later.1 order.2,
    )

-- in a graph of a run the placed calls stand
pub in_place_of : (graph : Graph) → IsGraph graph → (ops : Records) (key : ℕ → Key) → CallFacts (numbers graph) ops key → (cs : List ℕ) → InOrder ops cs → InPlace (graph_shapes graph) (spots ops key cs)
in_place_of graph is ops key kept [] order = tt
in_place_of graph is ops key kept (c ∷ cs) order =
    let p : IsPlaced ops c = order.0 in
    let k : Keeps (numbers graph) (key c) p.op p.holdings = kept.each c p.op p.holdings p.is p.on in (
      resolve_at graph is p.holdings.node (key c) k.located.here,
      rw p.is k.fits,
      none_below (numbers graph) ops key kept c p cs order.1 order.2,
      in_place_of graph is ops key kept cs order.2,
    )
