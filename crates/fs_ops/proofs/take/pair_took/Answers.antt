use Rattle.std.proofs.Common.{◌≡◌, ℕ, Option, Some, true, false, ◌∙◌, sym, ap, cond, subst}
use Rattle.fs_calls.specs.Forms as forms
use Rattle.fs_walk.specs.Ways.{ForkWay, new_fork, has_arrived}
use Rattle.fs_ops.specs.OpValue.{Forks}
use Rattle.fs_ops.specs.code.TakeAndLetGo.{heads_after, started}
use Rattle.fs_ops.proofs.TookLemmas.{first_victim, pair_forks, pair_takes, set_out}
use Rattle.fs_ops.proofs.take.pair_took.Goals as goal

pub returns-in-Some-fork-clause-stands : goal.returns-in-Some-fork-clause-stands
returns-in-Some-fork-clause-stands c pair at is =
    let p = c.args.source.now in
    let q = c.args.dest.now in
    let old = c.args.stand.now in
    let new = c.heads_took.new in
    pair_takes pair p q old.walk old.fork (Some new.heads) old.victim new.victim c.args.node at is c.requires.arrived c.requires.names (c.requires.forks pair)
    (ap (λ (f : Option ForkWay). heads_after p q f at old.walk.names c.args.node) c.in-Some-fork.is ∙ ap (λ (f : ForkWay). Some f) (sym c.heads_took.ensures.heads))
    (ap (λ (f : Option ForkWay). cond (has_arrived p q (started f at old.walk.names)) (Some c.args.node) old.victim) c.in-Some-fork.is ∙ sym c.heads_took.ensures.victim)

pub returns-in-Some-fork-clause-forks : goal.returns-in-Some-fork-clause-forks
returns-in-Some-fork-clause-forks c pair =
    let p = c.args.source.now in
    let q = c.args.dest.now in
    let old = c.args.stand.now in
    subst (Forks (forms.AtPair pair p q) old.walk)
    (ap (λ (f : Option ForkWay). heads_after p q f c.in-Some.at old.walk.names c.args.node) c.in-Some-fork.is ∙ ap (λ (f : ForkWay). Some f) (sym c.heads_took.ensures.heads))
    (pair_forks pair p q old.walk old.fork c.args.node c.in-Some.at (sym c.node.ensures ∙ c.in-Some.is) c.requires.arrived c.requires.names (c.requires.forks pair))

pub returns-then-has_set_out-clause-forks : goal.returns-then-has_set_out-clause-forks
returns-then-has_set_out-clause-forks c pair =
    let p = c.args.source.now in
    let q = c.args.dest.now in
    let old = c.args.stand.now in
    let heads = c.heads_took-in-None.new.heads in
    let first = c.new-heads.ensures ∙ ap (new_fork c.in-Some.at) c.names.ensures.names in
    subst (Forks (forms.AtPair pair p q) old.walk)
    (set_out p q old.fork c.args.node c.in-Some.at old.walk.names c.new-heads.result heads true c.in-None.is first c.heads_took-in-None.ensures.heads (sym c.if-has_set_out.true ∙ c.has_set_out.ensures))
    (pair_forks pair p q old.walk old.fork c.args.node c.in-Some.at (sym c.node.ensures ∙ c.in-Some.is) c.requires.arrived c.requires.names (c.requires.forks pair))

pub returns-then-has_set_out-clause-stands : goal.returns-then-has_set_out-clause-stands
returns-then-has_set_out-clause-stands c pair at is =
    let p = c.args.source.now in
    let q = c.args.dest.now in
    let old = c.args.stand.now in
    let new = c.heads_took-in-None.new in
    let same : c.in-Some.at ≡ at = (let here = sym c.node.ensures ∙ c.in-Some.is in cc) in
    let first = c.new-heads.ensures ∙ ap (new_fork c.in-Some.at) c.names.ensures.names ∙ ap (λ (m : ℕ). new_fork m old.walk.names) same in
    pair_takes pair p q old.walk old.fork (Some new.heads) old.victim new.victim c.args.node at is c.requires.arrived c.requires.names (c.requires.forks pair)
    (set_out p q old.fork c.args.node at old.walk.names c.new-heads.result new.heads true c.in-None.is first c.heads_took-in-None.ensures.heads (sym c.if-has_set_out.true ∙ c.has_set_out.ensures))
    (first_victim p q old.fork c.args.node at old.walk.names c.new-heads.result old.victim new.victim c.in-None.is first c.heads_took-in-None.ensures.victim)

pub returns-else-has_set_out-clause-stands : goal.returns-else-has_set_out-clause-stands
returns-else-has_set_out-clause-stands c pair at is =
    let p = c.args.source.now in
    let q = c.args.dest.now in
    let old = c.args.stand.now in
    let new = c.heads_took-in-None.new in
    let same : c.in-Some.at ≡ at = (let here = sym c.node.ensures ∙ c.in-Some.is in cc) in
    let first = c.new-heads.ensures ∙ ap (new_fork c.in-Some.at) c.names.ensures.names ∙ ap (λ (m : ℕ). new_fork m old.walk.names) same in
    pair_takes pair p q old.walk old.fork old.fork old.victim new.victim c.args.node at is c.requires.arrived c.requires.names (c.requires.forks pair)
    (set_out p q old.fork c.args.node at old.walk.names c.new-heads.result new.heads false c.in-None.is first c.heads_took-in-None.ensures.heads (sym c.if-has_set_out.false ∙ c.has_set_out.ensures) ∙ sym c.in-None.is)
    (first_victim p q old.fork c.args.node at old.walk.names c.new-heads.result old.victim new.victim c.in-None.is first c.heads_took-in-None.ensures.victim)
