use Rattle.std.proofs.Common.{◌≡◌, ℕ, true, Option, ◌+◌, length, get_or, arith, subst, sym, ◌∙◌, refl}
use Rattle.fs_nodes.specs.Stores.{child}
use Rattle.fs_core_seats.specs.code.Searches.{IsLowestOn, HasLeastOf}
use Rattle.fs_core_seats.proofs.Searching.{least_same, least_new, least_old, least_of_all, true_is, false_is}
use Rattle.fs_core_seats.proofs.Ways.{unmet_lowest, lowest_unmet}
use Rattle.fs_core_seats.proofs.helping.to_help.Goals.{then-is_lowest+then-is_less, else-is_lowest, else-is_lowest-via-then-is_lowest+else-is_less, else-is_lowest-via-else-is_lowest}
use Rattle.fs_core_seats.proofs.helping.to_help.Goals as goal

pub loop-i-preserved : goal.loop-i-preserved
loop-i-preserved c =
    let seats = c.args.seats.now in
    let listed = c.args.listed.now in
    let moved = c.args.moved.now in
    let same : length c.find_ways.new.ways ≡ length c.args.seats.now = c.find_ways.ensures.length ∙ c.requires.ways in
    let lowest : c.is_lowest.result ≡ true → IsLowestOn (child c.args.store.now) c.args.seats.now c.args.moved.now (get_or c.args.listed.now c.loop-i.i 0) = λ e. unmet_lowest c.args.store.now c.args.holders.now seats listed c.find_ways.new.ways moved (get_or c.args.listed.now c.loop-i.i 0) c.requires.can same c.find_ways.ensures.ways (c.loop-i.i, c.loop-i-test.true, refl) (c.is_lowest.ensures.0 (true_is c.is_lowest.result e)) in
    let keep : (o : Option ℕ) → c.if-is_lowest.chosen ≡ o → HasLeastOf (child c.args.store.now) c.args.seats.now c.args.moved.now c.args.listed.now (c.loop-i.i + 1) o → HasLeastOf (child c.args.store.now) c.args.seats.now c.args.moved.now c.args.listed.now (c.loop-i.i + 1) c.if-is_lowest.chosen = λ o e f. subst (λ (o : Option ℕ). HasLeastOf (child c.args.store.now) c.args.seats.now c.args.moved.now c.args.listed.now (c.loop-i.i + 1) o) (sym e) f in
    elim c.if-is_lowest.branch [
      | then-is_lowest+then-is_less w ↦ keep _ w.chosen-is (least_new (child c.args.store.now) seats moved listed c.loop-i.i c.loop-i.chosen w.is_less.result (lowest w.if-is_lowest.true) w.is_less.ensures w.if-is_less.true c.loop-i.invariant)
      | else-is_lowest w ↦ keep _ w.chosen-is (elim w.else-is_lowest.branch [
        | else-is_lowest-via-then-is_lowest+else-is_less x ↦ least_old (child c.args.store.now) seats moved listed c.loop-i.i c.loop-i.chosen x.is_less.result (lowest x.if-is_lowest.true) x.is_less.ensures x.if-is_less.false c.loop-i.invariant
        | else-is_lowest-via-else-is_lowest x ↦ least_same (child c.args.store.now) seats moved listed c.loop-i.i c.loop-i.chosen (λ l. false_is c.is_lowest.result x.if-is_lowest.false (c.is_lowest.ensures.1 (lowest_unmet (child c.args.store.now) seats listed c.find_ways.new.ways moved (get_or c.args.listed.now c.loop-i.i 0) c.requires.can.all same c.find_ways.ensures.ways l))) c.loop-i.invariant
      ])
    ]

pub returns-clause-chosen : goal.returns-clause-chosen
returns-clause-chosen c =
    least_of_all (child c.args.store.now) c.args.seats.now c.args.moved.now c.args.listed.now c.loop-i.i c.loop-i.chosen c.requires.can.all (omega (arith, c.loop-i-test.false, c.loop-i.auto.i-end)) c.loop-i.invariant
