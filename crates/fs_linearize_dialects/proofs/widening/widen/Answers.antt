use Rattle.std.proofs.Common.{◌≡◌, ◌==◌, ◌∙◌, ℕ, List, length, map, [], sym, ap}
use Rattle.std.specs.Ordering.{nat_cmp}
use Rattle.std.specs.BTreeMap.{get}
use Rattle.std.specs.Global.{Vec}
use Rattle.std.proofs.lemmas.Bool.{eqb-true}
use Rattle.std.proofs.lemmas.List.{nil_from_length}
use Rattle.fs_linearize_histories.specs.declared.heard.Heard.{Heard}
use Rattle.fs_linearize_dialects.specs.Dialects.{named_in, widened_entry, widened}
use Rattle.fs_linearize_dialects.specs.declared.dialect.Row.{Row}
use Rattle.fs_linearize_dialects.proofs.WideLemmas.{if_ok, widened_none}
use Rattle.fs_linearize_dialects.proofs.widening.widen.Goals as goal

pub returns-then-is_empty : goal.returns-then-is_empty
returns-then-is_empty c =
    let none : c.args.dialect.now ≡ [] = nil_from_length c.args.dialect.now (eqb-true _ _ (sym c.is_empty.ensures ∙ c.if-is_empty.true)) in
    sym (widened_none c.args.dialect.now c.args.history.items none)

pub returns : goal.returns
returns c =
    let h = c.args.history.items in
    let knows : (q : ℕ) → get nat_cmp c.in_ok-names.names q ≡ named_in q h = λ q. c.in_ok-names.ensures q ∙ ap (named_in q) c.deref.ensures.value in
    if_ok c.widened_entries.result
    (λ wide. (g : List Heard) → ((q : ℕ) → get nat_cmp c.in_ok-names.names q ≡ named_in q g) → wide.items ≡ map (widened_entry c.rows.result.now g) h)
    (λ wide. wide.items ≡ widened c.args.dialect.now h)
    (λ wide all. all h knows ∙ ap (λ (rows : List Row). widened rows h) c.rows.ensures)
    c.widened_entries.ensures
