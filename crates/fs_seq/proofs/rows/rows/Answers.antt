use Rattle.std.proofs.Common.{◌≡◌, ℕ, List, [], ◌∷◌, ◌++◌, refl, sym, ap, ◌∙◌}
use Rattle.fs_names.specs.Keys.{Key}
use Rattle.fs_seq_nodes.specs.code.Nodes.{graph}
use Rattle.fs_seq_nodes.proofs.NodeLemmas.{has_key}
use Rattle.fs_seq.proofs.Walked.{leads_first, rows_first, walked_to, leads_next, fewer_next, rows_next, rows_last}
use Rattle.fs_seq.proofs.rows.rows.Goals as goal

pub loop-at-init : goal.loop-at-init
loop-at-init c =
    let g = graph c.args.nodes.now in
    let root : c.push.new.self.items ≡ (c.new.result.items, 0) ∷ [] = c.in_ok-push.ensures.items ∙ ap (λ (z : List (Key × ℕ)). z ++ (c.new.result.items, 0) ∷ []) c.new-ahead.ensures.items in record {
      leads = leads_first g c.requires c.push.new.self.items c.new.result.items c.new.ensures.items root;
      plain = rw c.in_ok-rows.ensures.items refl;
      rows = rows_first g c.requires c.in_ok-rows.rows.items c.push.new.self.items c.new.result.items c.in_ok-rows.ensures.items c.new.ensures.items root;
    }

pub visit-requires : goal.visit-requires
visit-requires c =
    let g = graph c.args.nodes.now in
    has_key c.args.nodes.now c.in-Some.at.1 (c.requires.inside c.in-Some.at.0 c.in-Some.at.1 (walked_to g c.requires c.pop.new.self.items c.in-Some.at c.loop-at.ahead.items _ c.in-Some.ensures.items refl c.loop-at.invariant.leads))

pub loop-at-smaller : goal.loop-at-smaller
loop-at-smaller c = fewer_next (graph c.args.nodes.now) c.requires c.pop.new.self.items c.in-Some.at c.loop-at.ahead.items c.visit.new.ahead.items c.in-Some.ensures.items c.in_ok-visit.ensures.ahead c.loop-at.invariant.leads

pub loop-at-preserved : goal.loop-at-preserved
loop-at-preserved c =
    let g = graph c.args.nodes.now in record {
      leads = leads_next g c.requires c.pop.new.self.items c.in-Some.at c.loop-at.ahead.items c.visit.new.ahead.items c.in-Some.ensures.items c.in_ok-visit.ensures.ahead c.loop-at.invariant.leads;
      plain = c.in_ok-visit.ensures.plain c.loop-at.invariant.plain;
      rows = rows_next g c.requires c.pop.new.self.items c.in-Some.at c.loop-at.ahead.items c.visit.new.ahead.items c.in-Some.ensures.items c.in_ok-visit.ensures.ahead c.loop-at.invariant.leads c.loop-at.rows.items c.visit.new.rows.items _ c.in_ok-visit.ensures.rows c.loop-at.invariant.rows;
    }

pub returns-clause-plain : goal.returns-clause-plain
returns-clause-plain c = c.loop-at.invariant.plain

pub returns-clause-tree : goal.returns-clause-tree
returns-clause-tree c = rows_last (graph c.args.nodes.now) c.requires c.loop-at.rows.items c.loop-at.ahead.items (sym c.loop-at.ahead.ok.0 ∙ c.in_default.ensures.cases.0) c.loop-at.invariant.rows
