use Rattle.std.proofs.Common.{◌≡◌, ◌+◌, Bool, true, false, List, drop, ap, ◌∙◌, subst, rules}
use Rattle.fs_calls.specs.Starts.{Start}
use Rattle.fs_calls.specs.Outcomes.{reply_at}
use Rattle.fs_calls.specs.declared.call.Call.{Call}
use Rattle.fs_calls.specs.declared.reply.Reply.{Reply}
use Rattle.fs_linearize_histories.specs.declared.heard.Pattern.{Pattern}
use Rattle.fs_linearize_dialects.specs.Names.{name_of}
use Rattle.fs_linearize_dialects.specs.declared.call_name.CallName.{CallName}
use Rattle.fs_linearize_dialects.specs.declared.dialect.Row.{Row}
use Rattle.fs_linearize_dialects.specs.Learning.{rows_at, learned}
use Rattle.fs_linearize_dialects.specs.code.Steps.{Adds}
use Rattle.fs_linearize_dialects.specs.declared.learning.End.TheVariants.{At}
use Rattle.fs_linearize_dialects.proofs.LearnLemmas.{behind, not_true, call_fits, goes_by, stops_at}
use Rattle.fs_linearize_dialects.proofs.learning.learn_calls.Goals as goal

-- what a step adds, in the words of the definitions
adds_by : (name : CallName) (now : Start) (call : Call) (ours : Reply) (known : Pattern) (old new : List Row) (b d : Bool) → name ≡ name_of call → ours ≡ reply_at now call → b ≡ d → Adds (rows_at name ours known) old new b → Adds (rows_at (name_of call) (reply_at now call) known) old new d
adds_by name now call ours known old new b d is replied same adds =
    subst (λ (t : Bool). Adds (rows_at (name_of call) (reply_at now call) known) old new t) same
    (subst (λ (r : Reply). Adds (rows_at (name_of call) r known) old new b) replied
    (subst (λ (n : CallName). Adds (rows_at n ours known) old new b) is adds))

pub returns-then-not-branch : goal.returns-then-not-branch
returns-then-not-branch c =
    let h = c.args.history.now in
    let call = c.in-Some.call.now in
    let known = c.in-Some.known.now in
    let no : c.in_ok-push_at.field-0 ≡ false = search (rules, not_true) in
    let adds = adds_by c.of.result c.calls.tree call c.in_ok-ours.ours known c.calls.rows.items c.push_at.new.rows.items c.in_ok-push_at.field-0 false c.of.ensures c.in_ok-ours.ensures.reply no c.in_ok-push_at.ensures in
    ap (λ (r : Reply). (c.push_at.new.rows.items, At (c.calls.at + 2) r)) c.in_ok-ours.ensures.reply
    ∙ stops_at h c.calls.tree c.calls.at call known c.calls.rows.items c.push_at.new.rows.items (learned c.args.start.now 0 h) c.in-Some.ensures.some c.calls.invariant.left adds

pub calls-preserved : goal.calls-preserved
calls-preserved c =
    let h = c.args.history.now in
    let call = c.in-Some.call.now in
    let known = c.in-Some.known.now in
    let yes : c.in_ok-push_at.field-0 ≡ true = search rules in
    let adds = adds_by c.of.result c.calls.tree call c.in_ok-ours.ours known c.calls.rows.items c.push_at.new.rows.items c.in_ok-push_at.field-0 true c.of.ensures c.in_ok-ours.ensures.reply yes c.in_ok-push_at.ensures in
    record {
      within = call_fits h c.calls.at call known c.in-Some.ensures.some c.calls.invariant.within;
      left = ap (λ (t : Start). behind c.push_at.new.rows.items (learned t (c.calls.at + 2) (drop (c.calls.at + 2) h))) c.in_ok-ours.ensures.tree
          ∙ goes_by h c.calls.tree c.calls.at call known c.calls.rows.items c.push_at.new.rows.items (learned c.args.start.now 0 h) c.in-Some.ensures.some c.calls.invariant.left adds;
    }

pub calls-preserved-else-not-branch : goal.calls-preserved-else-not-branch
calls-preserved-else-not-branch c =
    let h = c.args.history.now in
    let call = c.in-Some.call.now in
    let known = c.in-Some.known.now in
    let yes : c.in_ok-push_at.field-0 ≡ true = search rules in
    let adds = adds_by c.of.result c.calls.tree call c.in_ok-ours.ours known c.calls.rows.items c.push_at.new.rows.items c.in_ok-push_at.field-0 true c.of.ensures c.in_ok-ours.ensures.reply yes c.in_ok-push_at.ensures in
    record {
      within = call_fits h c.calls.at call known c.in-Some.ensures.some c.calls.invariant.within;
      left = ap (λ (t : Start). behind c.push_at.new.rows.items (learned t (c.calls.at + 2) (drop (c.calls.at + 2) h))) c.in_ok-ours.ensures.tree
          ∙ goes_by h c.calls.tree c.calls.at call known c.calls.rows.items c.push_at.new.rows.items (learned c.args.start.now 0 h) c.in-Some.ensures.some c.calls.invariant.left adds;
    }

pub calls-preserved-else-not-branch-2 : goal.calls-preserved-else-not-branch-2
calls-preserved-else-not-branch-2 c =
    let h = c.args.history.now in
    let call = c.in-Some.call.now in
    let known = c.in-Some.known.now in
    let yes : c.in_ok-push_at.field-0 ≡ true = search rules in
    let adds = adds_by c.of.result c.calls.tree call c.in_ok-ours.ours known c.calls.rows.items c.push_at.new.rows.items c.in_ok-push_at.field-0 true c.of.ensures c.in_ok-ours.ensures.reply yes c.in_ok-push_at.ensures in
    record {
      within = call_fits h c.calls.at call known c.in-Some.ensures.some c.calls.invariant.within;
      left = ap (λ (t : Start). behind c.push_at.new.rows.items (learned t (c.calls.at + 2) (drop (c.calls.at + 2) h))) c.in_ok-ours.ensures.tree
          ∙ goes_by h c.calls.tree c.calls.at call known c.calls.rows.items c.push_at.new.rows.items (learned c.args.start.now 0 h) c.in-Some.ensures.some c.calls.invariant.left adds;
    }
