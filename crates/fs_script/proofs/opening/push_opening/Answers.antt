use Rattle.std.proofs.Common.{◌≡◌, ℕ, Bool, true, false, List, ◌++◌, length, sym, ap, ap₂, ◌∙◌, arith}
use Rattle.std.proofs.lemmas.Result.{on_ok_weaker}
use Rattle.fs_names.specs.Limits.{largest}
use Rattle.fs_words.specs.Headers.{started_header}
use Rattle.fs_script.specs.Journals.{is_told}
use Rattle.fs_script.proofs.Openings.{block_pushed, header_pushed, nodes_counted, nodes_fit}
use Rattle.fs_script.proofs.opening.push_opening.Goals as goal

pub returns-then-not-is_told-clause-ok : goal.returns-then-not-is_told-clause-ok
returns-then-not-is_told-clause-ok c =
    let len : c.len.result ≡ length c.in_ok-rows.rows.items = grind (arith, c.len.ensures, c.in_ok-rows.rows.ok) in
    let untold : is_told c.args.start.now.limits (length c.in_ok-rows.rows.items) ≡ false = ap₂ is_told (sym c.limits.ensures) (sym len) ∙ sym c.is_told.ensures ∙ c.if-not-is_told.true in
    on_ok_weaker c.push.result (header_pushed _ _ c.args.start.now c.in_ok-rows.rows.items c.in_ok-rows.ensures.tree untold) c.push.ensures.ok

pub returns-then-not-is_told-clause-told : goal.returns-then-not-is_told-clause-told
returns-then-not-is_told-clause-told c =
    let len : c.len.result ≡ length c.in_ok-rows.rows.items = grind (arith, c.len.ensures, c.in_ok-rows.rows.ok) in
    let untold : is_told c.args.start.now.limits (length c.in_ok-rows.rows.items) ≡ false = ap₂ is_told (sym c.limits.ensures) (sym len) ∙ sym c.is_told.ensures ∙ c.if-not-is_told.true in
    on_ok_weaker c.push.result (λ h told. absurd (
    let both : ◌≡◌ {A = Bool} false true = sym untold ∙ ap (is_told c.args.start.now.limits) (nodes_counted c.args.start.now c.in_ok-rows.rows.items c.in_ok-rows.ensures.tree) ∙ told in cc)) c.push.ensures.ok

pub returns-clause-ok : goal.returns-clause-ok
returns-clause-ok c =
    let len : c.len.result ≡ length c.in_ok-rows.rows.items = grind (arith, c.len.ensures, c.in_ok-rows.rows.ok) in
    let told : is_told c.args.start.now.limits (length c.in_ok-rows.rows.items) ≡ true = ap₂ is_told (sym c.limits.ensures) (sym len) ∙ sym c.is_told.ensures ∙ c.if-not-is_told.false in
    let header = c.in_ok-push.ensures.ok ∙ ap (λ (h : List ℕ). c.args.line.now.added ++ h) (c.started_header.ensures ∙ ap started_header c.limits-2.ensures) in
    on_ok_weaker c.push-4.result
    (block_pushed _ _ _ _ _ c.args.start.now c.in_ok-rows.rows.items _ c.in_ok-rows.ensures.tree c.deref.ensures.value told header c.in_ok-push-2.ensures.ok c.in_ok-push_rows.ensures.ok) c.push-4.ensures.ok

pub returns-clause-told : goal.returns-clause-told
returns-clause-told c =
    on_ok_weaker c.push-4.result (λ h more. nodes_fit largest c.args.start.now.tree c.in_ok-rows.rows.items _ c.in_ok-rows.ensures.tree c.deref.ensures.value c.in_ok-push_rows.ensures.fits) c.push-4.ensures.ok
