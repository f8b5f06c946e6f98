use Rattle.std.proofs.Common.{rules, ◌≡◌, ◌∙◌, ◌∷◌, [], sym, ap}
use Rattle.fs_share_observe.specs.Pasts.{start_of}
use Rattle.fs_share_observe.specs.Playing.{IsPlayed}
use Rattle.fs_share_observe.specs.declared.history.Noted.TheVariants.{Began}
use Rattle.fs_share_observe.proofs.Taking.{tied_first}
use Rattle.fs_share_observe.proofs.publisher.Publisher.open.Goals as goal

pub invariant_of-result : goal.invariant_of-result
invariant_of-result g c =
    let first = c.first_copy-first.result in
    let made = c.in_ok-writer.ensures in
    let book : first.token.book ≡ g.N.Named.book = ap (λ s. s.token.book) c.first_copy-first.ensures ∙ c.token-token.ensures.1 in
    let log : first.token.log ≡ c.in-Some.front = ap (λ s. s.token.log) c.first_copy-first.ensures ∙ c.token-token.ensures.0 in
    let played : IsPlayed first = search rules in
    let start : c.again.result ≡ Began c.args.first ∷ [] = c.again.ensures ∙ c.in-Some.ensures in (
      tied_first g.N.Named.book _ first _ c.in-Some.front made.shown.0 made.shown.1 book log played,
      (first.token, [], made.place, book),
      start ∙ ap (λ t. Began t ∷ []) (sym (ap start_of start)),
      ap start_of (sym c.again.ensures),
    )
