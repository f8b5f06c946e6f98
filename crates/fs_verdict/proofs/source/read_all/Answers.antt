use Rattle.std.proofs.Common.{◌≡◌, ◌+◌, ap, sym, subst, ◌∙◌, arith, rules, vec_len, max}
use Rattle.fs_words.specs.Headers.{limit_of_text}
use Rattle.fs_words.proofs.HeaderLemmas.{most_of_text}
use Rattle.std.specs.Io.KnownBytes.{Consumes}
use Rattle.std.proofs.KnownBytes.{Consumes-trans}
use Rattle.fs_verdict.proofs.source.read_all.Goals as goal

pub pieces-preserved-then-len-most : goal.pieces-preserved-then-len-most
pieces-preserved-then-len-most g c =
    let limit : c.limit_of_text.result ≡ limit_of_text c.read_piece.new.text.items = c.limit_of_text.ensures ∙ ap limit_of_text c.deref.ensures.value in
    let most = most_of_text c.read_piece.new.text.items in
    let more : c.max-most.result ≡ max c.pieces.most (c.limit_of_text.result + 1) = search rules in
    let within = c.pieces.invariant.within in
    let full : vec_len c.read_piece.new.text ≡ c.pieces.most = search rules in
    record {
      most = omega (arith, full, more);
      within = omega (arith, limit, most, more, within);
      told = λ all. omega (arith, limit, more, all);
      took = subst (Consumes _ _) (sym c.in-Ok.ensures.ok.2) (Consumes-trans _ _ _ _ _ c.pieces.invariant.took c.in-Ok.ensures.ok.1);
      quiet = search rules;
    }
