use Rattle.std.proofs.Common.{ℕ, Bool, cond, sym, ap, ◌∙◌}
use Rattle.fs_names.specs.Heads.{number_with}
use Rattle.fs_nodes_places.specs.code.Keys.{hashed, word_of}
use Rattle.fs_nodes_places.proofs.key.word_of.Goals as goal

pub returns-then-is_short : goal.returns-then-is_short
unfolding word_of
returns-then-is_short c = c.requires.is ∙ sym (ap (λ (b : Bool). cond {A = ℕ} b (number_with 0 8 c.args.name.now) (hashed c.args.name.now)) (sym c.is_short.ensures ∙ c.if-is_short.true))

pub returns-else-is_short : goal.returns-else-is_short
unfolding word_of
returns-else-is_short c = c.hashed.ensures ∙ sym (ap (λ (b : Bool). cond {A = ℕ} b (number_with 0 8 c.args.name.now) (hashed c.args.name.now)) (sym c.is_short.ensures ∙ c.if-is_short.false))
