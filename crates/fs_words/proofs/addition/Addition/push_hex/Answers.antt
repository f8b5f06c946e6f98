use Rattle.std.proofs.Common.{rules, ◌≡◌, arith, length, ◌<◌}
use Rattle.std.proofs.lemmas.Bool.Decides.{nat_tests}
use Rattle.fs_words.proofs.NumberLemmas.{hex_word_none, hex_word_long}
use Rattle.fs_words.proofs.DigitLemmas.{added_behind}
use Rattle.fs_names.proofs.ReadingLemmas.{bytes_each}
use Rattle.fs_words.proofs.addition.Addition.push_hex.Goals as goal

pub returns-then-is_empty-clause-ok : goal.returns-then-is_empty-clause-ok
returns-then-is_empty-clause-ok c =
    let none : length c.args.bytes.now ≡ 0 = grind (arith, nat_tests) in
    rw (hex_word_none c.args.bytes.now none) (search rules)

pub returns-clause-ok : goal.returns-clause-ok
returns-clause-ok c =
    let some : 0 < length c.args.bytes.now = grind (arith, nat_tests) in
    rw (hex_word_long c.args.bytes.now some, ← c.self.view_is) (added_behind c.self.inside.start c.self.inside.text.items _ _ c.push_digits.result c.self.invariant c.push_digits.ensures.ok)

pub returns-then-is_empty-clause-bytes : goal.returns-then-is_empty-clause-bytes
returns-then-is_empty-clause-bytes c = bytes_each c.args.bytes.now (λ i. omega (arith, c.type_inv.bytes i))

pub returns-clause-bytes : goal.returns-clause-bytes
returns-clause-bytes c = bytes_each c.args.bytes.now (λ i. omega (arith, c.type_inv.bytes i))
