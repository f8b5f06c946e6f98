use Rattle.std.proofs.Common.{◌≡◌, ◌≢◌, ◌<◌, length, get_or, sym, arith}
use Rattle.std.proofs.lemmas.Bool.Decides.{nat_tests}
use Rattle.fs_words.proofs.DecimalLemmas.{no_number_empty, no_number_zero, number_read}
use Rattle.fs_words.proofs.words.number_of.Goals as goal
use Rattle.fs_words.proofs.words.number_of.Goals.{else-word-gt1-via-then-word-gt1+else-word-eq48, else-word-gt1-via-else-word-gt1}

pub returns-then-is_empty : goal.returns-then-is_empty
returns-then-is_empty c =
    let none : length c.args.word.now ≡ 0 = grind (arith, nat_tests) in
    sym (no_number_empty c.args.word.now none)

pub returns-then-word-eq48 : goal.returns-then-word-eq48
returns-then-word-eq48 c = sym (no_number_zero c.args.word.now c.if-word-gt1.true c.if-word-eq48.true)

pub returns : goal.returns
returns c =
    let w = c.args.word.now in
    let some : 0 < length w = grind (arith, nat_tests) in
    let first : 1 < length w → get_or w 0 0 ≢ 48 = λ long. elim c.else-word-gt1.branch [
      | else-word-gt1-via-then-word-gt1+else-word-eq48 branch ↦ branch.if-word-eq48.false
      | else-word-gt1-via-else-word-gt1 branch ↦ absurd (omega (arith, branch.if-word-gt1.false))
    ] in
    number_read w c.value_of.result some first c.value_of.ensures
