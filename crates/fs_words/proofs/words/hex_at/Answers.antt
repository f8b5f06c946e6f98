use Rattle.std.proofs.Common.{◌≡◌, true, false, sym, ◌∙◌, ap, arith, length, ◌<◌, codes, Ok, inl, inr}
use Rattle.std.specs.Str.{bytes_eq}
use Rattle.std.proofs.lemmas.Bool.Decides.{nat_tests}
use Rattle.fs_words.specs.Reading.{or_fault}
use Rattle.fs_words.specs.declared.fault.FaultKind.TheVariants as kind
use Rattle.fs_words.proofs.DigitLemmas.{no_digits}
use Rattle.fs_words.proofs.ReadLemmas.{hex_dash, hex_empty, hex_none, hex_given}
use Rattle.fs_words.proofs.words.hex_at.Goals as goal
use Rattle.fs_words.proofs.words.hex_at.Goals.{else-word-eq0-via-then-word-eq0+else-are_digits, else-word-eq0-via-else-word-eq0}

pub returns-then-is_word : goal.returns-then-is_word
returns-then-is_word c =
    let w = c.args.word.now in
    let e : bytes_eq w (codes "-") ≡ true = sym c.is_word.ensures ∙ c.if-is_word.true in
    ap (or_fault kind.BadHex) (hex_dash w e) ∙ ap Ok (sym (c.new-then-is_word.ensures ∙ c.new.ensures.items))

pub returns-then-is_empty : goal.returns-then-is_empty
returns-then-is_empty c =
    let w = c.args.word.now in
    let e : bytes_eq w (codes "-") ≡ false = sym c.is_word.ensures ∙ c.if-is_word.false in
    let none : length w ≡ 0 = grind (arith, nat_tests) in
    ap (or_fault kind.BadHex) (hex_empty w e none)

pub returns-then-are_digits : goal.returns-then-are_digits
returns-then-are_digits c =
    let w = c.args.word.now in
    let e : bytes_eq w (codes "-") ≡ false = sym c.is_word.ensures ∙ c.if-is_word.false in
    let some : 0 < length w = grind (arith, nat_tests) in
    hex_given w c.bytes_at.result e some c.bytes_at.ensures

pub returns : goal.returns
returns c =
    let w = c.args.word.now in
    let e : bytes_eq w (codes "-") ≡ false = sym c.is_word.ensures ∙ c.if-is_word.false in
    let some : 0 < length w = grind (arith, nat_tests) in
    hex_none w e some (no_digits w (elim c.else-word-eq0.branch [
      | else-word-eq0-via-then-word-eq0+else-are_digits branch ↦ inr (sym branch.are_digits.ensures ∙ branch.if-are_digits.false)
      | else-word-eq0-via-else-word-eq0 branch ↦ inl (omega (arith, branch.if-word-eq0.false))
    ]))
