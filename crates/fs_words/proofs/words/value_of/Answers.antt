use Rattle.std.proofs.Common.{◌≤◌, length, arith, sym, ap, ◌∙◌}
use Rattle.std.specs.Str.{all_ascii_digits}
use Rattle.std.specs.Str.Parse.{digits_value}
use Rattle.std.proofs.lemmas.List.{take_all}
use Rattle.fs_words.proofs.DecimalLemmas.{value_more, digits_more, too_large}
use Rattle.fs_words.proofs.words.value_of.Goals as goal

pub loop-i-preserved : goal.loop-i-preserved
loop-i-preserved c =
    let w = c.args.word.now in
    let read = c.in-Some.ensures in
    record {
      digits = digits_more w c.loop-i.i (omega arith) c.loop-i.invariant.digits read.0;
      small = read.2;
      value = read.1 ∙ value_more w c.loop-i.i c.loop-i.number (omega arith) c.loop-i.invariant.value read.0;
    }

pub returns-in-None : goal.returns-in-None
returns-in-None c = too_large c.args.word.now c.loop-i.i c.loop-i.number (omega arith) c.loop-i.invariant.value c.in-None.ensures

pub returns : goal.returns
returns c =
    let w = c.args.word.now in
    let long : length w ≤ c.loop-i.i = omega (arith, c.loop-i-test.false) in
    let whole = take_all c.loop-i.i w long in
    (sym (ap all_ascii_digits whole) ∙ c.loop-i.invariant.digits, c.loop-i.invariant.value ∙ ap (digits_value 10) whole, c.loop-i.invariant.small)
