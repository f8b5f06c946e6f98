use Rattle.std.proofs.Common.{rules, ◌≢◌, ◌≤◌, [], length, arith, ◌∙◌, ◌+◌, refl}
use Rattle.fs_words.proofs.WriteLemmas.{root_word, name_pushed, path_pushed}
use Rattle.fs_words.proofs.addition.Addition.push_steps.Goals as goal

pub returns-then-is_empty-clause-ok : goal.returns-then-is_empty-clause-ok
returns-then-is_empty-clause-ok c = rw (root_word c.args.path.now (c.is_empty.ensures.0 (search rules))) (search rules)

pub loop-i-preserved : goal.loop-i-preserved
loop-i-preserved c = record {
  added = name_pushed c.loop-i.self.added c.push_step.new.self.added c.args.path.now c.loop-i.i (c.loop-i.i + 1) c.name.result.now c.name.ensures refl c.in_ok-push_step.ensures.ok ∙ c.loop-i.invariant.added;
  before = search rules;
}

pub returns : goal.returns
returns c =
    let all : length c.args.path.now ≤ c.loop-i.i = omega (arith, c.len-i-end.ensures.len, c.loop-i-test.false) in
    let some : c.args.path.now ≢ [] = λ e. search (rules, c.is_empty.ensures.1 e) in
    record {
      ok = path_pushed c.args.self.now.added c.loop-i.self.added c.args.path.now c.loop-i.i all some c.loop-i.invariant.added;
      before = search rules;
    }
