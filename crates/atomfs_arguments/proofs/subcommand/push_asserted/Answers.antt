use Rattle.std.proofs.Common.{◌≡◌, ℕ, List, Some, map, subst}
use Rattle.std.specs.Prelude.{option_map}
use Rattle.std.specs.Borrow.{Bor}
use Rattle.clap.specs.Matches.{found_of, matched_of, raw_values}
use Rattle.fs_sched_outcomes.specs.Asserts.{word_of}
use Rattle.atomfs_arguments.specs.Commands.{said}
use Rattle.atomfs_arguments.proofs.Saying.{texts_said}
use Rattle.atomfs_arguments.proofs.subcommand.push_asserted.Goals as goal

pub returns-in-Some : goal.returns-in-Some
returns-in-Some c =
    let texts = c.in-Some.texts.now in
    let found = found_of c.args.matches.now in
    let given = subst (λ (w : List ℕ). Some (map (λ (text : Bor (List ℕ)). text.now) texts) ≡ option_map raw_values (matched_of found w)) c.word.ensures c.in-Some.ensures in
    texts_said c.push_texts.result c.args.quantifier (map said c.args.asserted.now.items) (map said c.push_texts.new.asserted.items) texts (matched_of found (word_of c.args.quantifier)) given c.push_texts.ensures
