use Rattle.std.proofs.Common.{arith}
use Rattle.fs_names.proofs.ReadingLemmas.{bytes_each}
use Rattle.fs_words.proofs.Again.{string_again}
use Rattle.fs_words.proofs.json_strings.push_string.Goals as goal

pub returns-in_err-push-clause-reads : goal.returns-in_err-push-clause-reads
returns-in_err-push-clause-reads c rest = string_again c.args.bytes.now rest (bytes_each c.args.bytes.now (λ i. omega (arith, c.type_inv.bytes i)))

pub returns-in_err-push_char-clause-reads : goal.returns-in_err-push_char-clause-reads
returns-in_err-push_char-clause-reads c rest = string_again c.args.bytes.now rest (bytes_each c.args.bytes.now (λ i. omega (arith, c.type_inv.bytes i)))

pub returns-clause-reads : goal.returns-clause-reads
returns-clause-reads c rest = string_again c.args.bytes.now rest (bytes_each c.args.bytes.now (λ i. omega (arith, c.type_inv.bytes i)))
