use Rattle.std.proofs.Common.{◌≡◌, ◌+◌, ◌-◌, ◌≤◌, vec_len}
use Rattle.std.specs.Io.KnownBytes.{Consumes}
use Rattle.fs_words.specs.Headers.{limit_of_text}
use Rattle.fs_verdict.proofs.source.read_all.Given as goal

-- so much is read that it tells whether the text is too long
abbrev pub invariant-pieces : goal.invariant-pieces
invariant-pieces g l = record {
  most : vec_len l.text ≤ l.most;
  within : l.most ≤ 1073741825;
  told : l.most ≤ vec_len l.text → limit_of_text l.text.items + 1 ≤ vec_len l.text;
  took : Consumes (g.R.Source.remaining l.initial.reader) (g.R.Source.remaining l.reader) l.text.items;
  quiet : g.R.Source.failures l.reader ≡ g.R.Source.failures l.initial.reader;
}

abbrev pub decreases-pieces : goal.decreases-pieces
decreases-pieces g l = 1073741825 - vec_len l.text
