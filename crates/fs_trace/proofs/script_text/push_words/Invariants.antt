use Rattle.std.proofs.Common.{drop}
use Rattle.fs_trace.proofs.Wording.{AddsWordsOf}
use Rattle.fs_trace.proofs.script_text.push_words.Given as goal

-- the texts so far, and those of what is left
abbrev pub invariant-loop-word : goal.invariant-loop-word
invariant-loop-word l = AddsWordsOf l.names l.words (drop l.word-index l.words) l.width l.fn.text.items l.text.items
