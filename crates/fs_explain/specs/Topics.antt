-- The words by which faults are named.
use Rattle.std.specs.Prelude.{◌≡◌, ◌++◌, ℕ, List, Option, Some, None, codes}
use Rattle.std.specs.Io.{StartsWith}
use Rattle.fs_names.specs.declared.fault.PathFault.{PathFault}
use Rattle.fs_names.specs.declared.fault.PathFault.TheVariants as path
use Rattle.fs_words.specs.declared.fault.FaultKind.{FaultKind as TextFault}
use Rattle.fs_words.specs.declared.fault.FaultKind.TheVariants as text
use Rattle.fs_verdict.specs.Checks.{kind_word}
use Rattle.fs_explain.specs.declared.topic.Topic.{Topic}
use Rattle.fs_explain.specs.declared.topic.Topic.TheVariants.{Text, Path, Entry, History}
use Rattle.fs_explain.specs.declared.topic.HistoryWord.{HistoryWord}
use Rattle.fs_explain.specs.declared.topic.HistoryWord.TheVariants as history

-- the word of a fault of a path
abbrev pub path_word : PathFault → List ℕ
path_word path.NotAbsolute = codes "NotAbsolute"
path_word path.Nul = codes "Nul"
path_word path.NameTooLong = codes "NameTooLong"
path_word path.TooManyNames = codes "TooManyNames"
path_word path.Dot = codes "Dot"
path_word path.TrailingSlash = codes "TrailingSlash"
path_word path.OutOfMemory = codes "OutOfMemory"

-- the word of a fault of a text, by which it is told from the others
abbrev pub text_word : TextFault → List ℕ
text_word text.BadHeader = codes "BadHeader"
text_word text.BadLine = codes "BadLine"
text_word text.BadThread = codes "BadThread"
text_word text.ThreadTwice = codes "ThreadTwice"
text_word (text.BadPath fault) = path_word fault
text_word text.BadNumber = codes "BadNumber"
text_word text.BadHex = codes "BadHex"
text_word text.NoSchedule = codes "NoSchedule"
text_word text.BadWord = codes "BadWord"
text_word text.TooLarge = codes "TooLarge"
text_word text.OutOfMemory = codes "OutOfMemory"
text_word text.BadReply = codes "BadReply"
text_word text.BadStart = codes "BadStart"

-- the word of what is found of a history
abbrev pub history_word : HistoryWord → List ℕ
history_word history.ReturnUnbegun = codes "ReturnUnbegun"
history_word history.NoOrder = codes "none"
history_word history.Unknown = codes "unknown"

-- the word of a topic
abbrev pub word_of : Topic → List ℕ
word_of (Text fault) = text_word fault
word_of Path = codes "BadPath"
word_of (Entry fault) = kind_word fault
word_of (History word) = history_word word

-- the text begins with the word of the topic
abbrev pub Explains : Topic → List ℕ → Type 0
Explains topic text = StartsWith text (word_of topic ++ codes ": ")

-- the text of one topic, or those of two with an empty line between
abbrev pub ExplainsBoth : Topic → Option Topic → List ℕ → Type 0
ExplainsBoth first None text = Explains first text
ExplainsBoth first (Some second) text = (one other : List ℕ) × Explains first one × Explains second other × (text ≡ one ++ (codes "\n" ++ other))
