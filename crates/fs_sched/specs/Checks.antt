-- The verdict on a journal text, and its line, handed on.
pub use Rattle.fs_verdict.specs.Checks.{kind_word, is_lawful, verdict_line, judged, verdict_of}
