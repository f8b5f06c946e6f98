-- What holds of the texts: laws, each proved as the contract of a function of the module `laws`.
use Rattle.std.specs.Prelude.{◌≡◌, ◌≤◌, List, length, Ok}
use Rattle.fs_names.specs.declared.limits.Limits.TheVariants.{V1}
use Rattle.fs_timeline.specs.declared.entry.Entry.{Entry}
use Rattle.fs_words.specs.Headers.{text_limit}
use Rattle.fs_text.specs.Fits.{AllFit}
use Rattle.fs_text.specs.Journal.{journal_text, entries_of}

-- entries that were written behind the header line are read again as the same entries
abbrev pub ReadsBack : Type 0
ReadsBack = (es : List Entry) → AllFit V1 es → length (journal_text es) ≤ text_limit V1 → entries_of (journal_text es) ≡ Ok es
