-- The trace of a journal as objects of JSON, one a line.
use Rattle.std.specs.Prelude.{ℕ, ◌≡◌, List, [], ◌∷◌, ◌++◌, codes}
use Rattle.std.specs.List.{flat_map, join_with_byte}
use Rattle.fs_words.specs.JsonObjects.{Member, Number, Text, object_text}
use Rattle.fs_sched.specs.RunTexts.{number_of}
use Rattle.fs_sched.specs.declared.run_texts.EntryKind.TheVariants as kind
use Rattle.fs_text.specs.Calls.{call_words}
use Rattle.fs_text.specs.Journal.{reply_words}
use Rattle.fs_timeline.specs.declared.entry.Entry.{Entry}
use Rattle.fs_timeline.specs.declared.entry.Entry.TheVariants.{Begin, Commit, Return}
use Rattle.fs_trace_entries.specs.Each.{AreEach}

-- the first members of the object of an entry: its place, what it did, and the number of its call
abbrev pub entry_members : ℕ → List ℕ → ℕ → List Member
entry_members n did c = (codes "entry", Number n) ∷ (codes "did", Text did) ∷ (codes "number", Number c) ∷ []

-- what was returned
abbrev pub reply_member : List ℕ → Member
reply_member words = (codes "reply", Text words)

-- the object of an entry: who began what, whose call committed, and what was returned to whom
abbrev pub IsObject : ℕ → Entry → List ℕ → Type 0
IsObject n (Begin c seat call) object =
    object ≡ object_text (entry_members n (codes "begins") c ++ (codes "seat", Number seat) ∷ (codes "words", Text (join_with_byte 32 (call_words call))) ∷ [])
IsObject n (Commit c) object = (more : List Member) × (object ≡ object_text (entry_members n (codes "commits") c ++ more))
IsObject n (Return c r) object = (whose : List Member) × (object ≡ object_text (entry_members n (codes "returns") c ++ (whose ++ reply_member (join_with_byte 32 (reply_words r)) ∷ [])))

-- an object for each entry, from this place on
abbrev pub AreObjects : ℕ → List Entry → List ℕ → Type 0
AreObjects n es text = AreEach IsObject n es text

-- the last object: a tree, and the numbers of entries of each kind
abbrev pub end_object : List ℕ → List Entry → List ℕ
end_object tree es =
    object_text ((codes "did", Text (codes "ends")) ∷ (codes "tree", Text tree) ∷ (codes "begun", Number (number_of kind.Begin es)) ∷ (codes "committed", Number (number_of kind.Commit es)) ∷ (codes "returned", Number (number_of kind.Return es)) ∷ [])

-- the trace of these entries, at whose end this tree is: an object for each, for each call that is left, and for the end
abbrev pub AreObjectsBehind : List Entry → List ℕ → List ℕ → Type 0
AreObjectsBehind es tree text = (lines : List ℕ) × (left : List (List Member)) × AreObjects 1 es lines × (text ≡ lines ++ (flat_map object_text left ++ end_object tree es))
