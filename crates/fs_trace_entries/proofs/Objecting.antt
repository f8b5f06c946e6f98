-- Objects by their members, and all of them.
use Rattle.std.proofs.Common.{◌≡◌, ℕ, List, [], ◌∷◌, ◌++◌, codes, ap, ◌∙◌, append_assoc}
use Rattle.std.specs.List.{join_with_byte}
use Rattle.fs_calls.specs.declared.call.Call.{Call}
use Rattle.fs_calls.specs.declared.reply.Reply.{Reply}
use Rattle.fs_words.specs.JsonObjects.{Member, Number, Text, object_text}
use Rattle.fs_sched.specs.RunTexts.{number_of}
use Rattle.fs_sched.specs.code.Counts.{AreCounts}
use Rattle.fs_sched.specs.declared.run_texts.Counts.{Counts}
use Rattle.fs_sched.specs.declared.run_texts.EntryKind.TheVariants as kind
use Rattle.fs_text.specs.Calls.{call_words}
use Rattle.fs_text.specs.Journal.{reply_words}
use Rattle.fs_timeline.specs.declared.entry.Entry.{Entry}
use Rattle.fs_timeline.specs.declared.entry.Entry.TheVariants.{Begin, Return}
use Rattle.fs_trace_entries.specs.Objects.{end_object, entry_members, reply_member}
use Rattle.fs_trace_entries.specs.code.Mades.{AddsObject}

-- of a begin: the seat and the call
pub begun : (n c seat : ℕ) (call : Call) (more : List Member) (a b : Member) (words old new : List ℕ) → more ≡ a ∷ b ∷ [] → a ≡ (codes "seat", Number seat) → b ≡ (codes "words", Text words) → words ≡ join_with_byte 32 (call_words call)
    → new ≡ old ++ object_text (entry_members n (codes "begins") c ++ more) → AddsObject n (Begin c seat call) old new
begun n c seat call more a b words old new e f g h i =
    let object : List Member → List ℕ = λ ms. object_text (entry_members n (codes "begins") c ++ ms) in
    let is = e ∙ ap (λ (m : Member). m ∷ b ∷ []) f ∙ ap (λ (m : Member). (codes "seat", Number seat) ∷ m ∷ []) (g ∙ ap (λ (w : List ℕ). (codes "words", Text w)) h) in
    (object more, ap object is, i)

-- of a return: the reply, behind what says whose it is
pub returned : (n c : ℕ) (r : Reply) (whose more : List Member) (m : Member) (words old new : List ℕ) → more ≡ whose ++ m ∷ [] → m ≡ (codes "reply", Text words) → words ≡ join_with_byte 32 (reply_words r)
    → new ≡ old ++ object_text (entry_members n (codes "returns") c ++ more) → AddsObject n (Return c r) old new
returned n c r whose more m words old new e f g h =
    let object : List Member → List ℕ = λ ms. object_text (entry_members n (codes "returns") c ++ ms) in
    let is = e ∙ ap (λ (x : Member). whose ++ x ∷ []) (f ∙ ap reply_member g) in
    (object more, (whose, ap object is), h)

-- of the end: the tree and the counts
pub ended : (es : List Entry) (counts : Counts) (tree old new : List ℕ) (did of_tree begun committed returned : Member) → AreCounts counts es → did ≡ (codes "did", Text (codes "ends")) → of_tree ≡ (codes "tree", Text tree)
    → begun ≡ (codes "begun", Number counts.begun) → committed ≡ (codes "committed", Number counts.committed) → returned ≡ (codes "returned", Number counts.returned)
    → new ≡ old ++ object_text (did ∷ of_tree ∷ begun ∷ committed ∷ returned ∷ []) → new ≡ old ++ end_object tree es
ended es counts tree old new did of_tree begun committed returned are a b c d e f =
    let last : Member → List ℕ = λ m. old ++ object_text (did ∷ of_tree ∷ begun ∷ committed ∷ m ∷ []) in
    f ∙ ap last (e ∙ ap (λ (n : ℕ). (codes "returned", Number n)) are.returned)
    ∙ ap (λ (m : Member). old ++ object_text (did ∷ of_tree ∷ begun ∷ m ∷ (codes "returned", Number (number_of kind.Return es)) ∷ [])) (d ∙ ap (λ (n : ℕ). (codes "committed", Number n)) are.committed)
    ∙ ap (λ (m : Member). old ++ object_text (did ∷ of_tree ∷ m ∷ (codes "committed", Number (number_of kind.Commit es)) ∷ (codes "returned", Number (number_of kind.Return es)) ∷ [])) (c ∙ ap (λ (n : ℕ). (codes "begun", Number n)) are.begun)
    ∙ ap (λ (m : Member). old ++ object_text (did ∷ m ∷ (codes "begun", Number (number_of kind.Begin es)) ∷ (codes "committed", Number (number_of kind.Commit es)) ∷ (codes "returned", Number (number_of kind.Return es)) ∷ [])) b
    ∙ ap (λ (m : Member). old ++ object_text (m ∷ (codes "tree", Text tree) ∷ (codes "begun", Number (number_of kind.Begin es)) ∷ (codes "committed", Number (number_of kind.Commit es)) ∷ (codes "returned", Number (number_of kind.Return es)) ∷ [])) a

-- entries, calls that are left, and the end, one after the other
pub in_order : (lines left more end none one two three text : List ℕ) → none ≡ [] → one ≡ none ++ lines → two ≡ one ++ left → three ≡ two ++ end → left ≡ more → text ≡ three → text ≡ lines ++ (more ++ end)
in_order lines left more end none one two three text e f g h same is =
    is ∙ h ∙ ap (λ (l : List ℕ). l ++ end) (g ∙ ap (λ (l : List ℕ). l ++ left) (f ∙ ap (λ (l : List ℕ). l ++ lines) e)) ∙ append_assoc lines left end ∙ ap (λ (l : List ℕ). lines ++ (l ++ end)) same
