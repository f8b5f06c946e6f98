-- A journal that was written is read again as the same start tree and the same entries.
use Rattle.std.proofs.Common.{◌≡◌, ◌≢◌, ℕ, ◌+◌, ◌<◌, ◌≤◌, true, false, cond, not, eqb, ◌&&◌, ⊎_elim, List, [], ◌∷◌, ◌++◌, length, map, Result, Ok, Err, refl, sym, ap, subst, ◌∙◌, arith, append_assoc, append-nil, codes, rules}
use Rattle.std.specs.List.{All, AllByRecursion, slice_split, flat_map, join_with_byte}
use Rattle.std.specs.Str.{bytes_eq}
use Rattle.std.proofs.lemmas.Bool.{cond-true, cond-false, cases_Bool, eq-eqb}
use Rattle.std.proofs.lemmas.Bool.Decides.{nat_tests}
use Rattle.std.proofs.lemmas.Grind.{flat_map-append}
use Rattle.std.proofs.lemmas.List.Elements.{All-cons, All-nil, All-append, All-weaker, All-head, All-tail, All-from_recursion}
use Rattle.std.proofs.lemmas.List.Splits.{slice_split_at, slice_split_none}
use Rattle.percent_encoding.specs.Percent.{percent_encode_byte}
use Rattle.percent_encoding.proofs.PercentLemmas.{IsEscapeByte, All-percent_encode_byte}
use Rattle.fs_names.specs.Names.{Name, IsName}
use Rattle.fs_names.specs.Keys.{Key}
use Rattle.fs_names.specs.declared.limits.Limits.{Limits}
use Rattle.fs_names.specs.declared.limits.Limits.TheVariants.{V1, V2, V3}
use Rattle.fs_names.specs.Reading.{is_slash}
use Rattle.fs_names.specs.declared.kind.Kind.{Kind}
use Rattle.fs_names.specs.declared.kind.Kind.TheVariants as kinds
use Rattle.fs_calls.specs.Tree.{Tree, Node, Dir, File, root_tree}
use Rattle.fs_calls.specs.Starts.{Start, root_start}
use Rattle.fs_timeline.specs.declared.entry.Entry.{Entry}
use Rattle.fs_seq.specs.Rows.{node_of_kind, IsWithinLimits}
use Rattle.fs_seq.proofs.Fitting.{node_fits, root_first}
use Rattle.fs_words.specs.Lines.{lines_of, pieces_of, has_empty, is_passed_over}
use Rattle.fs_words.specs.Words.{is_escaped, escaped, path_word}
use Rattle.fs_words.specs.Reading.{◌>>=◌, words_of}
use Rattle.fs_words.specs.declared.fault.FaultKind.{FaultKind}
use Rattle.fs_words.specs.declared.fault.FaultKind.TheVariants as kind
use Rattle.fs_words.proofs.EscapeLemmas.{escaped_cons_yes, escaped_cons_no, IsWord_escaped}
use Rattle.fs_words.proofs.WordLemmas.{IsWord, pieces_of_joined, has_no_empty, IsLine, IsLine_joined, ended, lines_of_ended}
use Rattle.fs_words.proofs.NumberLemmas.{IsWord_hex}
use Rattle.fs_names.proofs.WrittenLemmas.{name_facts}
use Rattle.fs_words.proofs.PathLemmas.{IsWord_path}
use Rattle.fs_words.proofs.WriteLemmas.{escaped_none, root_word}
use Rattle.fs_text.specs.Fits.{FitsName, AllFit}
use Rattle.fs_text.specs.Journal.{entry_line, entries_of, names_at}
use Rattle.fs_text.specs.Journal as text
use Rattle.fs_text.proofs.EntryLemmas.{joined, text_ended, are_lines, journal_lines, lines_again, journal_again, kind_good, names_read, hex_read}
use Rattle.fs_script.specs.TreeText.{node_words, node_line}
use Rattle.fs_words.specs.Headers.{started_header, text_limit}
use Rattle.fs_script.specs.Journals.{Read, with_start, key_at, node_at, node_in_line, grown, in_start, started_from, behind_line, is_told, journal_text, journal_of}
use Rattle.fs_script.specs.code.Starts.{starting}
use Rattle.fs_script.specs.Laws.{FitsNode, FitsStart, ReadsJournalsBack}
use Rattle.fs_script.proofs.NodeLines.{spelled, path_spelled}
use Rattle.fs_script.proofs.Openings.{started, from_the_root}
use Rattle.fs_script.proofs.HeaderLemmas.{short_journal, root_journal}

-- ---- a path of any number of names

not_slash : (b : ℕ) → (b ≢ 47) × (b ≢ 0) → is_slash b ≡ false
not_slash b h = let other = h.0 in grind (arith, nat_tests)

escape_no_slash : (b : ℕ) → IsEscapeByte b → is_slash b ≡ false
escape_no_slash b e = grind (arith, nat_tests)

no_slashes : (bs : List ℕ) → All (λ b. (b ≢ 47) × (b ≢ 0)) bs → All (λ b. is_slash b ≡ false) (escaped bs)
no_slashes [] h = rw escaped_none (All-nil (λ b. is_slash b ≡ false))
no_slashes (b ∷ bs) h =
    let rest = no_slashes bs (All-tail (λ b. (b ≢ 47) × (b ≢ 0)) b bs h) in
    ⊎_elim
    (λ e. rw (escaped_cons_yes b bs e) (All-append (λ b. is_slash b ≡ false) (percent_encode_byte b) (escaped bs) (All-weaker IsEscapeByte (λ b. is_slash b ≡ false) escape_no_slash (percent_encode_byte b) (All-percent_encode_byte b)) rest))
    (λ e. rw (escaped_cons_no b bs e) (All-cons (λ b. is_slash b ≡ false) b (escaped bs) (not_slash b (All-head (λ b. (b ≢ 47) × (b ≢ 0)) b bs h)) rest))
    (cases_Bool (is_escaped b))

clean : (n : Name) → IsName n → All (λ b. is_slash b ≡ false) (escaped n)
clean n h = no_slashes n (name_facts n h.test).clean

cut_again : (n : Name) (ns : Key) → IsName n → AllByRecursion IsName ns → slice_split is_slash (escaped n ++ spelled ns) ≡ escaped n ∷ map escaped ns
cut_again n [] h all = ap (slice_split is_slash) (append-nil (escaped n)) ∙ slice_split_none is_slash (escaped n) (clean n h)
cut_again n (m ∷ ms) h all =
    slice_split_at is_slash (escaped n) 47 (escaped m ++ spelled ms) (clean n h) refl ∙ ap (λ (t : List (List ℕ)). escaped n ∷ t) (cut_again m ms all.0 all.1)

no_root : (xs ys : List ℕ) → 0 < length xs → bytes_eq (47 ∷ (xs ++ ys)) (47 ∷ []) ≡ false
no_root [] ys some = absurd (omega (arith, some))
no_root (x ∷ xs) ys some = refl

are_names : (limits : Limits) (ns : Key) → AllByRecursion (FitsName limits) ns → AllByRecursion IsName ns
are_names limits [] h = tt
are_names limits (n ∷ ns) h = (h.0.is_name, are_names limits ns h.1)

some_key : (limits : Limits) (n : Name) (ns : Key) → FitsName limits n → AllByRecursion (FitsName limits) ns → key_at limits (47 ∷ (escaped n ++ spelled ns)) ≡ Ok (n ∷ ns)
some_key limits n ns h all =
    cond-false _ _ _ (no_root (escaped n) (spelled ns) (IsWord_escaped n (name_facts n h.is_name.test).some).some)
    ∙ ap (names_at limits) (cut_again n ns h.is_name (are_names limits ns all)) ∙ names_read limits (n ∷ ns) (h, all)

pub key_read : (limits : Limits) (key : Key) → AllByRecursion (FitsName limits) key → key_at limits (path_word key) ≡ Ok key
key_read limits [] h = ap (key_at limits) (root_word [] refl)
key_read limits (n ∷ ns) h = ap (key_at limits) (path_spelled n ns) ∙ some_key limits n ns h.0 h.1

-- ---- the line of a node

-- the words of a node, joined
abbrev pub line_of : Key × Node → List ℕ
line_of e = join_with_byte 32 (node_words e.0 e.1)

-- what a node is told as
abbrev told_of : Key × Node → Key × Kind × List ℕ
told_of (key, Dir) = (key, kinds.Dir, [])
told_of (key, File bytes) = (key, kinds.File, bytes)

told_node : (e : Key × Node) → ◌≡◌ {A = Key × Node} ((told_of e).0, node_of_kind (told_of e).1 (told_of e).2) e
told_node (key, Dir) = refl
told_node (key, File bytes) = refl

words_good : (limits : Limits) (e : Key × Node) → FitsNode limits e → AllByRecursion IsWord (node_words e.0 e.1)
words_good limits (key, Dir) h = (kind_good kinds.Dir, (IsWord_path key, tt))
words_good limits (key, File bytes) h = (kind_good kinds.File, (IsWord_path key, (IsWord_hex bytes h.1, tt)))

some_words : (e : Key × Node) → 0 < length (node_words e.0 e.1)
some_words (key, Dir) = omega arith
some_words (key, File bytes) = omega arith

words_cut : (ws : List (List ℕ)) → AllByRecursion IsWord ws → 0 < length ws → words_of (join_with_byte 32 ws) ≡ Ok ws
words_cut ws good some =
    let cut : pieces_of (join_with_byte 32 ws) ≡ ws = pieces_of_joined ws good some in
    let whole : has_empty (pieces_of (join_with_byte 32 ws)) ≡ false = ap has_empty cut ∙ has_no_empty ws good in
    cond-false _ _ _ whole ∙ ap Ok cut

node_told : (limits : Limits) (e : Key × Node) → FitsNode limits e → node_at limits (node_words e.0 e.1) ≡ Ok (told_of e)
node_told limits (key, Dir) h = ap (λ r. r >>= λ k. Ok (k, kinds.Dir, [])) (key_read limits key h)
node_told limits (key, File bytes) h = rw (key_read limits key h.0, hex_read bytes h.1) refl

bytes_same : (xs : List ℕ) → bytes_eq xs xs ≡ true
bytes_same [] = refl
bytes_same (x ∷ xs) = ap (λ b. b && bytes_eq xs xs) (eq-eqb x x refl) ∙ bytes_same xs

strictly : (e : Key × Node) → cond {A = Result (Key × Kind × List ℕ) FaultKind} (bytes_eq (line_of e) (join_with_byte 32 (node_words (told_of e).0 (node_of_kind (told_of e).1 (told_of e).2)))) (Ok (told_of e)) (Err kind.BadStart) ≡ Ok (told_of e)
strictly (key, Dir) = cond-true _ _ _ (bytes_same (line_of (key, Dir)))
strictly (key, File bytes) = cond-true _ _ _ (bytes_same (line_of (key, File bytes)))

pub node_again : (limits : Limits) (e : Key × Node) → FitsNode limits e → node_in_line limits (line_of e) ≡ Ok (told_of e)
node_again limits e h =
    ap (λ r. r >>= node_at limits >>= λ n. cond {A = Result (Key × Kind × List ℕ) FaultKind} (bytes_eq (line_of e) (join_with_byte 32 (node_words n.0 (node_of_kind n.1 n.2)))) (Ok n) (Err kind.BadStart)) (words_cut (node_words e.0 e.1) (words_good limits e h) (some_words e))
    ∙ ap (λ r. r >>= λ n. cond {A = Result (Key × Kind × List ℕ) FaultKind} (bytes_eq (line_of e) (join_with_byte 32 (node_words n.0 (node_of_kind n.1 n.2)))) (Ok n) (Err kind.BadStart)) (node_told limits e h)
    ∙ strictly e

not_passed : (e : Key × Node) → is_passed_over (line_of e) ≡ false
not_passed (key, Dir) = refl
not_passed (key, File bytes) = refl

pub not_entries : (e : Key × Node) → bytes_eq (line_of e) (codes "entries") ≡ false
not_entries (key, Dir) = refl
not_entries (key, File bytes) = refl

-- ---- the lines of a start tree

abbrev pub Told : Limits → List (Key × Node) → Type 0
Told limits u = AllByRecursion (FitsNode limits) u

grows : (limits : Limits) (first : Key × Node) (t : Tree) (e : Key × Node) (u : Tree) → IsWithinLimits limits (first ∷ (t ++ e ∷ u)) → grown limits (first ∷ t) (told_of e) ≡ Ok (first ∷ (t ++ e ∷ []))
grows limits first t (key, Dir) u within = cond-true _ _ _ (node_fits limits first t key kinds.Dir [] u within refl)
grows limits first t (key, File bytes) u within = cond-true _ _ _ (node_fits limits first t key kinds.File bytes u within refl)

abbrev rest_lines : List (Key × Node) → List Entry → List (List ℕ)
rest_lines u es = map line_of u ++ codes "entries" ∷ map joined es

started_again : (limits : Limits) (first : Key × Node) (t u : Tree) (n : ℕ) (es : List Entry) → IsWithinLimits limits (first ∷ (t ++ u)) → Told limits u → AllFit limits es
    → started_from limits (first ∷ t) n (rest_lines u es) ≡ Ok (starting limits (first ∷ (t ++ u)), es)
unfolding started_from
started_again limits first t [] n es within told fit =
    ap (with_start (starting limits (first ∷ t))) (lines_again limits (n + 1) es fit) ∙ ap (λ (z : Tree). Ok (starting limits (first ∷ z), es)) (sym (append-nil t))
started_again limits first t (e ∷ u) n es within told fit =
    cond-false _ _ _ (not_passed e) ∙ cond-false _ _ _ (not_entries e)
    ∙ ap (λ r. in_start n (r >>= grown limits (first ∷ t)) >>= λ v. started_from limits v (n + 1) (rest_lines u es)) (node_again limits e told.0)
    ∙ ap (λ r. in_start n r >>= λ v. started_from limits v (n + 1) (rest_lines u es)) (grows limits first t e u within)
    ∙ started_again limits first (t ++ e ∷ []) u (n + 1) es (subst (λ (z : Tree). IsWithinLimits limits (first ∷ z)) (sym (append_assoc t (e ∷ []) u)) within) told.1 fit
    ∙ ap (λ (z : Tree). Ok (starting limits (first ∷ z), es)) (append_assoc t (e ∷ []) u)

-- ---- the lines of the text

pub lines_ended : (u : List (Key × Node)) → flat_map node_line u ≡ flat_map ended (map line_of u)
lines_ended [] = refl
lines_ended (e ∷ u) = ap (λ (z : List ℕ). ended (line_of e) ++ z) (lines_ended u)

abbrev all_lines : Start → List Entry → List (List ℕ)
all_lines start es = started_header start.limits ∷ codes "start" ∷ rest_lines start.tree es

header_ended : (limits : Limits) (z : List ℕ) → started_header limits ++ (codes "\nstart\n" ++ z) ≡ ended (started_header limits) ++ (ended (codes "start") ++ z)
header_ended limits z = sym (append_assoc (started_header limits) (10 ∷ []) (codes "start\n" ++ z))

abbrev AreTold : Start → Type 0
AreTold start = is_told start.limits (length start.tree) ≡ true

text_of_lines : (start : Start) (es : List Entry) → AreTold start → journal_text start es ≡ flat_map ended (all_lines start es)
text_of_lines start es told =
    let entries : List ℕ = flat_map entry_line es in
    let nodes : List ℕ = flat_map node_line start.tree in
    let header : List ℕ = started_header start.limits in
    ap (λ (z : List ℕ). z ++ entries) (started start told)
    ∙ append_assoc header (codes "\nstart\n" ++ (nodes ++ codes "entries\n")) entries
    ∙ ap (λ (z : List ℕ). header ++ (codes "\nstart\n" ++ z)) (append_assoc nodes (codes "entries\n") entries)
    ∙ ap (λ (z : List ℕ). header ++ (codes "\nstart\n" ++ (z ++ (codes "entries\n" ++ entries)))) (lines_ended start.tree)
    ∙ ap (λ (z : List ℕ). header ++ (codes "\nstart\n" ++ (flat_map ended (map line_of start.tree) ++ (codes "entries\n" ++ z)))) (text_ended es)
    ∙ ap (λ (z : List ℕ). header ++ (codes "\nstart\n" ++ z)) (sym (flat_map-append ended (map line_of start.tree) (codes "entries" ∷ map joined es)))
    ∙ header_ended start.limits (flat_map ended (rest_lines start.tree es))

pub nodes_are_lines : (limits : Limits) (u : List (Key × Node)) (more : List (List ℕ)) → Told limits u → AllByRecursion IsLine more → AllByRecursion IsLine (map line_of u ++ more)
nodes_are_lines limits [] more told h = h
nodes_are_lines limits (e ∷ u) more told h = (IsLine_joined (node_words e.0 e.1) (words_good limits e told.0), nodes_are_lines limits u more told.1 h)

is_line : (w : List ℕ) → AllByRecursion (λ b. 31 < b) w → IsLine w
is_line w h = All-from_recursion (λ b. 31 < b) w h

header_is_line : (limits : Limits) → IsLine (started_header limits)
header_is_line V1 = is_line (codes "atomfs-journal 2") (search rules)
header_is_line V2 = is_line (codes "atomfs-journal 3") (search rules)
header_is_line V3 = is_line (codes "atomfs-journal 4") (search rules)

text_lines : (start : Start) (es : List Entry) → AreTold start → Told start.limits start.tree → AllFit start.limits es → lines_of (journal_text start es) ≡ all_lines start es
text_lines start es is told fit =
    ap lines_of (text_of_lines start es is)
    ∙ lines_of_ended (all_lines start es)
    (header_is_line start.limits, (is_line (codes "start") (search rules), nodes_are_lines start.limits start.tree (codes "entries" ∷ map joined es) told (is_line (codes "entries") (search rules), are_lines start.limits es fit)))

-- ---- the whole text

wanted_again : (wanted : List ℕ) (read : ℕ → List (List ℕ) → Read) (n : ℕ) (line : List ℕ) (more : List (List ℕ)) → is_passed_over line ≡ false → line ≡ wanted → behind_line wanted read n (line ∷ more) ≡ read (n + 1) more
unfolding behind_line
wanted_again wanted read n line more p is = cond-false _ _ _ p ∙ cond-true _ _ _ (ap (λ (w : List ℕ). bytes_eq w wanted) is ∙ bytes_same wanted)

root_line : line_of ([], Dir) ≡ codes "dir /"
root_line = ap (λ (w : List ℕ). codes "dir " ++ w) (root_word [] refl)

told_again : (limits : Limits) (u : Tree) (es : List Entry) → IsWithinLimits limits (([], Dir) ∷ u) → AreTold (starting limits (([], Dir) ∷ u)) → Told limits (([], Dir) ∷ u) → AllFit limits es
    → length (journal_text (starting limits (([], Dir) ∷ u)) es) ≤ text_limit limits → journal_of (journal_text (starting limits (([], Dir) ∷ u)) es) ≡ Ok (starting limits (([], Dir) ∷ u), es)
told_again limits u es within is told fit short =
    let start : Start = starting limits (([], Dir) ∷ u) in
    short_journal limits (journal_text start es) (codes "start" ∷ rest_lines start.tree es) short (text_lines start es is told fit)
    ∙ wanted_again (codes "start") (behind_line (codes "dir /") (started_from limits root_tree)) 2 (codes "start") (rest_lines start.tree es) refl refl
    ∙ wanted_again (codes "dir /") (started_from limits root_tree) 3 (line_of ([], Dir)) (rest_lines u es) refl root_line
    ∙ started_again limits ([], Dir) [] u 4 es within told.1 fit

root_again : (es : List Entry) → AllFit V1 es → length (journal_text (root_start V1) es) ≤ text_limit V1 → journal_of (journal_text (root_start V1) es) ≡ Ok (root_start V1, es)
root_again es fit short =
    let is : journal_text (root_start V1) es ≡ text.journal_text es = from_the_root es in
    root_journal (journal_text (root_start V1) es) text.journal_header (map joined es) short (ap lines_of is ∙ journal_lines V1 es fit) refl
    ∙ ap (λ t. with_start (root_start V1) (entries_of t)) is
    ∙ ap (with_start (root_start V1)) (journal_again es fit (subst (λ (t : List ℕ). length t ≤ text_limit V1) is short))

-- what is to be shown of a start
abbrev IsAgain : List Entry → Start → Type 0
IsAgain es start = FitsStart start → AllFit start.limits es → length (journal_text start es) ≤ text_limit start.limits → journal_of (journal_text start es) ≡ Ok (start, es)

two_told : (n : ℕ) → 1 < n → is_told V1 n ≡ true
two_told n h = let other : eqb n 1 ≡ false = grind (arith, nat_tests, h) in ap not other

by_rest : (limits : Limits) (u : Tree) (es : List Entry) → IsAgain es (starting limits (([], Dir) ∷ u))
by_rest V1 [] es h fit short = root_again es fit short
by_rest V1 (e ∷ u) es h fit short = let told = two_told (length (([], Dir) ∷ e ∷ u)) (omega arith) in told_again V1 (e ∷ u) es h.within told (h.told told) fit short
by_rest V2 u es h fit short = told_again V2 u es h.within refl (h.told refl) fit short
by_rest V3 u es h fit short = told_again V3 u es h.within refl (h.told refl) fit short

pub reads_journals_back : ReadsJournalsBack
reads_journals_back start es h fit short =
    let first = root_first start.tree h.within.tree in
    subst (λ (t : Tree). IsAgain es (starting start.limits t)) (sym first.1) (by_rest start.limits first.0 es) h fit short
