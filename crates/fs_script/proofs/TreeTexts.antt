-- The text of a tree is read again.
use Rattle.std.proofs.Common.{refl, ◌≡◌, ℕ, ◌-◌, ◌≤◌, Bool, true, false, cond, List, [], ◌∷◌, ◌++◌, length, sym, ap, subst, ◌∙◌, arith, append_assoc, append-nil, length-append, codes, Ok, None, map, ◌+◌, slice_index, ◌==◌}
use Rattle.std.specs.List.{flat_map, join_with_byte, AllByRecursion}
use Rattle.std.proofs.Math.Seq.{get_or-append_seam}
use Rattle.std.proofs.lemmas.Bool.{cond-true, cond-false}
use Rattle.fs_names.specs.Keys.{Key}
use Rattle.fs_calls.specs.Tree.{Node, Tree}
use Rattle.fs_calls.specs.Starts.{Start}
use Rattle.fs_seq.proofs.Fitting.{root_first}
use Rattle.fs_script.specs.TreeText.{node_line, node_words, tree_text}
use Rattle.fs_script.specs.Laws.{ReadsTreesBack}
use Rattle.fs_names.specs.declared.limits.Limits.{Limits}
use Rattle.fs_words.specs.Lines.{lines_of}
use Rattle.fs_words.specs.Headers.{started_header, text_limit}
use Rattle.fs_words.proofs.WordLemmas.{IsLine, lines_of_ended}
use Rattle.fs_script.specs.Journals.{is_told, opening, ends_line, line_end, nodes_journal, start_read, entries_line, before_entries, nodes_read, journal_text, journal_of, tree_of}
use Rattle.fs_script.proofs.JournalLemmas.{Told, line_of, not_entries, lines_ended, nodes_are_lines, reads_journals_back}

-- bytes with the end of a line behind them end with it
ended : (bytes : List ℕ) → ends_line (bytes ++ 10 ∷ []) ≡ true
ended bytes =
    let last : length (bytes ++ 10 ∷ []) - 1 ≡ length bytes = ap (λ n. n - 1) (length-append bytes (10 ∷ [])) ∙ omega arith in
    ap (λ i. slice_index (bytes ++ 10 ∷ []) i == 10) last ∙ ap (λ b. b == 10) (get_or-append_seam bytes 10 [] 0)

-- the lines of nodes, of which there is one at least, are some bytes and the end of a line
lines_end : (row : Key × Node) (rows : Tree) → (bytes : List ℕ) × (flat_map node_line (row ∷ rows) ≡ bytes ++ 10 ∷ [])
lines_end row [] = (join_with_byte 32 (node_words row.0 row.1), append-nil (node_line row))
lines_end row (next ∷ rows) =
    let rest = lines_end next rows in
    (node_line row ++ rest.0, ap (λ (z : List ℕ). node_line row ++ z) rest.1 ∙ sym (append_assoc (node_line row) rest.0 (10 ∷ [])))

unneeded : (b : Bool) (end : List ℕ) → cond {A = List ℕ} b [] (cond {A = List ℕ} true [] end) ≡ []
unneeded true end = refl
unneeded false end = refl

-- lines of nodes need no end
whole : (t : Tree) (row : Key × Node) (rows : Tree) → t ≡ row ∷ rows → line_end (flat_map node_line t) ≡ []
whole t row rows is =
    let lines = lines_end row rows in
    let ends : ends_line (flat_map node_line t) ≡ true = ap ends_line (ap (flat_map node_line) is ∙ lines.1) ∙ ended lines.0 in
    ap (λ e. cond {A = List ℕ} (length (flat_map node_line t) == 0) [] (cond {A = List ℕ} e [] (codes "\n"))) ends ∙ unneeded (length (flat_map node_line t) == 0) (codes "\n")

-- the journal of the lines of a tree is the one that starts at it
same_journal : (start : Start) → is_told start.limits (length start.tree) ≡ true → line_end (flat_map node_line start.tree) ≡ [] → nodes_journal start.limits (flat_map node_line start.tree) ≡ journal_text start []
unfolding opening
same_journal start told none =
    let before : List ℕ = (started_header start.limits ++ codes "\nstart\n") ++ flat_map node_line start.tree in
    ap (λ (z : List ℕ). (before ++ z) ++ codes "entries\n") none
    ∙ ap (λ (z : List ℕ). z ++ codes "entries\n") (append-nil before)
    ∙ sym (cond-true _ _ _ told)
    ∙ sym (append-nil (opening start))

-- what is read of the text of a tree is what its journal gives, unless a line of it is `entries`
by_journal : (start : Start) → tree_of start.limits (tree_text start.tree) ≡ nodes_read start.limits (flat_map node_line start.tree)
unfolding tree_of tree_text
by_journal start = refl

-- which no line of a node is
no_entries : (n : ℕ) (t : Tree) → entries_line n (map line_of t) ≡ None
no_entries n [] = refl
no_entries n (e ∷ t) = cond-false _ _ _ (not_entries e) ∙ no_entries (n + 1) t

node_lines : (limits : Limits) (t : Tree) → Told limits t → lines_of (flat_map node_line t) ≡ map line_of t
node_lines limits t told =
    ap lines_of (lines_ended t)
    ∙ lines_of_ended (map line_of t) (subst (λ (lines : List (List ℕ)). AllByRecursion IsLine lines) (append-nil (map line_of t)) (nodes_are_lines limits t [] told tt))

pub reads_trees_back : ReadsTreesBack
reads_trees_back start fits told short =
    let first = root_first start.tree fits.within.tree in
    let same : nodes_journal start.limits (flat_map node_line start.tree) ≡ journal_text start [] = same_journal start told (whole start.tree _ first.0 first.1) in
    let read : journal_of (journal_text start []) ≡ Ok (start, []) = reads_journals_back start [] fits tt (subst (λ (text : List ℕ). length text ≤ text_limit start.limits) (sym (append-nil (opening start))) short) in
    let none : entries_line 2 (lines_of (flat_map node_line start.tree)) ≡ None = ap (entries_line 2) (node_lines start.limits start.tree (fits.told told)) ∙ no_entries 2 start.tree in
    by_journal start
    ∙ ap (λ n. before_entries n (start_read (journal_of (nodes_journal start.limits (flat_map node_line start.tree))))) none
    ∙ ap (λ (text : List ℕ). start_read (journal_of text)) same ∙ ap start_read read
