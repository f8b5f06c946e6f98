-- How a journal begins.
use Rattle.std.proofs.Common.{refl, ◌≡◌, ℕ, true, false, List, ◌++◌, length, map, sym, ap, subst, [], ◌∷◌, ◌∙◌, append_assoc, codes}
use Rattle.std.specs.List.{AllByRecursion, flat_map}
use Rattle.std.proofs.lemmas.Bool.{cond-true, cond-false}
use Rattle.fs_names.specs.declared.limits.Limits.TheVariants.{V1}
use Rattle.fs_names.specs.declared.limits.Limits.{Limits}
use Rattle.fs_calls.specs.Tree.{Tree}
use Rattle.fs_calls.specs.Starts.{Start, root_start}
use Rattle.fs_timeline.specs.declared.entry.Entry.{Entry}
use Rattle.fs_text.specs.Journal as text
use Rattle.fs_seq.specs.declared.rows.Row.{Row}
use Rattle.fs_seq.specs.Rows.{row_of}
use Rattle.fs_script.specs.TreeText.{node_line}
use Rattle.fs_script.specs.Laws.{FitsNode}
use Rattle.fs_words.specs.Headers.{started_header}
use Rattle.fs_script.specs.Journals.{is_told, opening, journal_text}
use Rattle.fs_script.proofs.ScriptLemmas.{length_mapped}

-- there are as many rows as nodes
pub nodes_counted : (start : Start) (rows : List Row) → map row_of rows ≡ start.tree → length rows ≡ length start.tree
nodes_counted start rows are = sym (length_mapped row_of rows) ∙ ap length are

pub started : (start : Start) → is_told start.limits (length start.tree) ≡ true → opening start ≡ started_header start.limits ++ (codes "\nstart\n" ++ (flat_map node_line start.tree ++ codes "entries\n"))
unfolding opening
started start told =
    let header : List ℕ = started_header start.limits in
    let nodes : List ℕ = flat_map node_line start.tree in
    cond-true _ (((header ++ codes "\nstart\n") ++ nodes) ++ codes "entries\n") _ told
    ∙ append_assoc (header ++ codes "\nstart\n") nodes (codes "entries\n")
    ∙ append_assoc header (codes "\nstart\n") (nodes ++ codes "entries\n")

-- the block of a tree that is told was written
pub block_pushed : (line zero one two three : List ℕ) (start : Start) (rows shown : List Row) → map row_of rows ≡ start.tree → shown ≡ rows → is_told start.limits (length rows) ≡ true
    → zero ≡ line ++ started_header start.limits → one ≡ zero ++ codes "\nstart\n" → two ≡ one ++ flat_map node_line (map row_of shown) → three ≡ two ++ codes "entries\n" → three ≡ line ++ opening start
block_pushed line zero one two three start rows shown are same more y a b c =
    let nodes : List ℕ = flat_map node_line (map row_of rows) in
    let rest : List ℕ = nodes ++ codes "entries\n" in
    c ∙ ap (λ (z : List ℕ). z ++ codes "entries\n") (b ∙ ap (λ (r : List Row). one ++ flat_map node_line (map row_of r)) same)
    ∙ append_assoc one nodes (codes "entries\n")
    ∙ ap (λ (z : List ℕ). z ++ rest) a
    ∙ append_assoc zero (codes "\nstart\n") rest
    ∙ ap (λ (z : List ℕ). z ++ (codes "\nstart\n" ++ rest)) y
    ∙ append_assoc line (started_header start.limits) (codes "\nstart\n" ++ rest)
    ∙ ap (λ (t : Tree). line ++ (started_header start.limits ++ (codes "\nstart\n" ++ (flat_map node_line t ++ codes "entries\n")))) are
    ∙ ap (λ (z : List ℕ). line ++ z) (sym (started start (sym (ap (is_told start.limits) (nodes_counted start rows are)) ∙ more)))

-- a journal from the root alone, by the first limits, is one of the first version
pub from_the_root : (es : List Entry) → journal_text (root_start V1) es ≡ text.journal_text es
unfolding opening
from_the_root es = refl

-- the same of a journal that does not tell its start tree
pub header_pushed : (line new : List ℕ) (start : Start) (rows : List Row) → map row_of rows ≡ start.tree → is_told start.limits (length rows) ≡ false → new ≡ line ++ codes "atomfs-journal 1\n" → new ≡ line ++ opening start
unfolding opening
header_pushed line new start rows are untold e =
    e ∙ ap (λ (z : List ℕ). line ++ z) (sym (cond-false _ _ _ (sym (ap (is_told start.limits) (nodes_counted start rows are)) ∙ untold)))

-- what holds of rows holds of their nodes
pub nodes_fit : (limits : Limits) (start : Tree) (rows shown : List Row) → map row_of rows ≡ start → shown ≡ rows → AllByRecursion (λ r. FitsNode limits (row_of r)) shown → AllByRecursion (FitsNode limits) start
nodes_fit limits start rows shown are same all = subst (λ (t : Tree). AllByRecursion (FitsNode limits) t) (ap (map row_of) same ∙ are) (mapped shown all)
  where
    mapped : (rows : List Row) → AllByRecursion (λ r. FitsNode limits (row_of r)) rows → AllByRecursion (FitsNode limits) (map row_of rows)
    mapped [] h = tt
    mapped (row ∷ rows) h = (h.0, mapped rows h.1)
