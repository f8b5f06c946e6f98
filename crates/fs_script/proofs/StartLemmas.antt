-- What the code's reading of a start tree rests on.
use Rattle.std.proofs.Common.{◌≡◌, ℕ, suc, ◌+◌, ◌-◌, ◌≤◌, ◌<◌, Bool, true, false, cond, not, ◌&&◌, List, [], ◌∷◌, ◌++◌, length, map, get_or, Option, Some, None, Result, Ok, Err, refl, sym, ap, subst, ◌∙◌, arith, append_assoc, append-nil, codes, length-append}
use Rattle.std.specs.Prelude.{MatchResult}
use Rattle.std.specs.Str.{bytes_eq}
use Rattle.std.proofs.lemmas.Bool.{cond-true, cond-false}
use Rattle.fs_names.specs.Keys.{Key, is_root}
use Rattle.fs_names.specs.Limits.{entry_limit, file_limit}
use Rattle.fs_names.specs.declared.limits.Limits.{Limits}
use Rattle.fs_names.specs.declared.kind.Kind.{Kind}
use Rattle.fs_names.specs.declared.kind.Kind.TheVariants.{Dir}
use Rattle.fs_calls.specs.Tree.{Tree, Node, root_tree, look, names_in, Dir as IsDir, File as IsFile}
use Rattle.fs_calls.proofs.TreeLaws.{played_trees_are_trees}
use Rattle.fs_calls.specs.Starts.{Start}
use Rattle.fs_calls.specs.Sights.{has_any}
use Rattle.fs_timeline.specs.declared.entry.Entry.{Entry}
use Rattle.fs_seq.specs.declared.rows.Row.{Row}
use Rattle.fs_seq.specs.Rows.{row_of, fits, is_first, is_dirs, misfit, misfit_from, node_of_kind, IsWithinLimits}
use Rattle.fs_words.specs.Lines.{is_passed_over}
use Rattle.fs_words.specs.Reading.{◌>>=◌, fault_at}
use Rattle.fs_words.specs.declared.fault.ScriptFault.{ScriptFault}
use Rattle.fs_words.specs.declared.fault.FaultKind.{FaultKind}
use Rattle.fs_words.specs.declared.fault.FaultKind.TheVariants as kind
use Rattle.fs_words.specs.declared.numbered.Line.{Line}
use Rattle.fs_words.specs.code.Answers.{FailsThere}
use Rattle.fs_words.specs.code.LinesLeft.{LinesLeft, IsNext, AreOver}
use Rattle.fs_words.proofs.ReadLemmas.{PassesOver, next_read, over_read}
use Rattle.fs_text.specs.Journal.{entries_from}
use Rattle.fs_script.specs.Journals.{Read, with_start, node_in_line, grown, in_start, started_from, behind_line}
use Rattle.fs_script.specs.code.Starts.{node_of_row, IsToldBy, starting, behind_rows, AreTaken, IsRootRow, IsRootAlone, AreNumbered, MakesTree}

-- ---- a line that has to be there

passes : (wanted : List ℕ) (read : ℕ → List (List ℕ) → Read) → PassesOver (behind_line wanted read)
unfolding behind_line
passes wanted read n line more p = cond-true _ _ _ p

line_wanted : (wanted : List ℕ) (read : ℕ → List (List ℕ) → Read) (n : ℕ) (line : List ℕ) (more : List (List ℕ)) → is_passed_over line ≡ false → bytes_eq line wanted ≡ true → behind_line wanted read n (line ∷ more) ≡ read (n + 1) more
unfolding behind_line
line_wanted wanted read n line more p is = cond-false _ _ _ p ∙ cond-true _ _ _ is

line_other : (wanted : List ℕ) (read : ℕ → List (List ℕ) → Read) (n : ℕ) (line : List ℕ) (more : List (List ℕ)) → is_passed_over line ≡ false → bytes_eq line wanted ≡ false → behind_line wanted read n (line ∷ more) ≡ Err (fault_at n kind.BadStart)
unfolding behind_line
line_other wanted read n line more p is = cond-false _ _ _ p ∙ cond-false _ _ _ is

pub expected : (wanted : List ℕ) (old new : LinesLeft) (line : Line) → IsNext old line new → bytes_eq line.text.now wanted ≡ true → (read : ℕ → List (List ℕ) → Read) → behind_line wanted read old.number old.lines ≡ read new.number new.lines
expected wanted old new line next is read =
    next_read (behind_line wanted read) (passes wanted read) old new line next
    ∙ line_wanted wanted read line.number line.text.now new.lines next.taken is
    ∙ ap (λ n. read n new.lines) (sym next.number)

pub unexpected : (wanted : List ℕ) (old new : LinesLeft) (line : Line) → IsNext old line new → bytes_eq line.text.now wanted ≡ false → (read : ℕ → List (List ℕ) → Read) → behind_line wanted read old.number old.lines ≡ Err (fault_at line.number kind.BadStart)
unexpected wanted old new line next is read =
    next_read (behind_line wanted read) (passes wanted read) old new line next ∙ line_other wanted read line.number line.text.now new.lines next.taken is

pub none_expected : (wanted : List ℕ) (old new : LinesLeft) → AreOver old new → (read : ℕ → List (List ℕ) → Read) → behind_line wanted read old.number old.lines ≡ Err (fault_at new.number kind.BadStart)
unfolding behind_line
none_expected wanted old new over read = over_read (behind_line wanted read) (passes wanted read) old new over

-- ---- lines of rows

started_passes : (limits : Limits) (t : Tree) → PassesOver (started_from limits t)
unfolding started_from
started_passes limits t n line more p = cond-true _ _ _ p

-- what grows by a row that fits
grown_or : {X : Type 0} (b : Bool) (n : ℕ) (k : FaultKind) (x : Tree) (f : Tree → Result X ScriptFault)
    → (in_start n (cond {A = Result Tree FaultKind} b (Ok x) (Err k)) >>= f) ≡ cond {A = Result X ScriptFault} b (f x) (Err (fault_at n kind.BadStart))
grown_or true n k x f = refl
grown_or false n k x f = refl

step_row : (limits : Limits) (t : Tree) (n : ℕ) (line : List ℕ) (more : List (List ℕ)) (row : Row) → is_passed_over line ≡ false → bytes_eq line (codes "entries") ≡ false → node_in_line limits line ≡ Ok (node_of_row row)
    → started_from limits t n (line ∷ more) ≡ cond {A = Read} (fits limits t row) (started_from limits (t ++ row_of row ∷ []) (n + 1) more) (Err (fault_at n kind.BadStart))
unfolding started_from
step_row limits t n line more row p other is =
    cond-false _ _ _ p ∙ cond-false _ _ _ other
    ∙ ap (λ r. in_start n (r >>= grown limits t) >>= λ u. started_from limits u (n + 1) more) is
    ∙ grown_or (fits limits t row) n kind.BadStart (t ++ row_of row ∷ []) (λ u. started_from limits u (n + 1) more)

step_wrong : (limits : Limits) (t : Tree) (n : ℕ) (line : List ℕ) (more : List (List ℕ)) (k : FaultKind) → is_passed_over line ≡ false → bytes_eq line (codes "entries") ≡ false → node_in_line limits line ≡ Err k → started_from limits t n (line ∷ more) ≡ Err (fault_at n kind.BadStart)
unfolding started_from
step_wrong limits t n line more k p other is = cond-false _ _ _ p ∙ cond-false _ _ _ other ∙ ap (λ r. in_start n (r >>= grown limits t) >>= λ u. started_from limits u (n + 1) more) is

step_entries : (limits : Limits) (t : Tree) (n : ℕ) (line : List ℕ) (more : List (List ℕ)) → is_passed_over line ≡ false → bytes_eq line (codes "entries") ≡ true → started_from limits t n (line ∷ more) ≡ with_start (starting limits t) (entries_from limits (n + 1) more)
unfolding started_from
step_entries limits t n line more p is = cond-false _ _ _ p ∙ cond-true _ _ _ is

step_none : (limits : Limits) (t : Tree) (n : ℕ) → started_from limits t n [] ≡ Err (fault_at n kind.BadStart)
unfolding started_from
step_none limits t n = refl

-- what is read behind rows
pub rest_same : (limits : Limits) (t : Tree) (ns : List ℕ) (rows : List Row) (f g : Start → Read) → ((u : Tree) → f (starting limits u) ≡ g (starting limits u)) → behind_rows limits t ns rows f ≡ behind_rows limits t ns rows g
rest_same limits t ns [] f g same = same t
rest_same limits t [] (row ∷ rows) f g same = same t
rest_same limits t (n ∷ ns) (row ∷ rows) f g same = ap (λ r. cond {A = Read} (fits limits t row) r (Err (fault_at n kind.BadStart))) (rest_same limits (t ++ row_of row ∷ []) ns rows f g same)

one_more : (limits : Limits) (t : Tree) (ns : List ℕ) (rows : List Row) (n : ℕ) (row : Row) (f : Start → Read) → length ns ≡ length rows
    → behind_rows limits t (ns ++ n ∷ []) (rows ++ row ∷ []) f ≡ behind_rows limits t ns rows (λ (s : Start). cond {A = Read} (fits limits s.tree row) (f (starting limits (s.tree ++ row_of row ∷ []))) (Err (fault_at n kind.BadStart)))
one_more limits t [] [] n row f each = refl
one_more limits t [] (r ∷ rows) n row f each = absurd (omega (arith, each))
one_more limits t (m ∷ ns) [] n row f each = absurd (omega (arith, each))
one_more limits t (m ∷ ns) (r ∷ rows) n row f each = ap (λ q. cond {A = Read} (fits limits t r) q (Err (fault_at m kind.BadStart))) (one_more limits (t ++ row_of r ∷ []) ns rows n row f (omega (arith, each)))

-- where a reader of rows stands
abbrev pub At : LinesLeft → Start → Read
At left s = started_from s.limits s.tree left.number left.lines

pub nothing_taken : (limits : Limits) (old : LinesLeft) (before after : List Row) (numbers : List ℕ) → after ≡ before → numbers ≡ [] → AreTaken limits old before after numbers (At old)
nothing_taken limits old before after numbers same none = record { more = []; added = same ∙ sym (append-nil before); each = ap length none; read = λ t. refl }

-- the lines that are left, from the next one on
next_line : (limits : Limits) (t : Tree) (left new : LinesLeft) (line : Line) → IsNext left line new → At left (starting limits t) ≡ started_from limits t line.number (line.text.now ∷ new.lines)
next_line limits t left new line next = next_read (started_from limits t) (started_passes limits t) left new line next

pub row_taken : (limits : Limits) (old left new : LinesLeft) (before rows after : List Row) (numbers more_numbers : List ℕ) (line : Line) (row : Row) → AreTaken limits old before rows numbers (At left) → IsNext left line new
    → bytes_eq line.text.now (codes "entries") ≡ false → node_in_line limits line.text.now ≡ Ok (node_of_row row) → after ≡ rows ++ row ∷ [] → more_numbers ≡ numbers ++ line.number ∷ [] → AreTaken limits old before after more_numbers (At new)
row_taken limits old left new before rows after numbers more_numbers line row taken next other is added numbered = record {
  more = taken.more ++ row ∷ [];
  added = added ∙ ap (λ (z : List Row). z ++ row ∷ []) taken.added ∙ append_assoc before taken.more (row ∷ []);
  each =
      let one : length (numbers ++ line.number ∷ []) ≡ length numbers + 1 = length-append numbers (line.number ∷ []) in
      let other : length (taken.more ++ row ∷ []) ≡ length taken.more + 1 = length-append taken.more (row ∷ []) in
      let same : length numbers ≡ length taken.more = taken.each in
      ap length numbered ∙ omega (arith, one, other, same);
  read = λ t.
      taken.read t
      ∙ rest_same limits t numbers taken.more (At left) (λ (s : Start). cond {A = Read} (fits limits s.tree row) (started_from limits (s.tree ++ row_of row ∷ []) (line.number + 1) new.lines) (Err (fault_at line.number kind.BadStart))) (λ u. next_line limits u left new line next ∙ step_row limits u line.number line.text.now new.lines row next.taken other is)
      ∙ rest_same limits t numbers taken.more (λ (s : Start). cond {A = Read} (fits limits s.tree row) (started_from limits (s.tree ++ row_of row ∷ []) (line.number + 1) new.lines) (Err (fault_at line.number kind.BadStart))) (λ (s : Start). cond {A = Read} (fits limits s.tree row) (At new (starting limits (s.tree ++ row_of row ∷ []))) (Err (fault_at line.number kind.BadStart))) (λ u. ap (λ n. cond {A = Read} (fits limits u row) (started_from limits (u ++ row_of row ∷ []) n new.lines) (Err (fault_at line.number kind.BadStart))) (sym next.number))
      ∙ sym (one_more limits t numbers taken.more line.number row (At new) taken.each)
      ∙ ap (λ ns. behind_rows limits t ns (taken.more ++ row ∷ []) (At new)) (sym numbered);
}

-- the rows end with these lines
pub ends_so : (limits : Limits) (old : LinesLeft) (before rows : List Row) (numbers : List ℕ) (f g : Start → Read) → AreTaken limits old before rows numbers f → ((u : Tree) → f (starting limits u) ≡ g (starting limits u)) → AreTaken limits old before rows numbers g
ends_so limits old before rows numbers f g taken same = record { more = taken.more; added = taken.added; each = taken.each; read = λ t. taken.read t ∙ rest_same limits t numbers taken.more f g same }

pub at_entries : (limits : Limits) (left new : LinesLeft) (line : Line) → IsNext left line new → bytes_eq line.text.now (codes "entries") ≡ true → (u : Tree) → At left (starting limits u) ≡ with_start (starting limits u) (entries_from limits new.number new.lines)
at_entries limits left new line next is u =
    next_line limits u left new line next ∙ step_entries limits u line.number line.text.now new.lines next.taken is
    ∙ ap (λ n. with_start (starting limits u) (entries_from limits n new.lines)) (sym next.number)

pub at_wrong : (limits : Limits) (left new : LinesLeft) (line : Line) (k : FaultKind) → IsNext left line new → bytes_eq line.text.now (codes "entries") ≡ false → node_in_line limits line.text.now ≡ Err k → (u : Tree) → At left (starting limits u) ≡ Err (fault_at line.number kind.BadStart)
at_wrong limits left new line k next other is u = next_line limits u left new line next ∙ step_wrong limits u line.number line.text.now new.lines k next.taken other is

pub at_end : (limits : Limits) (left new : LinesLeft) → AreOver left new → (u : Tree) → At left (starting limits u) ≡ Err (fault_at new.number kind.BadStart)
at_end limits left new over u = over_read (started_from limits u) (started_passes limits u) left new over ∙ step_none limits u new.number

-- what a told row says of its line
pub some_told : (o : Option Row) (row : Row) (told : Result (Key × Kind × List ℕ) FaultKind) → IsToldBy o told → o ≡ Some row → told ≡ Ok (node_of_row row)
some_told o row told h is = subst (λ (q : Option Row). IsToldBy q told) is h

pub none_told : (o : Option Row) (told : Result (Key × Kind × List ℕ) FaultKind) → IsToldBy o told → o ≡ None → (k : FaultKind) × (told ≡ Err k)
none_told o told h is = subst (λ (q : Option Row). IsToldBy q told) is h

-- ---- rows that make a tree

rows_fit : (limits : Limits) (t : Tree) (p : ℕ) (ns : List ℕ) (rows : List Row) (rest : Start → Read) → length ns ≡ length rows → misfit_from limits t p rows ≡ None → behind_rows limits t ns rows rest ≡ rest (starting limits (t ++ map row_of rows))
rows_fit limits t p ns [] rest each fit = ap (λ u. rest (starting limits u)) (sym (append-nil t))
rows_fit limits t p [] (row ∷ rows) rest each fit = absurd (omega (arith, each))
rows_fit limits t p (n ∷ ns) (row ∷ rows) rest each fit = go (fits limits t row) refl fit (λ h. rows_fit limits (t ++ row_of row ∷ []) (p + 1) ns rows rest (omega (arith, each)) h)
  where
    go : (b : Bool) → fits limits t row ≡ b → cond {A = Option ℕ} b (misfit_from limits (t ++ row_of row ∷ []) (p + 1) rows) (Some p) ≡ None
        → (misfit_from limits (t ++ row_of row ∷ []) (p + 1) rows ≡ None → behind_rows limits (t ++ row_of row ∷ []) ns rows rest ≡ rest (starting limits ((t ++ row_of row ∷ []) ++ map row_of rows)))
        → behind_rows limits t (n ∷ ns) (row ∷ rows) rest ≡ rest (starting limits (t ++ row_of row ∷ map row_of rows))
    go true e h later = cond-true _ _ _ e ∙ later h ∙ ap (λ u. rest (starting limits u)) (append_assoc t (row_of row ∷ []) (map row_of rows))
    go false e h later = absurd (cc)

-- the fault of a line
abbrev bad_at : ℕ → Read
bad_at n = Err (fault_at n kind.BadStart)

-- where the first row that does not fit stands, and what is read there
record IsMisfit (limits : Limits) (t : Tree) (p : ℕ) (ns : List ℕ) (rows : List Row) (place : ℕ) : Type 0 where
  low : p ≤ place
  high : place - p < length rows
  read : (rest : Start → Read) → behind_rows limits t ns rows rest ≡ Err (fault_at (get_or ns (place - p) 0) kind.BadStart)

row_misfits : (limits : Limits) (t : Tree) (p : ℕ) (ns : List ℕ) (rows : List Row) (place : ℕ) → length ns ≡ length rows → misfit_from limits t p rows ≡ Some place → IsMisfit limits t p ns rows place
row_misfits limits t p ns [] place each bad = absurd (cc)
row_misfits limits t p [] (row ∷ rows) place each bad = absurd (omega (arith, each))
row_misfits limits t p (n ∷ ns) (row ∷ rows) place each bad = go (fits limits t row) refl bad (λ h. row_misfits limits (t ++ row_of row ∷ []) (p + 1) ns rows place (omega (arith, each)) h)
  where
    go : (b : Bool) → fits limits t row ≡ b → cond {A = Option ℕ} b (misfit_from limits (t ++ row_of row ∷ []) (p + 1) rows) (Some p) ≡ Some place
        → (misfit_from limits (t ++ row_of row ∷ []) (p + 1) rows ≡ Some place → IsMisfit limits (t ++ row_of row ∷ []) (p + 1) ns rows place)
        → IsMisfit limits t p (n ∷ ns) (row ∷ rows) place
    go true e h later =
        let found = later h in
        let low : p + 1 ≤ place = found.low in
        let next : place - p ≡ suc (place - (p + 1)) = omega (arith, low) in
        record {
          low = omega (arith, low);
          high = let high : place - (p + 1) < length rows = found.high in omega (arith, high, next);
          read = λ rest. cond-true _ _ _ e ∙ found.read rest ∙ ap (λ (i : ℕ). bad_at (get_or (n ∷ ns) i 0)) (sym next);
        }
    go false e h later =
        let same : p ≡ place = cc in
        let first : place - p ≡ 0 = omega (arith, same) in
        record {
          low = omega (arith, same);
          high = omega (arith, first);
          read = λ rest. cond-false _ _ _ e ∙ ap (λ (i : ℕ). bad_at (get_or (n ∷ ns) i 0)) (sym first);
        }

-- the row of the root, alone
pub root_row : (row : Row) (key : Key) → node_of_row row ≡ (key, Dir, []) → key ≡ [] → IsRootRow row
root_row row key is none = subst (λ (k : Key). node_of_row row ≡ (k, Dir, [])) none is

pub only_row : (rows old : List Row) (row : Row) → rows ≡ old ++ row ∷ [] → old ≡ [] → rows ≡ row ∷ []
only_row rows old row is none = is ∙ ap (λ (z : List Row). z ++ row ∷ []) none

-- what the row of the root is
root_is : (root : Row) → IsRootRow root → row_of root ≡ ([], IsDir)
root_is root is = ap (λ (n : Key × Kind × List ℕ). (n.0, node_of_kind n.1 n.2)) is

root_first : (root : Row) → IsRootRow root → is_first root ≡ true
root_first root is = ap (λ (n : Key × Kind × List ℕ). is_root n.0 && is_dirs n.1 && not (has_any n.2)) is

misfit_more : (limits : Limits) (root : Row) (more : List Row) → IsRootRow root → misfit limits (root ∷ more) ≡ misfit_from limits root_tree 2 more
misfit_more limits root more is = cond-true _ _ _ (root_first root is) ∙ ap (λ (r : Key × Node). misfit_from limits (r ∷ []) 2 more) (root_is root is)

pub made : (limits : Limits) (rows : List Row) (numbers : List ℕ) (start : Start) → AreNumbered rows numbers → start ≡ starting limits (map row_of rows) → misfit limits rows ≡ None → MakesTree limits rows numbers (Ok start)
made limits rows numbers start (root, more, is_root_row, is, each) told fit =
    subst (λ (rs : List Row). MakesTree limits rs numbers (Ok start)) (sym is) (λ rest.
    rows_fit limits root_tree 2 numbers more rest each (sym (misfit_more limits root more is_root_row) ∙ ap (misfit limits) (sym is) ∙ fit)
    ∙ ap rest (sym (told ∙ ap (λ (rs : List Row). starting limits (map row_of rs)) is ∙ ap (λ (r : Key × Node). starting limits (r ∷ map row_of more)) (root_is root is_root_row))))

misfit_at : (limits : Limits) (rows : List Row) (numbers : List ℕ) (place : ℕ) (h : AreNumbered rows numbers) → misfit limits rows ≡ Some place → IsMisfit limits root_tree 2 numbers h.1 place
misfit_at limits rows numbers place (root, more, is_root_row, is, each) bad = row_misfits limits root_tree 2 numbers more place each (sym (misfit_more limits root more is_root_row) ∙ ap (misfit limits) (sym is) ∙ bad)

pub place_within : (limits : Limits) (rows : List Row) (numbers : List ℕ) (place : ℕ) → AreNumbered rows numbers → misfit limits rows ≡ Some place → (2 ≤ place) × (place - 2 < length numbers)
place_within limits rows numbers place h bad =
    let at = misfit_at limits rows numbers place h bad in
    let low : 2 ≤ place = at.low in
    let high : place - 2 < length h.1 = at.high in
    let each : length numbers ≡ length h.1 = h.4 in
    (low, omega (arith, high, each))

pub faulted : (limits : Limits) (rows : List Row) (numbers : List ℕ) (place n : ℕ) → AreNumbered rows numbers → misfit limits rows ≡ Some place → n ≡ get_or numbers (place - 2) 0 → MakesTree limits rows numbers (Err (fault_at n kind.BadStart))
faulted limits rows numbers place n h bad at =
    subst (λ (rs : List Row). MakesTree limits rs numbers (Err (fault_at n kind.BadStart))) (sym h.3) (λ rest.
    (misfit_at limits rows numbers place h bad).read rest ∙ ap bad_at (sym at))

-- ---- out of memory says nothing of the text

pub no_memory : {Y : Type 0} (f : ScriptFault) (given : Result Y ScriptFault) → f.kind ≡ kind.OutOfMemory → FailsThere f.line f.kind given
no_memory f given is = subst (λ (k : FaultKind). FailsThere f.line k given) (sym is) tt

pub not_made : (limits : Limits) (rows : List Row) (numbers : List ℕ) (f : ScriptFault) → AreNumbered rows numbers → f.kind ≡ kind.OutOfMemory → MakesTree limits rows numbers (Err f)
not_made limits rows numbers f h is = subst (λ (rs : List Row). MakesTree limits rs numbers (Err f)) (sym h.3) (λ rest. no_memory f _ is)

-- ---- the rest of a journal

pub start_fails : (f : ScriptFault) (t : Start) (given : Result (List Entry) ScriptFault) → FailsThere f.line f.kind given → FailsThere f.line f.kind (with_start t given)
start_fails f t given h = go f.kind h
  where
    go : (k : FaultKind) → FailsThere f.line k given → FailsThere f.line k (with_start t given)
    go kind.OutOfMemory e = tt
    go k e = ap (with_start t) e

-- rows behind the root's were taken, and numbered
pub numbered : (limits : Limits) (old : LinesLeft) (before rows : List Row) (numbers : List ℕ) (rest : Start → Read) → IsRootAlone before → AreTaken limits old before rows numbers rest → AreNumbered rows numbers
numbered limits old before rows numbers rest (root, is_root_row, is) taken = (root, taken.more, is_root_row, taken.added ∙ ap (λ (z : List Row). z ++ taken.more) is, taken.each)

-- they made a tree, behind which the rest is read
pub read_behind : (limits : Limits) (old : LinesLeft) (before rows : List Row) (numbers : List ℕ) (rest : Start → Read) (result : Result Start ScriptFault) → IsRootAlone before → AreTaken limits old before rows numbers rest → MakesTree limits rows numbers result
    → MatchResult result (λ tree. started_from limits root_tree old.number old.lines ≡ rest tree) (λ f. FailsThere f.line f.kind (started_from limits root_tree old.number old.lines))
read_behind limits old before rows numbers rest result (root, is_root_row, is) taken makes =
    let whole = taken.read root_tree in
    let made_of : MakesTree limits (root ∷ taken.more) numbers result = subst (λ (rs : List Row). MakesTree limits rs numbers result) (taken.added ∙ ap (λ (z : List Row). z ++ taken.more) is) makes in
    subst (λ (r : Read). MatchResult result (λ tree. r ≡ rest tree) (λ f. FailsThere f.line f.kind r)) (sym whole) (made_of rest)

-- the root alone is within the limits
pub root_within : (limits : Limits) → IsWithinLimits limits root_tree
unfolding look
root_within limits = record { tree = played_trees_are_trees.0; entries = few; bytes = none }
  where
    few : (d : Key) → length (names_in root_tree d) ≤ entry_limit limits
    few [] = omega arith
    few (x ∷ d) = omega arith

    none : (k : Key) (bytes : List ℕ) → look root_tree k ≡ Some (IsFile bytes) → length bytes ≤ file_limit limits
    none [] bytes e = absurd (let dir : ◌≡◌ {A = Option Node} (Some IsDir) (Some (IsFile bytes)) = e in cc)
    none (x ∷ k) bytes e = absurd (let missing : ◌≡◌ {A = Option Node} None (Some (IsFile bytes)) = e in cc)
