-- Threads, lists of calls and words, and the steps of reading a script.
use Rattle.std.proofs.Common.{◌≡◌, ℕ, ◌+◌, Bool, true, false, not, List, [], ◌∷◌, ◌++◌, length, map, refl, sym, ap, ◌∙◌, position, ◌||◌, ◌&&◌, codes, arith, get_or, set, Result, Ok, Err}
use Rattle.std.specs.Prelude.{zero, suc}
use Rattle.std.specs.List.{list_any, prefix_len}
use Rattle.std.specs.Str.{bytes_eq}
use Rattle.std.specs.Prelude.{MatchResult}
use Rattle.fs_calls.specs.declared.call.Call.{Call}
use Rattle.fs_words.specs.Lines.{is_passed_over}
use Rattle.fs_words.specs.Reading.{◌>>=◌, words_of, at_line, fault_at}
use Rattle.fs_words.specs.code.Answers.{FailsAs, FailsThere}
use Rattle.fs_words.specs.code.LinesLeft.{LinesLeft, IsNext, AreOver}
use Rattle.fs_words.specs.declared.numbered.Line.{Line}
use Rattle.fs_words.proofs.ReadLemmas.{next_read, over_read}
use Rattle.fs_script.specs.Limits.{calls_in}
use Rattle.fs_script.proofs.LimitLemmas.{calls_thread}
use Rattle.fs_script.specs.Script.{with_call, blocks_from, schedule_from}
use Rattle.fs_script.specs.code.Drafts.{Pushes, line_in, lines_in}
use Rattle.fs_script.specs.declared.script.Script.{Script}
use Rattle.fs_words.specs.declared.fault.ScriptFault.{ScriptFault}
use Rattle.fs_words.specs.declared.fault.FaultKind.{FaultKind}
use Rattle.fs_words.specs.declared.fault.FaultKind.TheVariants as kind
use Rattle.std.proofs.lemmas.Bool.{cond-true, cond-false}
use Rattle.indexmap.specs.IndexSet.{insert_key}

prefix_mapped : {X Y : Type 0} (f : X → Y) (p : Y → Bool) (xs : List X) → prefix_len p (map f xs) ≡ prefix_len (λ x. p (f x)) xs
prefix_mapped f p [] = refl
prefix_mapped f p (x ∷ xs) = rw (prefix_mapped f p xs) refl

pub length_mapped : {X Y : Type 0} (f : X → Y) (xs : List X) → length (map f xs) ≡ length xs
length_mapped f [] = refl
length_mapped f (x ∷ xs) = ap suc (length_mapped f xs)

pub position_mapped : {X Y : Type 0} (f : X → Y) (p : Y → Bool) (xs : List X) → position p (map f xs) ≡ position (λ x. p (f x)) xs
position_mapped f p xs = rw (prefix_mapped f (λ x. not (p x)) xs, length_mapped f xs) refl

pub any_mapped : {X Y : Type 0} (f : X → Y) (p : Y → Bool) (xs : List X) → list_any p (map f xs) ≡ list_any (λ x. p (f x)) xs
any_mapped f p [] = refl
any_mapped f p (x ∷ xs) = ap (λ r. p (f x) || r) (any_mapped f p xs)

pub map_append : {X Y : Type 0} (f : X → Y) (xs ys : List X) → map f (xs ++ ys) ≡ map f xs ++ map f ys
map_append f [] ys = refl
map_append f (x ∷ xs) ys = ap (λ zs. f x ∷ zs) (map_append f xs ys)

-- a name that is not there goes last
pub name_added : {V : Type 0} (f : V → List ℕ) (ks new : List V) (k : V) (old : List (List ℕ)) (name : List ℕ) → new ≡ insert_key (λ x y. bytes_eq (f x) (f y)) ks k → map f ks ≡ old → f k ≡ name → list_any (bytes_eq name) old ≡ false
    → map f new ≡ old ++ name ∷ []
name_added f ks new k old name added olds is none =
    let absent : list_any (λ x. bytes_eq (f k) (f x)) ks ≡ false =
    sym (any_mapped f (bytes_eq (f k)) ks) ∙ ap (λ n. list_any (bytes_eq n) (map f ks)) is ∙ ap (list_any (bytes_eq name)) olds ∙ none in
    ap (map f) (added ∙ cond-false _ _ _ absent) ∙ map_append f ks (k ∷ []) ∙ ap (λ o. o ++ f k ∷ []) olds ∙ ap (λ n. old ++ n ∷ []) is

last_set : {V : Type 0} (f : V → List Call) (vs : List V) (y d : V) (n : ℕ) (c : Call) → n + 1 ≡ length vs → f y ≡ f (get_or vs n d) ++ c ∷ [] → map f (set vs n y) ≡ with_call c (map f vs)
last_set f [] y d n c len is = absurd (omega arith)
last_set f (x ∷ []) y d zero c len is = ap (λ z. z ∷ []) is
last_set f (x ∷ []) y d (suc n) c len is = absurd (omega arith)
last_set f (x ∷ z ∷ vs) y d zero c len is = absurd (omega arith)
last_set f (x ∷ z ∷ vs) y d (suc n) c len is = ap (λ more. f x ∷ more) (last_set f (z ∷ vs) y d n c (omega arith) is)

set_same : {V : Type 0} (f : V → List Call) (vs : List V) (y d : V) (n : ℕ) → f y ≡ f (get_or vs n d) → map f (set vs n y) ≡ map f vs
set_same f [] y d n is = refl
set_same f (x ∷ vs) y d zero is = ap (λ z. z ∷ map f vs) is
set_same f (x ∷ vs) y d (suc n) is = ap (λ more. f x ∷ more) (set_same f vs y d n is)

-- a call was added to the last list, or an allocation failed
pub call_pushed : {V : Type 0} (f : V → List Call) (r : Result (Unit {0}) FaultKind) (vs : List V) (lists : List (List Call)) (old new d : V) (n : ℕ) (c : Call) → n + 1 ≡ length vs → map f vs ≡ lists → old ≡ get_or vs n d → Pushes r (f old) (f new) c
    → MatchResult r (λ u. map f (set vs n new) ≡ with_call c lists) (λ k. (k ≡ kind.OutOfMemory) × (map f (set vs n new) ≡ lists))
call_pushed f (Ok u) vs lists old new d n c len view at h = last_set f vs new d n c len (h ∙ ap (λ v. f v ++ c ∷ []) at) ∙ ap (with_call c) view
call_pushed f (Err k) vs lists old new d n c len view at h = (h.0, set_same f vs new d n (h.1 ∙ ap f at) ∙ view)

-- a list without calls was added, or an allocation failed
pub list_pushed : (r : Result (Unit {0}) FaultKind) (old new : List (List Call)) → Pushes r old new [] → calls_in new ≡ calls_in old
list_pushed (Ok u) old new h = ap calls_in h ∙ calls_thread old
list_pushed (Err k) old new h = ap calls_in h.1

-- ---- lines, one after the other

step_passed : (b : Bool) (n : ℕ) (s : Script) (line : List ℕ) (more : List (List ℕ)) → is_passed_over line ≡ true → lines_in b n s (line ∷ more) ≡ lines_in b (n + 1) s more
unfolding blocks_from schedule_from
step_passed true n s line more p = cond-true _ _ _ p
step_passed false n s line more p = cond-true _ _ _ p

step_begun : (b : Bool) (n : ℕ) (s : Script) (line : List ℕ) (more : List (List ℕ)) → is_passed_over line ≡ false → not b && bytes_eq line (codes "schedule") ≡ true → lines_in b n s (line ∷ more) ≡ lines_in true (n + 1) s more
unfolding blocks_from
step_begun true n s line more p h = absurd (let z : ◌≡◌ {A = Bool} false true = h in cc)
step_begun false n s line more p h = cond-false _ _ _ p ∙ cond-true _ _ _ h

step_told : (b : Bool) (n : ℕ) (s : Script) (line : List ℕ) (more : List (List ℕ)) → is_passed_over line ≡ false → not b && bytes_eq line (codes "schedule") ≡ false → lines_in b n s (line ∷ more) ≡ (at_line n (words_of line >>= line_in b s) >>= λ t. lines_in b (n + 1) t more)
unfolding blocks_from schedule_from
step_told true n s line more p h = cond-false _ _ _ p
step_told false n s line more p h = cond-false _ _ _ p ∙ cond-false _ _ _ h

abbrev pub Reading : Type 0
Reading = Result Script ScriptFault

-- the lines that are left, from the next one on
turn : (whole : Reading) (b : Bool) (s : Script) (old new : LinesLeft) (line : Line) → whole ≡ lines_in b old.number s old.lines → IsNext old line new → whole ≡ lines_in b line.number s (line.text.now ∷ new.lines)
turn whole b s old new line h next = h ∙ next_read (λ n lines. lines_in b n s lines) (λ n. step_passed b n s) old new line next

pub line_begun : (whole : Reading) (b : Bool) (s : Script) (old new : LinesLeft) (line : Line) → whole ≡ lines_in b old.number s old.lines → IsNext old line new → not b && bytes_eq line.text.now (codes "schedule") ≡ true → whole ≡ lines_in true new.number s new.lines
line_begun whole b s old new line h next e =
    turn whole b s old new line h next ∙ step_begun b line.number s line.text.now new.lines next.taken e ∙ ap (λ n. schedule_from n s new.lines) (sym next.number)

line_told : (whole : Reading) (b : Bool) (s : Script) (old new : LinesLeft) (line : Line) → whole ≡ lines_in b old.number s old.lines → IsNext old line new → not b && bytes_eq line.text.now (codes "schedule") ≡ false
    → whole ≡ (at_line line.number (words_of line.text.now >>= line_in b s) >>= λ t. lines_in b (line.number + 1) t new.lines)
line_told whole b s old new line h next e = turn whole b s old new line h next ∙ step_told b line.number s line.text.now new.lines next.taken e

pub line_taken : (whole : Reading) (b : Bool) (s t : Script) (old new : LinesLeft) (line : Line) → whole ≡ lines_in b old.number s old.lines → IsNext old line new → not b && bytes_eq line.text.now (codes "schedule") ≡ false → (words_of line.text.now >>= line_in b s) ≡ Ok t
    → whole ≡ lines_in b new.number t new.lines
line_taken whole b s t old new line h next e given =
    line_told whole b s old new line h next e
    ∙ ap (λ r. at_line line.number r >>= λ u. lines_in b (line.number + 1) u new.lines) given
    ∙ ap (λ n. lines_in b n t new.lines) (sym next.number)

pub line_failed : (whole : Reading) (b : Bool) (s : Script) (old new : LinesLeft) (line : Line) (k : FaultKind) → whole ≡ lines_in b old.number s old.lines → IsNext old line new → not b && bytes_eq line.text.now (codes "schedule") ≡ false → FailsAs k (words_of line.text.now >>= line_in b s)
    → FailsThere line.number k whole
line_failed whole b s old new line kind.OutOfMemory h next e given = tt
line_failed whole b s old new line k h next e given = line_told whole b s old new line h next e ∙ ap (λ r. at_line line.number r >>= λ u. lines_in b (line.number + 1) u new.lines) given

over : (whole : Reading) (b : Bool) (s : Script) (old new : LinesLeft) → whole ≡ lines_in b old.number s old.lines → AreOver old new → whole ≡ lines_in b new.number s []
over whole b s old new h none = h ∙ over_read (λ n lines. lines_in b n s lines) (λ n. step_passed b n s) old new none

pub lines_end : (whole : Reading) (b : Bool) (s : Script) (old new : LinesLeft) → whole ≡ lines_in b old.number s old.lines → AreOver old new → b ≡ false → whole ≡ Err (fault_at new.number kind.NoSchedule)
unfolding blocks_from
lines_end whole true s old new h none e = absurd (let z : ◌≡◌ {A = Bool} true false = e in cc)
lines_end whole false s old new h none e = over whole false s old new h none

pub lines_done : (whole : Reading) (b : Bool) (s : Script) (old new : LinesLeft) → whole ≡ lines_in b old.number s old.lines → AreOver old new → b ≡ true → whole ≡ Ok s
unfolding schedule_from
lines_done whole true s old new h none e = over whole true s old new h none
lines_done whole false s old new h none e = absurd (let z : ◌≡◌ {A = Bool} false true = e in cc)
