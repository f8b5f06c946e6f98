-- What texts give by their first line.
use Rattle.std.proofs.Common.{◌≡◌, ◌≤◌, ℕ, Bool, true, false, cond, List, ◌∷◌, length, Option, Some, None, Result, Ok, Err, ap, subst, sym, refl, ◌∙◌, arith}
use Rattle.std.proofs.lemmas.Bool.{cond-true, cond-false}
use Rattle.fs_names.specs.declared.limits.Limits.{Limits}
use Rattle.fs_names.specs.declared.limits.Limits.TheVariants.{V1}
use Rattle.fs_words.specs.Lines.{lines_of}
use Rattle.fs_words.specs.Reading.{◌>>=◌, fault_at, first_line, headed}
use Rattle.fs_words.specs.declared.fault.ScriptFault.{ScriptFault}
use Rattle.fs_words.specs.declared.fault.FaultKind.TheVariants as kind
use Rattle.fs_words.specs.Headers.{script_header, started_header, announced, text_limit, limit_of_text, is_too_long}
use Rattle.fs_words.proofs.HeaderLemmas.{announced_is, started_announced, limit_of_started, not_too_long, short_enough}
use Rattle.fs_script.specs.Journals.{started_lines, announced_journal, journal_behind, journal_of}
use Rattle.fs_script.specs.Script.{nothing_yet, blocks_from, announced_script, script_behind, script_of}
use Rattle.fs_script.specs.declared.script.Script.{Script}

-- ---- texts by their lines

short_headed : (text : List ℕ) → is_too_long text ≡ false → headed text ≡ first_line (lines_of text)
short_headed text short = cond-false _ _ _ short

-- what the lines of a script give
abbrev pub script_in : List (List ℕ) → Result Script ScriptFault
script_in lines = first_line lines >>= script_behind

-- which is what a text gives that is not too long
pub short_script : (text : List ℕ) → is_too_long text ≡ false → script_of text ≡ script_in (lines_of text)
unfolding script_of
short_script text short = ap (λ r. r >>= script_behind) (short_headed text short)

-- and one that is read
pub lines_read : (text : List ℕ) (script : Script) → script_of text ≡ Ok script → script_in (lines_of text) ≡ Ok script
unfolding script_of
lines_read text script is = go (is_too_long text) is
  where
    go : (long : Bool) → (cond {A = Result (List ℕ × List (List ℕ)) ScriptFault} long (Err (fault_at 1 kind.TooLarge)) (first_line (lines_of text)) >>= script_behind) ≡ Ok script → script_in (lines_of text) ≡ Ok script
    go true e = absurd (cc)
    go false e = e

-- the first line is a header, by whose limits the others are read
pub record IsHeaded (first : List ℕ) (rest : List (List ℕ)) (script : Script) : Type 0 where
  pub limits : Limits
  pub is : first ≡ script_header limits
  pub announces : announced script_header first ≡ Some limits
  pub read : blocks_from 2 (nothing_yet limits) rest ≡ Ok script

pub headed_script : (first : List ℕ) (rest : List (List ℕ)) (script : Script) → script_in (first ∷ rest) ≡ Ok script → IsHeaded first rest script
headed_script first rest script is = go (announced script_header first) refl is
  where
    go : (o : Option Limits) → announced script_header first ≡ o → announced_script o rest ≡ Ok script → IsHeaded first rest script
    go None e h = absurd (cc)
    go (Some limits) e h = record { limits = limits; is = announced_is script_header first limits e; announces = e; read = h }

-- and so are other lines behind it
pub again : (limits : Limits) (first : List ℕ) → announced script_header first ≡ Some limits → (more : List (List ℕ)) → script_in (first ∷ more) ≡ blocks_from 2 (nothing_yet limits) more
again limits first announces more = ap (λ o. announced_script o more) announces

-- what the lines of a journal give that announces a start tree and these limits
pub short_journal : (limits : Limits) (text : List ℕ) (more : List (List ℕ)) → length text ≤ text_limit limits → lines_of text ≡ started_header limits ∷ more → journal_of text ≡ started_lines limits more
unfolding journal_of
short_journal limits text more short are =
    let own : text_limit limits ≤ limit_of_text text = subst (λ n. text_limit limits ≤ n) (sym (limit_of_started limits text more are)) (omega arith) in
    ap (λ r. r >>= journal_behind text) (short_headed text (not_too_long text (text_limit limits) short own) ∙ ap first_line are)
    ∙ ap (λ o. announced_journal text o more) (started_announced limits)

-- and one whose first line announces none
pub root_journal : (text first : List ℕ) (more : List (List ℕ)) → length text ≤ text_limit V1 → lines_of text ≡ first ∷ more → announced started_header first ≡ None → journal_of text ≡ announced_journal text None more
unfolding journal_of
root_journal text first more short are none =
    ap (λ r. r >>= journal_behind text) (short_headed text (short_enough text short) ∙ ap first_line are) ∙ ap (λ o. announced_journal text o more) none

-- ---- texts that are too long

pub long_script : (text : List ℕ) → is_too_long text ≡ true → script_of text ≡ Err (fault_at 1 kind.TooLarge)
unfolding script_of
long_script text long = ap (λ r. r >>= script_behind) (cond-true _ _ _ long)

pub long_journal : (text : List ℕ) → is_too_long text ≡ true → journal_of text ≡ Err (fault_at 1 kind.TooLarge)
unfolding journal_of
long_journal text long = ap (λ r. r >>= journal_behind text) (cond-true _ _ _ long)
