-- What is added to a text for words and lines, one after the other, as the loops do it.
use Rattle.std.proofs.Common.{◌≡◌, ℕ, Bool, true, false, List, [], ◌∷◌, ◌++◌, Option, Some, None, Ok, MatchOption, codes, refl, sym, ap, ◌∙◌, subst, inl, inr, append_assoc, append-nil}
use Rattle.std.specs.List.{join_with_byte}
use Rattle.std.proofs.lemmas.Grind.{flat_map-append}
use Rattle.fs_names.specs.declared.limits.Limits.{Limits}
use Rattle.fs_words.specs.Lines.{is_passed_over}
use Rattle.fs_words.specs.Reading.{words_of}
use Rattle.fs_words.specs.Words.{Word}
use Rattle.fs_sched.specs.declared.origin.Origin.{Origin}
use Rattle.fs_sched_reach.specs.Counts.{HasNoCount, IsCount}
use Rattle.fs_sched_reach.specs.Words.{CallWord, reach_of}
use Rattle.fs_sched_reach.specs.Written.{spaced, AreWordsWritten, IsOneStuck, IsWordFor, AreLinesWritten}
use Rattle.fs_sched_reach.specs.code.Joined.{closed}
use Rattle.fs_sched_reach.specs.code.Writing.{WritesWord, WritesWords, WritesLine, WritesLines}
use Rattle.fs_sched_reach.proofs.Joining.{closed_append}

-- ---- words

spaced_append : (xs ys : List Word) → spaced (xs ++ ys) ≡ spaced xs ++ spaced ys
spaced_append xs ys = flat_map-append (λ (w : Word). w ++ codes " ") xs ys

-- what is written so far, and what is left to be written
pub record WordsSoFar (from : Origin) (limits : Limits) (all rest : List Word) (old now : List ℕ) : Type 0 where
  pub done : List Word
  pub is : now ≡ old ++ spaced done
  pub lead : (more : List Word) → AreWordsWritten from limits now rest more → AreWordsWritten from limits old all (done ++ more)
  pub stuck : IsOneStuck from limits now rest → IsOneStuck from limits old all

pub words_first : (from : Origin) (limits : Limits) (all : List Word) (old : List ℕ) → WordsSoFar from limits all all old old
words_first from limits all old = record { done = []; is = sym (append-nil old); lead = λ more written. written; stuck = λ s. s }

pub words_more : (from : Origin) (limits : Limits) (all rest left : List Word) (word : Word) (old now new : List ℕ) → left ≡ word ∷ rest → WordsSoFar from limits all left old now → (b : Bool) → b ≡ true → WritesWord from limits now word b new → WordsSoFar from limits all rest old new
words_more from limits all rest left word old now new is so_far b it writes =
    let (first, written, adds) = subst (λ (x : Bool). WritesWord from limits now word x new) it writes in
    let here : WordsSoFar from limits all (word ∷ rest) old now = subst (λ (ws : List Word). WordsSoFar from limits all ws old now) is so_far in
    record {
      done = here.done ++ first;
      is = adds ∙ ap (λ (l : List ℕ). l ++ spaced first) here.is ∙ append_assoc old (spaced here.done) (spaced first) ∙ ap (λ (l : List ℕ). old ++ l) (sym (spaced_append here.done first));
      lead = λ more w.
          subst (AreWordsWritten from limits old all) (sym (append_assoc here.done first more))
          (here.lead (first ++ more) (first, more, written, subst (λ (t : List ℕ). AreWordsWritten from limits t rest more) adds w, refl));
      stuck = λ s. here.stuck (inr (first, written, subst (λ (t : List ℕ). IsOneStuck from limits t rest) adds s));
    }

pub words_stuck : (from : Origin) (limits : Limits) (all rest left : List Word) (word : Word) (old now new : List ℕ) → left ≡ word ∷ rest → WordsSoFar from limits all left old now → (b : Bool) → b ≡ false → WritesWord from limits now word b new → WritesWords from limits old all false new
words_stuck from limits all rest left word old now new is so_far b it writes =
    let (s, same) = subst (λ (x : Bool). WritesWord from limits now word x new) it writes in
    let here : WordsSoFar from limits all (word ∷ rest) old now = subst (λ (ws : List Word). WordsSoFar from limits all ws old now) is so_far in
    (here.stuck (inl s), spaced here.done, same ∙ here.is)

pub words_end : (from : Origin) (limits : Limits) (all left : List Word) (old now : List ℕ) → left ≡ [] → WordsSoFar from limits all left old now → WritesWords from limits old all true now
words_end from limits all left old now none so_far =
    let here : WordsSoFar from limits all [] old now = subst (λ (ws : List Word). WordsSoFar from limits all ws old now) none so_far in
    (here.done, subst (AreWordsWritten from limits old all) (append-nil here.done) (here.lead [] refl), here.is)

-- ---- lines

pub record LinesSoFar (from : Origin) (limits : Limits) (all rest : List (List ℕ)) (old now : List ℕ) : Type 0 where
  pub done : List (List ℕ)
  pub is : now ≡ old ++ closed 10 done
  pub lead : (more : List (List ℕ)) → AreLinesWritten from limits now rest more → AreLinesWritten from limits old all (done ++ more)

pub lines_first : (from : Origin) (limits : Limits) (all : List (List ℕ)) (old : List ℕ) → LinesSoFar from limits all all old old
lines_first from limits all old = record { done = []; is = sym (append-nil old); lead = λ more written. written }

pub lines_more : (from : Origin) (limits : Limits) (all rest left : List (List ℕ)) (line : List ℕ) (old now new : List ℕ) → left ≡ line ∷ rest → LinesSoFar from limits all left old now → (b : Bool) → b ≡ true → WritesLine from limits now line b new → LinesSoFar from limits all rest old new
lines_more from limits all rest left line old now new is so_far b it writes =
    let (first, written, adds) = subst (λ (x : Bool). WritesLine from limits now line x new) it writes in
    let here : LinesSoFar from limits all (line ∷ rest) old now = subst (λ (ls : List (List ℕ)). LinesSoFar from limits all ls old now) is so_far in
    record {
      done = here.done ++ first ∷ [];
      is = adds ∙ ap (λ (l : List ℕ). l ++ (first ++ 10 ∷ [])) here.is ∙ append_assoc old (closed 10 here.done) (first ++ 10 ∷ [])
          ∙ ap (λ (l : List ℕ). old ++ (closed 10 here.done ++ l)) (sym (append-nil (first ++ 10 ∷ []))) ∙ ap (λ (l : List ℕ). old ++ l) (sym (closed_append 10 here.done (first ∷ [])));
      lead = λ more w.
          subst (AreLinesWritten from limits old all) (sym (append_assoc here.done (first ∷ []) more))
          (here.lead (first ∷ more) (inl (first, more, written, subst (λ (t : List ℕ). AreLinesWritten from limits t rest more) adds w, refl)));
    }

pub lines_left : (from : Origin) (limits : Limits) (all rest left : List (List ℕ)) (line : List ℕ) (old now new last : List ℕ) → left ≡ line ∷ rest → LinesSoFar from limits all left old now → (b : Bool) → b ≡ false → WritesLine from limits now line b new → last ≡ new ++ closed 10 left → WritesLines from limits old all last
lines_left from limits all rest left line old now new last is so_far b it writes adds =
    let (kept, same) = subst (λ (x : Bool). WritesLine from limits now line x new) it writes in
    let here : LinesSoFar from limits all (line ∷ rest) old now = subst (λ (ls : List (List ℕ)). LinesSoFar from limits all ls old now) is so_far in (
      here.done ++ line ∷ rest,
      here.lead (line ∷ rest) (inr (kept, refl)),
      adds ∙ ap (λ (l : List ℕ). l ++ closed 10 left) (same ∙ here.is) ∙ append_assoc old (closed 10 here.done) (closed 10 left)
          ∙ ap (λ (ls : List (List ℕ)). old ++ (closed 10 here.done ++ closed 10 ls)) is ∙ ap (λ (l : List ℕ). old ++ l) (sym (closed_append 10 here.done (line ∷ rest))),
    )

pub lines_end : (from : Origin) (limits : Limits) (all left : List (List ℕ)) (old now : List ℕ) → left ≡ [] → LinesSoFar from limits all left old now → WritesLines from limits old all now
lines_end from limits all left old now none so_far =
    let here : LinesSoFar from limits all [] old now = subst (λ (ls : List (List ℕ)). LinesSoFar from limits all ls old now) none so_far in
    (here.done, subst (AreLinesWritten from limits old all) (append-nil here.done) (here.lead [] refl), here.is)

-- ---- one word

pub word_stays : (from : Origin) (limits : Limits) (old new : List ℕ) (word : Word) → reach_of word ≡ None → new ≡ old ++ (word ++ 32 ∷ []) → WritesWord from limits old word true new
word_stays from limits old new word none adds = (
  word ∷ [],
  subst (λ (o : Option CallWord). IsWordFor from limits old word o (word ∷ [])) (sym none) refl,
  adds ∙ ap (λ (l : List ℕ). old ++ l) (sym (append-nil (word ++ 32 ∷ []))),
)

pub word_stuck : (from : Origin) (limits : Limits) (old text : List ℕ) (word : Word) (w : CallWord) (count : Option ℕ) → Some w ≡ reach_of word → count ≡ None → text ≡ old → MatchOption count (HasNoCount from limits text w) (IsCount from limits text w) → WritesWord from limits old word false old
word_stuck from limits old text word w None names none same count = ((w, sym names, subst (λ (t : List ℕ). HasNoCount from limits t w) same count), refl)
word_stuck from limits old text word w (Some n) names none same count = absurd (cc)

-- ---- one line

pub line_stays : (from : Origin) (limits : Limits) (old new line : List ℕ) → is_passed_over line ≡ true → new ≡ old ++ (line ++ 10 ∷ []) → WritesLine from limits old line true new
line_stays from limits old new line over adds = (line, inl (over, refl), adds)

pub line_done : (from : Origin) (limits : Limits) (old now new line : List ℕ) (words : List Word) → is_passed_over line ≡ false → words_of line ≡ Ok words → WritesWords from limits old words true now
    → ((written : List Word) → now ≡ old ++ spaced written → new ≡ (old ++ join_with_byte 32 written) ++ 10 ∷ []) → WritesLine from limits old line true new
line_done from limits old now new line words some read (written, are, is) ends = (
  join_with_byte 32 written,
  inr (some, words, written, read, are, refl),
  ends written is ∙ append_assoc old (join_with_byte 32 written) (10 ∷ []),
)
