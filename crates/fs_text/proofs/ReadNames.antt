-- Calls that are read have only paths that keep the limits, and are ones that these have.
use Rattle.std.proofs.Common.{◌≡◌, ℕ, Bool, true, false, cond, List, [], ◌∷◌, Option, Some, None, Result, Ok, Err, refl, subst, codes}
use Rattle.std.specs.Prelude.{IsTrue}
use Rattle.std.specs.Str.{bytes_eq}
use Rattle.percent_encoding.specs.Percent.{percent_decode}
use Rattle.fs_names.specs.Keys.{Key}
use Rattle.fs_names.specs.Limits.{has_list}
use Rattle.fs_names.specs.Reading.{reading}
use Rattle.fs_names.specs.declared.fault.PathFault.{PathFault}
use Rattle.fs_names.specs.declared.limits.Limits.{Limits}
use Rattle.fs_names.proofs.ReadingLemmas.{KeepsLimits, read_short}
use Rattle.fs_calls.specs.declared.call.Call.{Call}
use Rattle.fs_calls.specs.declared.call.Call.TheVariants as call
use Rattle.fs_timeline.proofs.KeptNames.{NamesCall}
use Rattle.fs_words.specs.Words.{Word}
use Rattle.fs_words.specs.Reading.{◌>>=◌, or_bad_path, path_at, number_at, hex_at}
use Rattle.fs_text.specs.Calls.{CallForm, one_path, two_paths, paths_and_count, a_number, two_numbers, number_and_bytes, list_form, longer_form_of, form_of, one_path_of, two_paths_of, count_at, paths_and_count_of, a_number_of, two_numbers_of, number_and_bytes_of, arguments_at, formed_call, call_of}

-- what is given, if it is something, is such
abbrev pub Given : {A F : Type 0} → (A → Type 0) → Result A F → Type 0
Given P (Ok x) = P x
Given P (Err f) = Unit {0}

-- of a step and one behind it
pub given_then : {A B F : Type 0} (P : A → Type 0) (Q : B → Type 0) (r : Result A F) (f : A → Result B F) → Given P r → ((x : A) → P x → Given Q (f x)) → Given Q (r >>= f)
given_then P Q (Ok x) f h each = each x h
given_then P Q (Err e) f h each = tt

-- of a step of which nothing is said
any_then : {A B F : Type 0} (Q : B → Type 0) (r : Result A F) (f : A → Result B F) → ((x : A) → Given Q (f x)) → Given Q (r >>= f)
any_then Q (Ok x) f each = each x
any_then Q (Err e) f each = tt

pub given_is : {A F : Type 0} (P : A → Type 0) (r : Result A F) (x : A) → Given P r → r ≡ Ok x → P x
given_is P (Ok y) x h e = let same : y ≡ x = cc in subst P same h
given_is P (Err f) x h e = absurd (cc)

module _ (limits : Limits) where
  abbrev Short : Key → Type 0
  Short key = KeepsLimits limits key

  abbrev Shorts : Call → Type 0
  Shorts c = NamesCall Short (IsTrue (has_list limits)) c

  read_given : (bytes : List ℕ) (r : Result Key PathFault) → reading limits bytes ≡ r → Given Short (or_bad_path r)
  read_given bytes (Ok key) e = read_short limits bytes key e
  read_given bytes (Err f) e = tt

  path_given : (w : Word) → Given Short (path_at limits w)
  path_given w = read_given (percent_decode w) (reading limits (percent_decode w)) refl

  -- what a form makes of paths that keep the limits has such paths
  abbrev Takes : CallForm → Type 0
  Takes (one_path make) = (p : Key) → Short p → Shorts (make p)
  Takes (two_paths make) = (p q : Key) → Short p → Short q → Shorts (make p q)
  Takes (paths_and_count make) = (p q : Key) (n : ℕ) → Short p → Short q → Shorts (make n p q)
  Takes (a_number make) = (p : Key) (n : ℕ) → Short p → Shorts (make p n)
  Takes (two_numbers make) = (p : Key) (m n : ℕ) → Short p → Shorts (make p m n)
  Takes (number_and_bytes make) = (p : Key) (n : ℕ) (bytes : List ℕ) → Short p → Shorts (make p n bytes)

  abbrev TakesSome : Option CallForm → Type 0
  TakesSome None = Unit {0}
  TakesSome (Some form) = Takes form

  or_takes : (b : Bool) (form : CallForm) (other : Option CallForm) → Takes form → TakesSome other → TakesSome (cond {A = Option CallForm} b (Some form) other)
  or_takes true form other h g = h
  or_takes false form other h g = g

  some_takes : (b : Bool) (first other : Option CallForm) → TakesSome first → TakesSome other → TakesSome (cond {A = Option CallForm} b first other)
  some_takes true first other h g = h
  some_takes false first other h g = g

  list_takes : TakesSome (list_form limits)
  list_takes = by (has_list limits) refl
    where
      by : (b : Bool) → has_list limits ≡ b → TakesSome (cond {A = Option CallForm} b (Some (paths_and_count call.ListAfter)) None)
      by true has = λ p q n h g. (h, g, has)
      by false other = tt

  longer_takes : (w : Word) → TakesSome (longer_form_of limits w)
  longer_takes w =
      or_takes (bytes_eq w (codes "rename")) (two_paths call.Rename) _ (λ p q h g. (h, g))
      (or_takes (bytes_eq w (codes "exchange")) (two_paths call.Exchange) _ (λ p q h g. (h, g))
      (or_takes (bytes_eq w (codes "read")) (two_numbers call.Read) _ (λ p m n h. h)
      (or_takes (bytes_eq w (codes "write")) (number_and_bytes call.Write) _ (λ p n bytes h. h)
      (or_takes (bytes_eq w (codes "truncate")) (a_number call.Truncate) _ (λ p n h. h)
      (some_takes (bytes_eq w (codes "list")) (list_form limits) None list_takes tt)))))

  form_takes : (w : Word) → TakesSome (form_of limits w)
  form_takes w =
      or_takes (bytes_eq w (codes "mkdir")) (one_path call.Mkdir) _ (λ p h. h)
      (or_takes (bytes_eq w (codes "mknod")) (one_path call.Mknod) _ (λ p h. h)
      (or_takes (bytes_eq w (codes "unlink")) (one_path call.Unlink) _ (λ p h. h)
      (or_takes (bytes_eq w (codes "rmdir")) (one_path call.Rmdir) _ (λ p h. h)
      (or_takes (bytes_eq w (codes "stat")) (one_path call.Stat) _ (λ p h. h)
      (or_takes (bytes_eq w (codes "readdir")) (one_path call.Readdir) (longer_form_of limits w) (λ p h. h) (longer_takes w))))))

  -- the words behind the first
  one_given : (ws : List Word) → Given Short (one_path_of limits ws)
  one_given [] = tt
  one_given (p ∷ []) = path_given p
  one_given (p ∷ q ∷ ws) = tt

  two_given : (ws : List Word) → Given (λ (both : Key × Key). Short both.0 × Short both.1) (two_paths_of limits ws)
  two_given [] = tt
  two_given (p ∷ []) = tt
  two_given (p ∷ q ∷ []) = given_then Short _ (path_at limits p) _ (path_given p) (λ x h. given_then Short _ (path_at limits q) _ (path_given q) (λ y g. (h, g)))
  two_given (p ∷ q ∷ r ∷ ws) = tt

  both_given : (ws : List Word) → Given (λ (found : Key × Key × ℕ). Short found.0 × Short found.1) (paths_and_count_of limits ws)
  both_given [] = tt
  both_given (p ∷ []) = tt
  both_given (p ∷ q ∷ []) = tt
  both_given (p ∷ q ∷ n ∷ []) = given_then Short _ (path_at limits p) _ (path_given p) (λ x h. given_then Short _ (path_at limits q) _ (path_given q) (λ y g. any_then _ (count_at n) _ (λ count. (h, g))))
  both_given (p ∷ q ∷ n ∷ r ∷ ws) = tt

  number_given : (ws : List Word) → Given (λ (found : Key × ℕ). Short found.0) (a_number_of limits ws)
  number_given [] = tt
  number_given (p ∷ []) = tt
  number_given (p ∷ n ∷ []) = given_then Short _ (path_at limits p) _ (path_given p) (λ x h. any_then _ (number_at n) _ (λ size. h))
  number_given (p ∷ n ∷ r ∷ ws) = tt

  numbers_given : (ws : List Word) → Given (λ (found : Key × ℕ × ℕ). Short found.0) (two_numbers_of limits ws)
  numbers_given [] = tt
  numbers_given (p ∷ []) = tt
  numbers_given (p ∷ m ∷ []) = tt
  numbers_given (p ∷ m ∷ n ∷ []) = given_then Short _ (path_at limits p) _ (path_given p) (λ x h. any_then _ (number_at m) _ (λ off. any_then _ (number_at n) _ (λ count. h)))
  numbers_given (p ∷ m ∷ n ∷ r ∷ ws) = tt

  bytes_given : (ws : List Word) → Given (λ (found : Key × ℕ × List ℕ). Short found.0) (number_and_bytes_of limits ws)
  bytes_given [] = tt
  bytes_given (p ∷ []) = tt
  bytes_given (p ∷ n ∷ []) = tt
  bytes_given (p ∷ n ∷ b ∷ []) = given_then Short _ (path_at limits p) _ (path_given p) (λ x h. any_then _ (number_at n) _ (λ off. any_then _ (hex_at b) _ (λ bytes. h)))
  bytes_given (p ∷ n ∷ b ∷ r ∷ ws) = tt

  arguments_given : (form : CallForm) (ws : List Word) → Takes form → Given Shorts (arguments_at limits form ws)
  arguments_given (one_path make) ws takes = given_then Short Shorts (one_path_of limits ws) _ (one_given ws) takes
  arguments_given (two_paths make) ws takes = given_then _ Shorts (two_paths_of limits ws) _ (two_given ws) (λ both h. takes both.0 both.1 h.0 h.1)
  arguments_given (paths_and_count make) ws takes = given_then _ Shorts (paths_and_count_of limits ws) _ (both_given ws) (λ found h. takes found.0 found.1 found.2 h.0 h.1)
  arguments_given (a_number make) ws takes = given_then _ Shorts (a_number_of limits ws) _ (number_given ws) (λ found h. takes found.0 found.1 h)
  arguments_given (two_numbers make) ws takes = given_then _ Shorts (two_numbers_of limits ws) _ (numbers_given ws) (λ found h. takes found.0 found.1 found.2 h)
  arguments_given (number_and_bytes make) ws takes = given_then _ Shorts (number_and_bytes_of limits ws) _ (bytes_given ws) (λ found h. takes found.0 found.1 found.2 h)

  formed_given : (form : Option CallForm) (ws : List Word) → TakesSome form → Given Shorts (formed_call limits form ws)
  formed_given None ws takes = tt
  formed_given (Some form) ws takes = arguments_given form ws takes

  -- a call that words spell has paths that keep the limits, which have the call
  pub call_given : (ws : List Word) → Given (NamesCall (KeepsLimits limits) (IsTrue (has_list limits))) (call_of limits ws)
  unfolding call_of
  call_given [] = tt
  call_given (first ∷ more) = formed_given (form_of limits first) more (form_takes first)
