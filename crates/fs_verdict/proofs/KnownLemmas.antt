-- Known bytes over several calls.
use Rattle.std.proofs.Common.{◌≡◌, ℕ, ◌+◌, ◌-◌, ◌<◌, ◌≤◌, true, false, inl, inr, List, ◌++◌, length, take, drop, Option, Some, None, Result, Ok, Err, sym, ap, ◌∙◌, subst, append_assoc, arith, length-drop, length-append, append-nil}
use Rattle.std.proofs.Math.Seq.{take-add}
use Rattle.std.proofs.lemmas.List.{take_all}
use Rattle.std.specs.Prelude.{IfSome, IfOk}
use Rattle.std.specs.Io.KnownBytes.{Appends, Consumes, IsAtEnd}
use Rattle.std.proofs.lemmas.Bool.{cases_Bool, ltb-true, lt-ltb}
use Rattle.fs_words.specs.Headers.{limit_of_text, is_too_long}
use Rattle.fs_words.proofs.HeaderLemmas.{least_of_text, same_limit}
use Rattle.fs_verdict.specs.Devices.{IsSameText}

pub Appends_more : (a b c : Option (List ℕ)) (bs cs : List ℕ) → Appends a b bs → Appends b c cs → Appends a c (bs ++ cs)
Appends_more None b c bs cs p q = tt
Appends_more (Some x) None c bs cs p q = absurd p
Appends_more (Some x) (Some y) None bs cs p q = absurd q
Appends_more (Some x) (Some y) (Some z) bs cs p q = q ∙ ap (λ l. l ++ cs) p ∙ append_assoc x bs cs

-- one more piece of a text that is written from its front
pub Appends_piece : (a b c : Option (List ℕ)) (text : List ℕ) (at n : ℕ) → Appends a b (take at text) → Appends b c (take n (drop at text)) → Appends a c (take (at + n) text)
Appends_piece a b c text at n p q = subst (Appends a c) (sym (take-add at n text)) (Appends_more a b c _ _ p q)

pub take_rest : (text : List ℕ) (at : ℕ) → take (length text - at) (drop at text) ≡ drop at text
take_rest text at = take_all (length text - at) (drop at text) (omega (arith, length-drop at text))

-- ---- a text that is read

-- what is longer than its first line allows is the beginning of what is too long as well
beginning_too_long : (text more : List ℕ) → is_too_long text ≡ true → is_too_long (text ++ more) ≡ true
beginning_too_long text more long =
    let past : limit_of_text text < length text = ltb-true _ _ long in
    let least : 16777216 ≤ limit_of_text text = least_of_text text in
    let same : limit_of_text (text ++ more) ≡ limit_of_text text = same_limit text more (omega (arith, past, least)) in
    let longer : length (text ++ more) ≡ length text + length more = length-append text more in
    lt-ltb _ _ (omega (arith, past, same, longer))

-- a text that was read to the end, or to where it is too long, is the input as such
pub text_read : (old new : Option (List ℕ)) (text : List ℕ) → Consumes old new text → (is_too_long text ≡ false → IsAtEnd new) → IfSome old (IsSameText text)
text_read None new text took end = tt
text_read (Some input) None text took end = absurd took
text_read (Some input) (Some rest) text took end = elim (cases_Bool (is_too_long text)) [
  | inl long ↦ inr (long, ap is_too_long took ∙ beginning_too_long text rest long)
  | inr short ↦ inl (sym (took ∙ ap (λ (z : List ℕ). text ++ z) (end short) ∙ append-nil text))
]

pub text_made : {V E : Type 0} (items : V → List ℕ) (old new : Option (List ℕ)) (result : Result V E) → IfOk result (λ v. Consumes old new (items v)) → IfOk result (λ v. is_too_long (items v) ≡ false → IsAtEnd new) → IfOk result (λ v. IfSome old (IsSameText (items v)))
text_made items old new (Ok v) took end = text_read old new (items v) took end
text_made items old new (Err e) took end = tt
