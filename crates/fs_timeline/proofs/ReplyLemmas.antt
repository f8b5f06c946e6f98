-- Two replies are the same exactly where they are equal.
use Rattle.std.proofs.Common.{◌≡◌, ℕ, Bool, true, ◌==◌, List, [], ◌∷◌, if◌then◌else◌, nat_eq, refl, sym, ap, ◌∙◌}
use Rattle.std.proofs.lemmas.Bool.{eqb-true, eq-eqb, and_parts, and_from}
use lib.Pointwise.{pointwise}
use Rattle.fs_names.specs.declared.kind.Kind.{Kind}
use Rattle.fs_names.specs.declared.kind.Kind.TheVariants as kind
use Rattle.fs_names.specs.Names.{same_bytes}
use Rattle.fs_calls.specs.Replies.{same_kind, number_of, same_reply}
use Rattle.fs_calls.specs.declared.errno.Errno.{Errno}
use Rattle.fs_calls.specs.declared.errno.Errno.TheVariants.{Enoent, Enotdir, Eexist, Enotempty, Eisdir, Einval, Ebusy, Eperm, Enospc, Efbig, Eoverflow}
use Rattle.fs_calls.specs.declared.reply.Reply.{Reply}
use Rattle.fs_calls.specs.declared.reply.Reply.TheVariants.{Done, Stat, Names, Bytes, Wrote, Failed}

-- lists are equal where their elements are, one by one
pointwise_exact : {A : Type 0} (E : A → A → Bool) → ((x y : A) → E x y ≡ true → x ≡ y) → (xs ys : List A) → pointwise E xs ys ≡ true → xs ≡ ys
pointwise_exact E exact [] [] h = refl
pointwise_exact E exact [] (y ∷ ys) h = absurd (cc)
pointwise_exact E exact (x ∷ xs) [] h = absurd (cc)
pointwise_exact E exact (x ∷ xs) (y ∷ ys) h =
    let parts = and_parts (E x y) (pointwise E xs ys) h in
    let here = exact x y parts.0 in
    let rest = pointwise_exact E exact xs ys parts.1 in
    cc

pointwise_refl : {A : Type 0} (E : A → A → Bool) → ((x : A) → E x x ≡ true) → (xs : List A) → pointwise E xs xs ≡ true
pointwise_refl E same [] = refl
pointwise_refl E same (x ∷ xs) = and_from _ _ (same x) (pointwise_refl E same xs)

same_bytes_exact : (xs ys : List ℕ) → same_bytes xs ys ≡ true → xs ≡ ys
same_bytes_exact = pointwise_exact nat_eq eqb-true

same_bytes_refl : (xs : List ℕ) → same_bytes xs xs ≡ true
same_bytes_refl = pointwise_refl nat_eq (λ x. eq-eqb x x refl)

same_kind_exact : (a b : Kind) → same_kind a b ≡ true → a ≡ b
same_kind_exact kind.Dir kind.Dir h = refl
same_kind_exact kind.Dir kind.File h = absurd (cc)
same_kind_exact kind.File kind.Dir h = absurd (cc)
same_kind_exact kind.File kind.File h = refl

same_kind_refl : (a : Kind) → same_kind a a ≡ true
same_kind_refl kind.Dir = refl
same_kind_refl kind.File = refl

-- the error of a number
error_of : ℕ → Errno
error_of n =
    if n == 1 then Enoent else
    if n == 2 then Enotdir else
    if n == 3 then Eexist else
    if n == 4 then Enotempty else
    if n == 5 then Eisdir else
    if n == 6 then Einval else
    if n == 7 then Ebusy else
    if n == 8 then Eperm else
    if n == 9 then Enospc else
    if n == 10 then Efbig else Eoverflow

error_of-number_of : (e : Errno) → error_of (number_of e) ≡ e
unfolding error_of
error_of-number_of Enoent = refl
error_of-number_of Enotdir = refl
error_of-number_of Eexist = refl
error_of-number_of Enotempty = refl
error_of-number_of Eisdir = refl
error_of-number_of Einval = refl
error_of-number_of Ebusy = refl
error_of-number_of Eperm = refl
error_of-number_of Enospc = refl
error_of-number_of Efbig = refl
error_of-number_of Eoverflow = refl

number_of_exact : (e f : Errno) → number_of e ≡ number_of f → e ≡ f
number_of_exact e f h = sym (error_of-number_of e) ∙ ap error_of h ∙ error_of-number_of f

-- replies that are the same are equal
pub same_reply_exact : (a b : Reply) → same_reply a b ≡ true → a ≡ b
same_reply_exact Done Done h = refl
same_reply_exact (Stat k n) (Stat l m) h =
    let parts = and_parts (same_kind k l) (n == m) h in
    let kinds = same_kind_exact k l parts.0 in
    let sizes = eqb-true n m parts.1 in
    cc
same_reply_exact (Names xs) (Names ys) h = ap Names (pointwise_exact same_bytes same_bytes_exact xs ys h)
same_reply_exact (Bytes xs) (Bytes ys) h = ap Bytes (same_bytes_exact xs ys h)
same_reply_exact (Wrote n) (Wrote m) h = ap Wrote (eqb-true n m h)
same_reply_exact (Failed e) (Failed f) h = ap Failed (number_of_exact e f (eqb-true _ _ h))
same_reply_exact _ _ h = absurd (cc)

-- a reply is the same as itself
pub same_reply_refl : (a : Reply) → same_reply a a ≡ true
same_reply_refl Done = refl
same_reply_refl (Stat k n) = and_from _ _ (same_kind_refl k) (eq-eqb n n refl)
same_reply_refl (Names xs) = pointwise_refl same_bytes same_bytes_refl xs
same_reply_refl (Bytes xs) = same_bytes_refl xs
same_reply_refl (Wrote n) = eq-eqb n n refl
same_reply_refl (Failed e) = eq-eqb _ _ refl
