-- Timelines with one more entry.
use Rattle.std.proofs.Common.{◌≡◌, List, [], ◌∷◌, ◌++◌, refl, sym, subst, append_assoc}
use Rattle.fs_timeline.specs.Timeline.{IsNext, IsAnswered, Each}
use Rattle.fs_timeline.specs.Laws.{LawfulWithoutTheLast, WellFormedAppended, LawfulAppended}
use Rattle.fs_timeline.specs.declared.entry.Entry.{Entry}

-- a list with nothing behind it
pub append_nil : {A : Type 0} (es : List A) → es ++ [] ≡ es
append_nil [] = refl
append_nil (e ∷ es) = let rest = append_nil es in cc

-- what each entry has, each has without the last
pub each_without_last : (P : List Entry → Entry → Type 0) (before es : List Entry) (last : Entry) → Each P before (es ++ last ∷ []) → Each P before es
each_without_last P before [] last h = tt
each_without_last P before (e ∷ es) last h = (h.0, each_without_last P (before ++ e ∷ []) es last h.1)

-- what each entry has, the last has
pub each_last : (P : List Entry → Entry → Type 0) (before es : List Entry) (last : Entry) → Each P before (es ++ last ∷ []) → P (before ++ es) last
each_last P before [] last h = subst (λ (b : List Entry). P b last) (sym (append_nil before)) h.0
each_last P before (e ∷ es) last h = subst (λ (b : List Entry). P b last) (append_assoc before (e ∷ []) es) (each_last P (before ++ e ∷ []) es last h.1)

-- what each entry has and one more has, each with that one has
pub each_push : (P : List Entry → Entry → Type 0) (before es : List Entry) (last : Entry) → Each P before es → P (before ++ es) last → Each P before (es ++ last ∷ [])
each_push P before [] last h here = (subst (λ (b : List Entry). P b last) (append_nil before) here, tt)
each_push P before (e ∷ es) last h here =
    (h.0, each_push P (before ++ e ∷ []) es last h.1 (subst (λ (b : List Entry). P b last) (sym (append_assoc before (e ∷ []) es)) here))

pub lawful_without_the_last : LawfulWithoutTheLast
lawful_without_the_last start es last h = record {
  well_formed = each_without_last IsNext [] es last h.well_formed;
  replies = each_without_last (IsAnswered start) [] es last h.replies;
}

pub well_formed_appended : WellFormedAppended
well_formed_appended es e =
    (λ h. (each_without_last IsNext [] es e h, each_last IsNext [] es e h), λ h. each_push IsNext [] es e h.0 h.1)

pub lawful_appended : LawfulAppended
lawful_appended start es e = (
  λ h. (lawful_without_the_last start es e h, each_last IsNext [] es e h.well_formed, each_last (IsAnswered start) [] es e h.replies),
  λ h. record { well_formed = each_push IsNext [] es e h.0.well_formed h.1; replies = each_push (IsAnswered start) [] es e h.0.replies h.2 },
)
