-- The first fault of a history, entry by entry.
use Rattle.std.proofs.Common.{◌≡◌, ℕ, suc, ◌<◌, ◌≤◌, ◌+◌, List, ◌∷◌, length, take, drop, get_or, Some, None, sym, ap, ◌∙◌, arith}
use Rattle.std.proofs.lemmas.List.{drop_all}
use Rattle.std.proofs.Math.Seq.{drop-cons}
use Rattle.fs_names.specs.Failures.{or_else}
use Rattle.fs_timeline.specs.declared.entry.Entry.{Entry}
use Rattle.fs_linearize_histories.specs.declared.heard.Heard.{Heard}
use Rattle.fs_linearize_histories.specs.declared.fault.HistoryFault.{HistoryFault}
use Rattle.fs_linearize_histories.specs.Heard.{entries}
use Rattle.fs_linearize_histories.specs.Faults.{heard_fault, fault_at, fault_from, history_fault}
use Rattle.fs_linearize_configurations.proofs.HeardLemmas.{entries_more}

-- the first fault among those that are left
fault_split : (h : List Heard) (i : ℕ) (x : Heard) → i < length h → x ≡ get_or h i x
    → fault_from (entries (take i h)) (i + 1) (drop i h) ≡ or_else (fault_at (i + 1) (heard_fault (entries (take i h)) x)) (fault_from (entries (take (i + 1) h)) (i + 1 + 1) (drop (i + 1) h))
fault_split h i x small is =
    let next : suc i ≡ i + 1 = omega arith in
    let rest : drop i h ≡ x ∷ drop (i + 1) h = drop-cons h i x small ∙ ap (λ y. y ∷ drop (suc i) h) (sym is) ∙ ap (λ n. x ∷ drop n h) next in
    ap (fault_from (entries (take i h)) (i + 1)) rest
    ∙ ap (λ (es : List Entry). or_else (fault_at (i + 1) (heard_fault (entries (take i h)) x)) (fault_from es (i + 1 + 1) (drop (i + 1) h))) (sym (entries_more h i x small is))

pub fault_here : (h : List Heard) (i : ℕ) (x : Heard) (kind : HistoryFault) → i < length h → x ≡ get_or h i x → fault_from (entries (take i h)) (i + 1) (drop i h) ≡ history_fault h → heard_fault (entries (take i h)) x ≡ Some kind → Some (i + 1, kind) ≡ history_fault h
fault_here h i x kind small is so found = sym (sym so ∙ fault_split h i x small is ∙ ap (λ o. or_else (fault_at (i + 1) o) (fault_from (entries (take (i + 1) h)) (i + 1 + 1) (drop (i + 1) h))) found)

pub fault_later : (h : List Heard) (i : ℕ) (x : Heard) → i < length h → x ≡ get_or h i x → fault_from (entries (take i h)) (i + 1) (drop i h) ≡ history_fault h → heard_fault (entries (take i h)) x ≡ None
    → fault_from (entries (take (i + 1) h)) (i + 1 + 1) (drop (i + 1) h) ≡ history_fault h
fault_later h i x small is so none = sym (fault_split h i x small is ∙ ap (λ o. or_else (fault_at (i + 1) o) (fault_from (entries (take (i + 1) h)) (i + 1 + 1) (drop (i + 1) h))) none) ∙ so

pub fault_never : (h : List Heard) (i : ℕ) → length h ≤ i → fault_from (entries (take i h)) (i + 1) (drop i h) ≡ history_fault h → None ≡ history_fault h
fault_never h i past so = sym (ap (fault_from (entries (take i h)) (i + 1)) (drop_all i h past)) ∙ so
