-- What an answer says of linearizable histories.
use Rattle.std.proofs.Common.{◌≡◌, ℕ, List, Some, None, subst}
use Rattle.fs_calls.specs.Starts.{Start}
use Rattle.fs_linearize_histories.specs.Faults.{history_fault}
use Rattle.fs_linearize_histories.specs.declared.fault.HistoryFault.{HistoryFault}
use Rattle.fs_linearize_histories.specs.declared.heard.Heard.{Heard}
use Rattle.fs_linearize_histories.proofs.FaultLemmas.{explained_are_histories, faults_are_first}
use Rattle.fs_linearize_histories.proofs.LinearizableLemmas.{explained_are_linearizable}
use Rattle.fs_linearize.specs.Results.{IsHeardLinearizable}
use Rattle.fs_linearize.specs.code.Searched.{IsSearched}
use Rattle.fs_linearize.specs.declared.search.Searched.{Searched}
use Rattle.fs_linearize.specs.declared.search.Searched.TheVariants.{Ends, NoOrder, Limited}

pub fault_refuses : (start : Start) (h : List Heard) (fault : ℕ × HistoryFault) → history_fault h ≡ Some fault → IsHeardLinearizable start h → ⊥
fault_refuses start h fault is g =
    let found = (explained_are_linearizable start h).1 g in
    let none : history_fault h ≡ None = (faults_are_first.none h).1 (explained_are_histories start h found.0 found.1) in
    absurd (cc)

-- what was searched says so
abbrev pub TellsOf : Start → List Heard → Searched → Type 0
TellsOf start h (Ends steps) = IsHeardLinearizable start h
TellsOf start h (NoOrder place call) = IsHeardLinearizable start h → ⊥
TellsOf start h (Limited place) = Unit {0}

search_tells : (start : Start) (h : List Heard) (limit : ℕ) (found : Searched) → IsSearched start h limit found → TellsOf start h found
search_tells start h limit (Ends steps) x = (explained_are_linearizable start h).0 (x.0, x.1)
search_tells start h limit (NoOrder place call) x = λ g. let way = (explained_are_linearizable start h).1 g in x.0.whole way.0 way.1
search_tells start h limit (Limited place) x = tt

pub searched_tells : (start : Start) (h k : List Heard) (limit : ℕ) (found answer : Searched) → k ≡ h → IsSearched start k limit found → found ≡ answer → TellsOf start h answer
searched_tells start h k limit found answer same searched is =
    subst (TellsOf start h) is (search_tells start h limit found (subst (λ (x : List Heard). IsSearched start x limit found) same searched))
