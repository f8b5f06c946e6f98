-- What is made of a history is honest.
use Rattle.std.proofs.Common.{ℕ, List, OnErr, subst, sym}
use Rattle.fs_linearize_dialects.specs.declared.dialect.Row.{Row}
use Rattle.fs_verdict.specs.Commands.{IsHonest, itself}
use Rattle.fs_verdict.specs.code.CommandLaws.{by_reading}
use Rattle.fs_linearize_text.specs.Texts.{history_of}
use Rattle.fs_linearize_text.specs.code.Laws.{refuses}
use Rattle.fs_linearize_minimal.specs.Makes.{MakesMinimal}

pub minimal_honest : (rows : List Row) (limit : ℕ) → IsHonest (λ input. MakesMinimal (history_of rows input) limit) itself
minimal_honest rows limit = by_reading (history_of rows) (refuses rows) (λ given. MakesMinimal given limit)
    (λ f made is. subst (λ given. OnErr given ⊥) (sym is.ok.1) tt) (λ given fault is. is.fault)
