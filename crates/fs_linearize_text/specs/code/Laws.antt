-- What is made of histories is honest.
use Rattle.std.proofs.Common.{ℕ, Bool, List, [], OnErr, subst, sym}
use Rattle.std.proofs.lemmas.Bool.{cond-true}
use Rattle.fs_linearize_dialects.specs.declared.dialect.Row.{Row}
use Rattle.fs_verdict.specs.Commands.{IsHonest, itself}
use Rattle.fs_verdict.specs.code.CommandLaws.{Refuses, by_reading}
use Rattle.fs_linearize_text.specs.Texts.{history_of}
use Rattle.fs_linearize_text.specs.Many.{histories_of}
use Rattle.fs_linearize_text.specs.Makes.{MakesFound, MakesMany, MakesLearned}

-- a text that is too long is no history
pub refuses : (rows : List Row) → Refuses (history_of rows)
refuses rows text long = cond-true _ _ _ long

-- and has none
pub refuses_many : (rows : List Row) → Refuses (histories_of rows)
refuses_many rows text long = cond-true _ _ _ long

pub history_honest : (rows : List Row) (limit : ℕ) (front : Bool) → IsHonest (λ input. MakesFound (history_of rows input) limit front) itself
history_honest rows limit front = by_reading (history_of rows) (refuses rows) (λ given. MakesFound given limit front)
    (λ f made is. subst (λ given. OnErr given ⊥) (sym is.ok.2) tt) (λ given fault is. is.fault)

pub many_honest : (rows : List Row) (limit : ℕ) → IsHonest (λ input. MakesMany (histories_of rows input) limit) itself
many_honest rows limit = by_reading (histories_of rows) (refuses_many rows) (λ given. MakesMany given limit)
    (λ f made is. subst (λ given. OnErr given ⊥) (sym is.ok.read) tt) (λ given fault is. is.fault)

pub learned_honest : IsHonest (λ input. MakesLearned (histories_of [] input)) itself
learned_honest = by_reading (histories_of []) (refuses_many []) MakesLearned
    (λ f made is. subst (λ given. OnErr given ⊥) (sym is.ok.read) tt) (λ given fault is. is.fault)
