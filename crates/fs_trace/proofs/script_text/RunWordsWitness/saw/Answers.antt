use Rattle.std.proofs.Common.{◌≡◌, ◌+◌, ◌≤◌, ◌<◌, Result, Ok, Err, OnOk, sym, ◌∙◌, arith}
use Rattle.std.proofs.lemmas.Bool.{ltb-true, ltb-false}
use Rattle.fs_script.specs.declared.limits.TheConstants.{EVENT_LIMIT}
use Rattle.fs_script.specs.Limits.{events_in}
use Rattle.fs_trace.specs.Traces.{busy_word}
use Rattle.fs_trace.specs.declared.script_text.RunWords.{RunWords}
use Rattle.fs_trace.proofs.Playing.{moment_past, moment_more}
use Rattle.fs_trace.proofs.script_text.RunWordsWitness.saw.Goals as goal

on_both : {X E A B C : Type 0} (r : Result X E) → (A → B → C) → OnOk r A → OnOk r B → OnOk r C
on_both (Ok x) f a b = f a b
on_both (Err e) f a b = tt

pub returns-then-are_too_many : goal.returns-then-are_too_many
returns-then-are_too_many c =
    let many : EVENT_LIMIT < c.saturating_add-self.result = ltb-true _ _ (sym c.are_too_many.ensures ∙ c.if-are_too_many.true) in
    let one : c.events_of.result ≡ events_in (busy_word c.args.moment) = c.events_of.ensures in
    let most : c.saturating_add-self.result ≤ c.args.self.now.events + events_in (busy_word c.args.moment) = omega (arith, one, c.saturating_add-self.ensures) in
    let new : RunWords = record { words = c.args.self.now.words; events = c.saturating_add-self.result } in record {
      told = λ first before told. moment_past c.args.self.now new before c.args.moment told most many;
    }

pub returns : goal.returns
returns c =
    let few : c.saturating_add-self.result ≤ EVENT_LIMIT = ltb-false _ _ (sym c.are_too_many.ensures ∙ c.if-are_too_many.false) in
    let one : c.events_of.result ≡ events_in (busy_word c.args.moment) = c.events_of.ensures in
    let sum : c.saturating_add-self.result ≡ c.args.self.now.events + events_in (busy_word c.args.moment) = omega (arith, few, one, c.saturating_add-self.ensures) in
    let new : RunWords = record { words = c.push_moment.new.words; events = c.saturating_add-self.result } in record {
      told = λ first before told. on_both c.push_moment.result (λ given timed. moment_more c.args.self.now new before c.args.moment told given timed sum few) c.push_moment.ensures.given c.push_moment.ensures.timed;
    }
