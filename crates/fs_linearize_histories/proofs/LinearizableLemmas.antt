-- What a timeline explains is what a linearizable history is heard as.
use Rattle.std.proofs.Common.{◌≡◌, List, [], ◌∷◌, length, refl, sym, ap, ◌∙◌, subst}
use Rattle.fs_timeline.specs.declared.entry.Entry.{Entry}
use Rattle.fs_timeline.specs.declared.entry.Entry.TheVariants.{Begin, Commit, Return}
use Rattle.fs_linearizable.specs.Linearizable.{history}
use Rattle.fs_linearizable.proofs.LawfulLemmas.{lawful_is_linearizable}
use Rattle.fs_linearizable.proofs.LinearizationLemmas.{linearizable_is_lawful}
use Rattle.fs_linearize_histories.specs.Heard.{AreHeardIn}
use Rattle.fs_linearize_histories.specs.Laws.{ExplainedAreLinearizable}

pub explained_are_linearizable : ExplainedAreLinearizable
explained_are_linearizable start h = (
  λ x. (history x.0, lawful_is_linearizable start x.0 x.1.lawful, x.1.heard_as, x.1.whole),
  λ x.
      let found = (linearizable_is_lawful start x.0).0 x.1 in (
        found.0,
        record {
          lawful = found.1;
          heard_as = subst (λ (g : List Entry). AreHeardIn g h) (sym found.2) x.2;
          whole = ap length found.2 ∙ x.3;
        },
      ),
)
