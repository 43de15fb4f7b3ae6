-- Text is appended to a formatter piece by piece.
use Rattle.std.specs.Prelude.{⊤, ℕ, List, [], ◌++◌}
use Rattle.std.proofs.Common.{refl, ◌∙◌}
use Rattle.std.proofs.lemmas.Grind.{put_two}
use Rattle.sj_base.specs.Output.{Continues}
use Rattle.sj_owned.specs.Display.{Shows}
use Rattle.sj_owned.specs.declared.display.FormatterOutput.{FormatterOutput}

pub shows_continue : {W : Type 0} (took : W → List ℕ → W → Type 0) → Continues {S = FormatterOutput W} (Shows took) (λ old new bytes. ⊤)
shows_continue took = record {
  none = λ s. (refl, λ plain. record { wrote = record { parts = []; calls = refl; whole = refl }; plain = plain });
  then = λ s t u xs ys a b. (
    b.0 ∙ a.0,
    λ plain.
        let x = a.1 plain in
        put_two took s.formatter.now t.formatter.now u.formatter.now xs ys (xs ++ ys) x (b.1 x.plain) refl,
  );
  fails = λ s t u xs ys a b. tt;
  before = λ s t xs ys b. tt;
}
