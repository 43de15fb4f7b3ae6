use Rattle.std.proofs.Common.{◌≡◌, ◌++◌, refl, sym}
use Rattle.std.proofs.lemmas.List.{append-nil}
use Rattle.sj_base.specs.Buffer.{buffer_text}
use Rattle.read_bench.proofs.Texts.{text_of-empty, text_of-tree, on_ok}
use Rattle.read_bench.proofs.passes.print.Goals as goal

pub returns-then-is_empty : goal.returns-then-is_empty
returns-then-is_empty c =
    rw (text_of-empty c.args.tape.now (c.if-is_empty.ensures.0 refl)) (sym (append-nil (buffer_text c.args.out.now)))

pub returns : goal.returns
returns c = rw (text_of-tree c.args.tape.now _ c.as_value.ensures.tree) (on_ok (λ old new xs. buffer_text new ≡ buffer_text old ++ xs) _ _ _ _ _ c.print.ensures)
