-- What a pass prints.
use Rattle.std.specs.Prelude.{ℕ, List, []}
use Rattle.std.specs.Option.{option_map_or}
use Rattle.sj_base.specs.Text.{text}
use Rattle.sj_tape.specs.Views.{tape_tree}
use Rattle.sj_tape.specs.declared.tape.Tape.{Tape}

-- the compact text of the document, or nothing where there is none
unfoldable pub text_of : Tape → List ℕ
text_of tape = option_map_or text (tape_tree tape) []
