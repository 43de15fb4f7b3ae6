-- Documents in the form `Lazy`.
use Rattle.std.specs.Prelude.{◌≡◌, ◌||◌, true}
use Rattle.sj_lazy.specs.Contents.{Value, contents, is_tape}
use Rattle.sj_lazy.specs.Views.{lazy_tree}
use Rattle.sj_scripts.specs.inside.KeptValues.{is_kept}

-- The value is a part of a tape, or no object in it repeats a key.
abbrev pub RepeatsNoKey : Value → Type 0
RepeatsNoKey v = (is_tape (contents v) || is_kept (lazy_tree v)) ≡ true
