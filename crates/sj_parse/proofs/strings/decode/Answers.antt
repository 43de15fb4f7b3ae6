use Rattle.std.specs.Prelude.{ℕ, List}
use Rattle.std.proofs.Common.{◌∙◌, sym, arith, subst}
use Rattle.std.proofs.lemmas.List.{take_all}
use Rattle.std.specs.Prelude.{IsUtf8}
use Rattle.sj_parse.proofs.Decoding.{decoding_starts, decoding_ends}
use Rattle.sj_parse.proofs.StringLemmas.{IsUtf8-decoded}
use Rattle.sj_parse.proofs.strings.decode.Goals as goal

pub returns-then-plain-body : goal.returns-then-plain-body
returns-then-plain-body c =
    let d = decoding_starts c.args.place c.args.plain c.args.body.now c.requires.within c.requires.none in
    let ends = decoding_ends c.args.place c.args.plain c.args.plain c.args.body.now c.args.body.now d (omega arith) in
    (ends.0, c.from_utf8_unchecked.ensures ∙ sym (take_all c.args.plain c.args.body.now (omega arith)) ∙ ends.1)

pub from_utf8_unchecked-requires-2 : goal.from_utf8_unchecked-requires-2
from_utf8_unchecked-requires-2 c =
    let p = c.in_ok-len.ensures in
    subst (λ (xs : List ℕ). IsUtf8 xs) (sym p.2) (IsUtf8-decoded c.args.body.now c.requires.utf8 c.args.place p.1)
