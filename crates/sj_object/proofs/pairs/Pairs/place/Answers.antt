use Rattle.std.proofs.Common.{sym, ◌∙◌, rules, tests}
use Rattle.std.specs.Prelude.{bytes_eq}
use Rattle.std.proofs.lemmas.Iterator.{YieldsList-from_slice}
use Rattle.std.proofs.lemmas.Iterator.Search.{position_from_yields_List}
use Rattle.sj_object.proofs.Places.{place_of-position}
use Rattle.sj_object.proofs.pairs.Pairs.place.Goals as goal

pub returns-in-Listed : goal.returns-in-Listed
returns-in-Listed g c =
    let key = c.args.key.now in
    rw c.in-Listed.is (
    position_from_yields_List (λ e. bytes_eq (g.K.ObjectKey.text e.key) key) _ _ _ c.position.ensures.ran (YieldsList-from_slice c.in-Listed.entries.items cc) (λ x b q k. search (rules, tests))
    ∙ sym (place_of-position g.K.ObjectKey.text key c.in-Listed.entries.items))
