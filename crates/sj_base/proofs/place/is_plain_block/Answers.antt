use Rattle.std.proofs.lemmas.Bool.{eqb-true}
use Rattle.sj_base.proofs.Blocks.{plain_block}
use Rattle.sj_base.proofs.place.is_plain_block.Goals as goal

pub returns : goal.returns
returns g c = λ none. plain_block c.args.text.now c.args.at g.row.N c.requires.within c.requires.lanes c.type_inv.text (eqb-true _ 0 none)
