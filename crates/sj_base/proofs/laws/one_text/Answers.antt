use Rattle.std.proofs.Common.{ap, subst, sym}
use Rattle.sj_base.specs.Spelling.{Spells}
use Rattle.sj_base.specs.Text.{text}
use Rattle.sj_base.proofs.Meanings.{same_tree}
use Rattle.sj_base.proofs.Compact.{text_back}
use Rattle.sj_base.proofs.laws.one_text.Goals as goal

-- the one text spells both trees
pub returns : goal.returns
returns c = λ s t is_s is_t. ((λ e. same_tree (text s) s t (text_back s is_s) (subst (λ bs. Spells bs t) (sym e) (text_back t is_t))), (λ e. ap text e))
