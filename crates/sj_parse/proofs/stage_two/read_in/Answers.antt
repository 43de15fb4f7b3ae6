use denote.Enum.Bare.{same_true}
use Rattle.std.proofs.Common.{◌≢◌, rules, sym, ◌∙◌, subst}
use Rattle.sj_parse.specs.contracts.stage_two.State.{the_type}
use Rattle.sj_parse.specs.declared.stage_two.State.{State}
use Rattle.sj_parse.specs.inside.Underway.{Underway}
use Rattle.sj_parse.proofs.stage_two.read_in.Goals as goal

pub returns-then-eq-clause-reads : goal.returns-then-eq-clause-reads
returns-then-eq-clause-reads c = λ input read u.
    let same = same_true the_type (search rules) _ _ (sym c.eq.ensures ∙ c.if-eq.true) in
    c.read_token.ensures.reads input read (subst (λ (s : State). Underway input c.args.limit read c.args.places.now s c.args.cursor.now c.args.nodes.now c.args.stack.now) same u)

pub returns-else-eq-clause-takes : goal.returns-else-eq-clause-takes
returns-else-eq-clause-takes c = λ is.
    let other : c.args.state.now ≢ c.args.expected = search rules in absurd (other is)
