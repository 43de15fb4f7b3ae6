use denote.Enum.Bare.{same_true}
use Rattle.std.proofs.Common.{sym, ◌∙◌, arith, rules, length, ap, subst}
use Rattle.sj_parse.specs.contracts.stage_two.State.{the_type}
use Rattle.sj_parse.specs.declared.stage_two.State.{State}
use Rattle.sj_parse.specs.inside.Underway.{Underway}
use Rattle.sj_parse.proofs.stage_two.read_root.Goals as goal

pub read_in-requires-clause-at : goal.read_in-requires-clause-at
read_in-requires-clause-at c = let at = c.requires.at in (at.0, at.1, c.loop-state.invariant.0 at.0 at.1 at.2)

pub read_in-requires-in-loop-state-clause-at : goal.read_in-requires-in-loop-state-clause-at
read_in-requires-in-loop-state-clause-at c =
    let at = c.requires.at in
    (at.0, at.1, c.in_ok-read_in.ensures.reads at.0 at.1 (c.loop-state.invariant.0 at.0 at.1 at.2))

pub read_in-requires-in-loop-state-2-clause-at : goal.read_in-requires-in-loop-state-2-clause-at
read_in-requires-in-loop-state-2-clause-at c =
    let at = c.requires.at in
    let comma = c.in_ok-read_in.ensures in
    let key = c.in_ok-read_in-2.ensures in
    (at.0, at.1, key.reads at.0 at.1 (comma.reads at.0 at.1 (c.loop-state.invariant.0 at.0 at.1 at.2)))

pub read_in-requires-in-loop-state-3-clause-at : goal.read_in-requires-in-loop-state-3-clause-at
read_in-requires-in-loop-state-3-clause-at c =
    let at = c.requires.at in
    let comma = c.in_ok-read_in.ensures in
    let key = c.in_ok-read_in-2.ensures in
    let colon = c.in_ok-read_in-3.ensures in
    (at.0, at.1, colon.reads at.0 at.1 (key.reads at.0 at.1 (comma.reads at.0 at.1 (c.loop-state.invariant.0 at.0 at.1 at.2))))

pub returns-then-eq-clause-reads : goal.returns-then-eq-clause-reads
returns-then-eq-clause-reads c = λ input read underway.
    let comma = c.in_ok-read_in.ensures in
    let key = c.in_ok-read_in-2.ensures in
    let colon = c.in_ok-read_in-3.ensures in
    let item = c.in_ok-read_in-4.ensures in
    let now = c.read_in-in-loop-state-3.new in
    let same = same_true the_type (search rules) _ _ (sym c.eq.ensures ∙ c.if-eq.true) in
    let in_state = subst (λ (s : State). Underway input c.args.limit read now.places s now.cursor now.nodes now.stack) same in
    in_state (item.reads input read (colon.reads input read (key.reads input read (comma.reads input read (c.loop-state.invariant.0 input read underway)))))

pub read_token-requires-clause-at : goal.read_token-requires-clause-at
read_token-requires-clause-at c =
    let at = c.requires.at in
    let input = at.0 in
    let read = at.1 in
    let underway = at.2 in
    let comma = c.in_ok-read_in.ensures in
    let key = c.in_ok-read_in-2.ensures in
    let colon = c.in_ok-read_in-3.ensures in
    let item = c.in_ok-read_in-4.ensures in
    let now = c.read_in-in-loop-state-3.new in
    let same = same_true the_type (search rules) _ _ (sym c.eq-in-loop-state.ensures ∙ c.if-eq-2.true) in
    let in_state = subst (λ (s : State). Underway input c.args.limit read now.places s now.cursor now.nodes now.stack) same in
    (input, read, in_state (item.reads input read (colon.reads input read (key.reads input read (comma.reads input read (c.loop-state.invariant.0 input read underway))))))

pub loop-state-smaller-in-Continue-branch-5 : goal.loop-state-smaller-in-Continue-branch-5
loop-state-smaller-in-Continue-branch-5 c =
    let at = c.requires.at in
    let input = at.0 in
    let read = at.1 in
    let underway = at.2 in
    let comma = c.in_ok-read_in.ensures in
    let key = c.in_ok-read_in-2.ensures in
    let colon = c.in_ok-read_in-3.ensures in
    let item = c.in_ok-read_in-4.ensures in
    let token = c.in_ok-read_token.ensures in
    let now = c.read_in-in-loop-state-3.new in
    let same = same_true the_type (search rules) _ _ (sym c.eq-in-loop-state.ensures ∙ c.if-eq-2.true) in
    let in_state = subst (λ (s : State). Underway input c.args.limit read now.places s now.cursor now.nodes now.stack) same in
    let after = token.reads input read (in_state (item.reads input read (colon.reads input read (key.reads input read (comma.reads input read (c.loop-state.invariant.0 input read underway)))))) in
    let within = after.within in
    let same = ap length (token.items ∙ item.items ∙ colon.items ∙ key.items ∙ comma.items ∙ c.loop-state.invariant.1) in
    let one = comma.count in
    let two = key.count in
    let three = colon.count in
    let four = item.count in
    let five = token.count in omega arith

pub loop-state-preserved-in-Continue-branch-5 : goal.loop-state-preserved-in-Continue-branch-5
loop-state-preserved-in-Continue-branch-5 c =
    let comma = c.in_ok-read_in.ensures in
    let key = c.in_ok-read_in-2.ensures in
    let colon = c.in_ok-read_in-3.ensures in
    let item = c.in_ok-read_in-4.ensures in
    let token = c.in_ok-read_token.ensures in (
      λ input read underway.
          let now = c.read_in-in-loop-state-3.new in
          let same = same_true the_type (search rules) _ _ (sym c.eq-in-loop-state.ensures ∙ c.if-eq-2.true) in
          let in_state = subst (λ (s : State). Underway input c.args.limit read now.places s now.cursor now.nodes now.stack) same in
          token.reads input read (in_state (item.reads input read (colon.reads input read (key.reads input read (comma.reads input read (c.loop-state.invariant.0 input read underway)))))),
      token.items ∙ item.items ∙ colon.items ∙ key.items ∙ comma.items ∙ c.loop-state.invariant.1,
      token.room.0 ∙ item.room.0 ∙ colon.room.0 ∙ key.room.0 ∙ comma.room.0 ∙ c.loop-state.invariant.2,
      token.room.1 ∙ item.room.1 ∙ colon.room.1 ∙ key.room.1 ∙ comma.room.1 ∙ c.loop-state.invariant.3,
    )

pub read_token-requires-else-eq-2-clause-at : goal.read_token-requires-else-eq-2-clause-at
read_token-requires-else-eq-2-clause-at c =
    let at = c.requires.at in
    let input = at.0 in
    let read = at.1 in
    let underway = at.2 in
    let comma = c.in_ok-read_in.ensures in
    let key = c.in_ok-read_in-2.ensures in
    let colon = c.in_ok-read_in-3.ensures in
    let item = c.in_ok-read_in-4.ensures in
    (input, read, item.reads input read (colon.reads input read (key.reads input read (comma.reads input read (c.loop-state.invariant.0 input read underway)))))

pub loop-state-smaller : goal.loop-state-smaller
loop-state-smaller c =
    let at = c.requires.at in
    let input = at.0 in
    let read = at.1 in
    let underway = at.2 in
    let comma = c.in_ok-read_in.ensures in
    let key = c.in_ok-read_in-2.ensures in
    let colon = c.in_ok-read_in-3.ensures in
    let item = c.in_ok-read_in-4.ensures in
    let token = c.in_ok-read_token-2.ensures in
    let after = token.reads input read (item.reads input read (colon.reads input read (key.reads input read (comma.reads input read (c.loop-state.invariant.0 input read underway))))) in
    let within = after.within in
    let same = ap length (token.items ∙ item.items ∙ colon.items ∙ key.items ∙ comma.items ∙ c.loop-state.invariant.1) in
    let one = comma.count in
    let two = key.count in
    let three = colon.count in
    let four = item.count in
    let five = token.count in omega arith

pub loop-state-preserved : goal.loop-state-preserved
loop-state-preserved c =
    let comma = c.in_ok-read_in.ensures in
    let key = c.in_ok-read_in-2.ensures in
    let colon = c.in_ok-read_in-3.ensures in
    let item = c.in_ok-read_in-4.ensures in
    let token = c.in_ok-read_token-2.ensures in (
      λ input read underway. token.reads input read (item.reads input read (colon.reads input read (key.reads input read (comma.reads input read (c.loop-state.invariant.0 input read underway))))),
      token.items ∙ item.items ∙ colon.items ∙ key.items ∙ comma.items ∙ c.loop-state.invariant.1,
      token.room.0 ∙ item.room.0 ∙ colon.room.0 ∙ key.room.0 ∙ comma.room.0 ∙ c.loop-state.invariant.2,
      token.room.1 ∙ item.room.1 ∙ colon.room.1 ∙ key.room.1 ∙ comma.room.1 ∙ c.loop-state.invariant.3,
    )
