use Rattle.std.proofs.Common.{◌≡◌, ℕ, ◌+◌, ◌-◌, ◌*◌, length, true, false, drop, bytes_eq, sym, ◌∙◌, arith, subst}
use Rattle.sj_base.specs.Reads.{reads_items}
use Rattle.sj_tape.specs.Nodes.{node_count}
use Rattle.sj_tape.proofs.Finding.{MembersFrom, member_at_place, read_back, count_read, key_read, no_more, two_more, found_here, found_further}
use Rattle.sj_tape.proofs.find.find.Goals as goal

pub returns-in_err-text : goal.returns-in_err-text
returns-in_err-text c =
    let m = member_at_place c.loop-left.left (reads_items c.args.nodes.now) c.loop-left.at c.loop-left.invariant.members c.loop-left-test.true in
    let read = read_back _ _ _ _ _ c.in_err-text.ensures.item c.loop-left.invariant.items m.key_is in
    absurd (cc)

pub returns-in_default : goal.returns-in_default
returns-in_default c =
    let m = member_at_place c.loop-left.left (reads_items c.args.nodes.now) c.loop-left.at c.loop-left.invariant.members c.loop-left-test.true in
    let read = read_back _ _ _ _ _ c.in_ok-text.ensures.item c.loop-left.invariant.items m.key_is in
    absurd (c.in_default.not-String m.key (cc))

pub overflow_add-start : goal.overflow_add-start
overflow_add-start c =
    let m = member_at_place c.loop-left.left (reads_items c.args.nodes.now) c.loop-left.at c.loop-left.invariant.members c.loop-left-test.true in
    omega (arith, m.fits, c.args.nodes.now.fits)

pub overflow_add-end : goal.overflow_add-end
overflow_add-end c =
    let m = member_at_place c.loop-left.left (reads_items c.args.nodes.now) c.loop-left.at c.loop-left.invariant.members c.loop-left-test.true in
    omega (arith, m.fits, c.args.nodes.now.fits)

pub returns-in_err-at : goal.returns-in_err-at
returns-in_err-at c =
    let m = member_at_place c.loop-left.left (reads_items c.args.nodes.now) c.loop-left.at c.loop-left.invariant.members c.loop-left-test.true in
    let read = read_back _ _ _ _ _ c.in_err-at.ensures.item (c.at.ensures.items ∙ c.loop-left.invariant.items) m.first_is in
    absurd (cc)

pub overflow_add-end-in-loop-left : goal.overflow_add-end-in-loop-left
overflow_add-end-in-loop-left c =
    let m = member_at_place c.loop-left.left (reads_items c.args.nodes.now) c.loop-left.at c.loop-left.invariant.members c.loop-left-test.true in
    let count : c.count.result ≡ node_count m.first = (count_read _ _ _ _ _ _ c.in_ok-at.ensures.item (c.at.ensures.items ∙ c.loop-left.invariant.items) m.first_is c.count.ensures) in
    omega (arith, m.fits, count, c.args.nodes.now.fits)

pub returns-then-eq-clause-found : goal.returns-then-eq-clause-found
returns-then-eq-clause-found c =
    let m = member_at_place c.loop-left.left (reads_items c.args.nodes.now) c.loop-left.at c.loop-left.invariant.members c.loop-left-test.true in
    let same : bytes_eq m.key.now c.args.key.now ≡ true = (key_read _ _ _ _ _ _ _ _ c.in_ok-text.ensures.item c.loop-left.invariant.items m.key_is c.in-String.is) (sym c.eq.ensures ∙ c.if-eq.true) in
    found_here _ _ _ m c.args.key.now same c.count.result (count_read _ _ _ _ _ _ c.in_ok-at.ensures.item (c.at.ensures.items ∙ c.loop-left.invariant.items) m.first_is c.count.ensures) ∙ c.loop-left.invariant.found

pub returns-then-eq-clause-within : goal.returns-then-eq-clause-within
returns-then-eq-clause-within c =
    let m = member_at_place c.loop-left.left (reads_items c.args.nodes.now) c.loop-left.at c.loop-left.invariant.members c.loop-left-test.true in
    let count : c.count.result ≡ node_count m.first = (count_read _ _ _ _ _ _ c.in_ok-at.ensures.item (c.at.ensures.items ∙ c.loop-left.invariant.items) m.first_is c.count.ensures) in
    (omega arith, omega (arith, m.fits, count))

pub returns-then-eq-clause-reads : goal.returns-then-eq-clause-reads
returns-then-eq-clause-reads c =
    let m = member_at_place c.loop-left.left (reads_items c.args.nodes.now) c.loop-left.at c.loop-left.invariant.members c.loop-left-test.true in
    no_more (2 * (c.args.len - (c.loop-left.left - 1))) (2 * c.args.len) (c.loop-left.at + 1 + 1) (length (reads_items c.args.nodes.now)) _ _ (two_more _ _ _ _ _ _ _ _ _ (c.loop-left.at + 1 + 1) c.loop-left.invariant.reads c.at.ensures.places c.at-in-loop-left.ensures.places c.loop-left-test.true c.loop-left.invariant.left_within (omega arith)) (omega arith) (omega (arith, m.fits))

pub loop-left-preserved : goal.loop-left-preserved
loop-left-preserved c =
    let m = member_at_place c.loop-left.left (reads_items c.args.nodes.now) c.loop-left.at c.loop-left.invariant.members c.loop-left-test.true in
    let count : c.count.result ≡ node_count m.first = (count_read _ _ _ _ _ _ c.in_ok-at.ensures.item (c.at.ensures.items ∙ c.loop-left.invariant.items) m.first_is c.count.ensures) in
    let other : bytes_eq m.key.now c.args.key.now ≡ false = (key_read _ _ _ _ _ _ _ _ c.in_ok-text.ensures.item c.loop-left.invariant.items m.key_is c.in-String.is) (sym c.eq.ensures ∙ c.if-eq.false) in
    record {
      left_within = omega arith;
      at_within = omega (arith, m.fits, count);
      members = subst (λ (n : ℕ). MembersFrom (c.loop-left.left - 1) (drop (c.loop-left.at + 1 + 1 + n) (reads_items c.args.nodes.now))) (sym count) m.rest;
      found = found_further _ _ _ m c.args.key.now other c.count.result count ∙ c.loop-left.invariant.found;
      reads = two_more _ _ _ _ _ _ _ _ _ _ c.loop-left.invariant.reads c.at.ensures.places c.at-in-loop-left.ensures.places c.loop-left-test.true c.loop-left.invariant.left_within (omega arith);
      items = c.at-in-loop-left.ensures.items ∙ (c.at.ensures.items ∙ c.loop-left.invariant.items);
    }

pub returns-clause-reads : goal.returns-clause-reads
returns-clause-reads c = no_more (2 * (c.args.len - c.loop-left.left)) (2 * c.args.len) c.loop-left.at (length (reads_items c.args.nodes.now)) _ _ c.loop-left.invariant.reads (omega arith) c.loop-left.invariant.at_within
