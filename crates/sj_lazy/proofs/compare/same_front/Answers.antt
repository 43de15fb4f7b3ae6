use Rattle.std.proofs.Common.{◌≡◌, ◌<◌, option_map, sym, ap, ◌∙◌, arith, add-one, rules}
use Rattle.sj_base.specs.Containers.{members_len}
use Rattle.sj_tape.specs.Views.{object_members as tape_members, keys_left as tape_keys}
use Rattle.sj_lazy.specs.Parts.{object_members, keys_left}
use Rattle.sj_lazy.specs.inside.Comparing.{first_keys}
use Rattle.sj_lazy.proofs.Alike.{behind_first, keys_of, front_passed}
use Rattle.sj_lazy.proofs.compare.same_front.Goals as goal

pub loop-count-preserved : goal.loop-count-preserved
loop-count-preserved c =
    let ms = tape_members c.args.members.now in
    let ns = object_members c.args.others.now in
    let n = c.loop-count.count in
    let within : n < members_len ms = omega (arith, c.loop-count-test.true, c.len-count-end.ensures) in
    let same : option_map (λ k. k.now) c.next.result ≡ option_map (λ k. k.now) c.next-in-loop-count.result = search rules in
    let passed = front_passed (λ k. k.now) n ms ns c.next.result c.next-in-loop-count.result (tape_keys c.loop-count.keys) (tape_keys c.next.new.self)
    (keys_left c.loop-count.other_keys) (keys_left c.next-in-loop-count.new.self)
    within c.loop-count.invariant.0 c.loop-count.invariant.1 c.loop-count.invariant.2 c.next.ensures.steps c.next-in-loop-count.ensures.steps same in
    let one = add-one n in (
      ap (λ j. first_keys j ms) one ∙ passed.0 ∙ sym (ap (λ j. first_keys j ns) one),
      ap (λ j. keys_of (behind_first j ms)) one ∙ passed.1,
      ap (λ j. keys_of (behind_first j ns)) one ∙ passed.2,
    )
