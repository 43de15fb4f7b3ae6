use Rattle.std.proofs.Common.{◌≡◌, ◌&&◌, sym, ap, ◌∙◌, rules}
use Rattle.sj_tape.specs.Views.{object_members}
use Rattle.sj_lazy.specs.Parts.{keys_left}
use Rattle.sj_lazy.specs.inside.Comparing.{all_found}
use Rattle.sj_lazy.proofs.Alike.{within_itself, also_within}
use Rattle.sj_lazy.proofs.compare.are_found.Goals as goal

pub loop-key-init : goal.loop-key-init
loop-key-init c =
    let ms = object_members c.args.members.now in
    let whole : all_found (keys_left c.into_iter-key-iterator.result) ms ≡ all_found (keys_left c.args.keys) ms = search rules in
    (tt, tt, whole, within_itself ms)

pub loop-key-preserved-in-Some-members_behind : goal.loop-key-preserved-in-Some-members_behind
loop-key-preserved-in-Some-members_behind c =
    let ms = object_members c.args.members.now in
    let left = keys_left c.next.new.self in
    let there = also_within (object_members c.loop-key.in_order) ms c.in-Some.key.now c.loop-key.invariant.3 (sym c.in-Some-members_behind.ensures.found) in
    let whole = sym (ap (λ l. all_found l ms) c.in-Some.ensures.steps ∙ ap (λ b. b && all_found left ms) there) ∙ c.loop-key.invariant.2 in
    (tt, tt, whole, c.in-Some-members_behind.ensures.within ms c.loop-key.invariant.3)
