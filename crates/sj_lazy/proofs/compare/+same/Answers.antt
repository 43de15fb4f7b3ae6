use Rattle.std.proofs.Common.{◌≡◌, ◌&&◌, ◌||◌, ◌<◌, ◌≤◌, ◌+◌, false, [], ◌∷◌, ◌++◌, map, option_map, sym, ap, ap₂, ◌∙◌, arith, add-one}
use Rattle.std.proofs.Math.Bool.{or-true}
use Rattle.sj_base.specs.Containers.{members_len, member_pairs}
use Rattle.sj_base.specs.Path.{member_at}
use Rattle.sj_tape.specs.Views.{value_tree, array_items as tape_items, object_members as tape_members}
use Rattle.sj_tape.proofs.Printing.{fewer_items, fewer_members}
use Rattle.sj_lazy.specs.Parts.{array_items, object_members, items_left, values_left}
use Rattle.sj_lazy.specs.Views.{contents_tree, lazy_tree}
use Rattle.sj_lazy.specs.inside.Comparing.{first_keys, among, all_found}
use Rattle.sj_lazy.proofs.Alike.{left_alike, next_item, none_left, other_lengths, lists_alike, agrees, next_agrees, or_agrees, rest_alike, objects_alike, behind_first, key_passed, all_behind, some_behind, values_of, next_in_front}
use Rattle.sj_lazy.proofs.compare.+same.Goals as goal
use Rattle.sj_lazy.proofs.compare.+same.Goals.{same_members-then-count-front, same_members-else-count-front, same_members-else-not-same_next-via-then-not-same_next+else-not-is_among, same_members-else-not-same_next-via-else-not-same_next}

pub same_items-returns-then-not-same_next : goal.same_items-returns-then-not-same_next
same_items-returns-then-not-same_next t c =
    let rest = tape_items c.in-Some.behind in
    let more = items_left c.next.new.self in
    ap (λ b. b && left_alike rest (map contents_tree more)) c.if-not-same_next.ensures
    ∙ sym (next_item c.next.result (items_left c.loop-item.left) more (tape_items c.loop-item.rest) rest (value_tree c.in-Some.item) c.next.ensures.steps c.in-Some.ensures.items)
    ∙ c.loop-item.invariant.1
    ∙ lists_alike (tape_items c.args.items) (array_items c.args.others)

pub same_items-returns-then-len : goal.same_items-returns-then-len
same_items-returns-then-len t c =
    sym (other_lengths (tape_items c.args.items) (array_items c.args.others) (λ e. c.if-len.true (c.len.ensures ∙ e ∙ sym c.len-2.ensures)))

pub same_items-loop-item-smaller : goal.same_items-loop-item-smaller
same_items-loop-item-smaller t c =
    fewer_items (tape_items c.loop-item.rest) (value_tree c.in-Some.item) (tape_items c.in-Some.behind) c.in-Some.ensures.items

pub same_items-returns : goal.same_items-returns
same_items-returns t c =
    sym (none_left (items_left c.loop-item.left) (tape_items c.loop-item.rest) c.in_default.ensures.items c.loop-item.invariant.2)
    ∙ c.loop-item.invariant.1
    ∙ lists_alike (tape_items c.args.items) (array_items c.args.others)

pub same_members-unreachable-requires : goal.same_members-unreachable-requires
same_members-unreachable-requires t c =
    let all = tape_members c.args.members in
    let within : c.loop-count.count < members_len all = omega (arith, c.loop-count-test.true, c.len-count-end.ensures) in
    some_behind c.loop-count.count all within (c.loop-count.invariant.1 ∙ c.in_default.ensures.members)

pub same_members-returns-then-not-is_among : goal.same_members-returns-then-not-is_among
same_members-returns-then-not-is_among t c =
    let all = tape_members c.args.members in
    let ns = object_members c.args.others in
    let n = c.loop-count.count in
    let ks = first_keys n all in
    let k = c.in-Some.key.now in
    let v = value_tree c.in-Some.value in
    let ms = tape_members c.in-Some.behind in
    let o = option_map lazy_tree c.if-count-front.other in
    let left = rest_alike (ks ++ k ∷ []) ms ns in
    let there : among ks k ≡ false → o ≡ member_at ns k = elim c.if-count-front.branch [
      | same_members-then-count-front w ↦ (λ none.
          ap (option_map lazy_tree) w.other-is
          ∙ (next_in_front n c.same_front-front.result all ns k v ms w.next-other.result (values_left c.loop-count.in_order) (values_left w.next-other.new.self) w.if-count-front.true
          c.same_front-front.ensures (c.loop-count.invariant.1 ∙ c.in-Some.ensures.members) w.next-other.ensures.steps (c.loop-count.invariant.3 (omega (arith, w.if-count-front.true)))).0 none)
      | same_members-else-count-front w ↦ (λ none. ap (option_map lazy_tree) w.other-is ∙ w.get-other.ensures.tree)
    ] in
    let differs = c.if-not-same_next.ensures ∙ next_agrees k v ns o (there (sym c.if-not-is_among.ensures)) in
    let found = ap₂ (λ a b. (a || b) && left) c.if-not-is_among.ensures differs
    ∙ sym (ap (λ l. rest_alike ks l ns) c.in-Some.ensures.members) ∙ c.loop-count.invariant.2 in
    ap (λ b. b && all_found (map (λ p. p.0) (member_pairs ns)) all) found ∙ objects_alike all ns

pub same_members-loop-count-preserved : goal.same_members-loop-count-preserved
same_members-loop-count-preserved t c =
    let all = tape_members c.args.members in
    let ns = object_members c.args.others in
    let n = c.loop-count.count in
    let ks = first_keys n all in
    let k = c.in-Some.key.now in
    let v = value_tree c.in-Some.value in
    let ms = tape_members c.in-Some.behind in
    let front = c.same_front-front.result in
    let o = option_map lazy_tree c.if-count-front.other in
    let left = rest_alike (ks ++ k ∷ []) ms ns in
    let passed = key_passed n all ms k v (c.loop-count.invariant.1 ∙ c.in-Some.ensures.members) in
    let fewer = fewer_members (tape_members c.loop-count.rest) k v ms c.in-Some.ensures.members in
    let known = ap (λ l. rest_alike l ms ns) (ap (λ j. first_keys j all) (add-one n) ∙ passed.0) in
    let before = sym (ap (λ l. rest_alike ks l ns) c.in-Some.ensures.members) ∙ c.loop-count.invariant.2 in
    let next : (among ks k ≡ false → o ≡ member_at ns k) × (n + 1 ≤ front → map contents_tree (values_left c.if-count-front.in_order) ≡ values_of (behind_first (n + 1) ns)) = elim c.if-count-front.branch [
      | same_members-then-count-front w ↦
          let given = next_in_front n front all ns k v ms w.next-other.result (values_left c.loop-count.in_order) (values_left w.next-other.new.self) w.if-count-front.true
          c.same_front-front.ensures (c.loop-count.invariant.1 ∙ c.in-Some.ensures.members) w.next-other.ensures.steps (c.loop-count.invariant.3 (omega (arith, w.if-count-front.true))) in (
            (λ none. ap (option_map lazy_tree) w.other-is ∙ given.0 none),
            (λ more. ap (λ i. map contents_tree (values_left i)) w.in_order-is ∙ given.1 ∙ sym (ap (λ j. values_of (behind_first j ns)) (add-one n))),
          )
      | same_members-else-count-front w ↦ (
        (λ none. ap (option_map lazy_tree) w.other-is ∙ w.get-other.ensures.tree),
        (λ more. absurd (omega (arith, more, w.if-count-front.false))),
      )
    ] in
    let agreed : left ≡ ((among ks k || agrees k v ns) && left) = elim c.else-not-same_next.branch [
      | same_members-else-not-same_next-via-then-not-same_next+else-not-is_among w ↦ ap (λ a. (a || agrees k v ns) && left) w.if-not-is_among.ensures
      | same_members-else-not-same_next-via-else-not-same_next w ↦
          ap (λ b. b && left) (sym (or-true (among ks k)) ∙ ap (λ b. among ks k || b) w.if-not-same_next.ensures ∙ or_agrees (among ks k) k v ns o next.0)
    ] in
    (omega (arith, fewer, c.loop-count.invariant.0), ap (λ j. behind_first j all) (add-one n) ∙ passed.1, known ∙ agreed ∙ before, next.1)

pub same_members-returns : goal.same_members-returns
same_members-returns t c =
    let all = tape_members c.args.members in
    let ns = object_members c.args.others in
    let n = c.loop-count.count in
    let found = all_found (map (λ p. p.0) (member_pairs ns)) all in
    let ended : n ≡ members_len all = omega (arith, c.loop-count.auto.count-end, c.loop-count-test.false, c.len-count-end.ensures) in
    let none = sym c.loop-count.invariant.1 ∙ ap (λ j. behind_first j all) ended ∙ all_behind all in
    let done = sym (ap (λ l. rest_alike (first_keys n all) l ns) none) ∙ c.loop-count.invariant.2 in
    c.are_all_found.ensures ∙ ap (λ b. b && found) done ∙ objects_alike all ns
