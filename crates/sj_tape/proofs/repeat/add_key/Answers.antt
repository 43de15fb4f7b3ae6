-- A key that is met, and one that stands behind the others from now on.
use Rattle.std.proofs.Common.{◌≡◌, ◌≤◌, ℕ, false, List, [], ◌∷◌, ◌++◌, Option, length, take, drop, map, sym, ap, ◌∙◌, subst, arith, length-append}
use Rattle.std.specs.Prelude.{reverse}
use Rattle.std.specs.Borrow.{Bor}
use Rattle.std.specs.BTreeSet.{BTreeSet}
use Rattle.std.proofs.lemmas.List.{take_rest, take-append-le, drop-append-le, map-append}
use Rattle.std.proofs.lemmas.Result.{IfOk-from_err}
use Rattle.sj_tape.specs.declared.repeat.RepeatPart.{RepeatPart}
use Rattle.sj_tape.specs.Repeats.{is_among, part_view}
use Rattle.sj_tape.specs.inside.Earlier.{texts, Lists, IsAdded}
use Rattle.sj_tape.proofs.repeat.add_key.Goals as goal

one_more : (start : ℕ) (before after : List (Bor (List ℕ))) (listed : Option (BTreeSet (Bor (List ℕ)))) (key : Bor (List ℕ)) → start ≤ length before → after ≡ before ++ key ∷ [] → is_among key.now (texts (drop start before)) ≡ false → Lists listed (texts (drop start before) ++ key.now ∷ []) → IsAdded start before after listed key.now
one_more start before after listed key within is new lists =
    let behind : drop start after ≡ drop start before ++ key ∷ [] = ap (λ (ks : List (Bor (List ℕ))). drop start ks) is ∙ drop-append-le start before (key ∷ []) within in
    let last : texts (drop start after) ≡ texts (drop start before) ++ key.now ∷ [] = ap texts behind ∙ map-append (λ (k : Bor (List ℕ)). k.now) (drop start before) (key ∷ []) in
    let long : length after ≡ length (before ++ key ∷ []) = ap length is in record {
      is_new = new;
      within = omega (arith, long, length-append before (key ∷ []));
      around = ap (λ (ks : List (Bor (List ℕ))). take start ks) is ∙ take-append-le start before (key ∷ []) within;
      last = last;
      lists = subst (λ (ks : List (List ℕ)). Lists listed ks) (sym last) lists;
    }

pub returns-in_err-is_met : goal.returns-in_err-is_met
returns-in_err-is_met c = IfOk-from_err _ _ c.from_residual.ensures.0

pub returns-in_err-push : goal.returns-in_err-push
returns-in_err-push c = IfOk-from_err _ _ c.from_residual-in_err-push.ensures.0

pub returns-then-branch : goal.returns-then-branch
returns-then-branch c =
    let rest = take_rest c.deref.result.now c.args.start ∙ ap (λ (ks : List (Bor (List ℕ))). drop c.args.start ks) c.deref.ensures.value in
    (ap (λ (parts : List RepeatPart). (reverse (map part_view parts), c.args.key.now)) c.new-path.ensures.items, ap (λ (ks : List (Bor (List ℕ))). is_among c.args.key.now (texts ks)) (sym rest) ∙ sym c.in_ok-is_met.ensures.found ∙ c.if-branch.true)

pub returns : goal.returns
returns c =
    let rest = take_rest c.deref.result.now c.args.start ∙ ap (λ (ks : List (Bor (List ℕ))). drop c.args.start ks) c.deref.ensures.value in
    one_more c.args.start c.args.keys.now.items c.push.new.self.items c.is_met.new.listed c.args.key c.requires.within c.in_ok-push.ensures.items
    (ap (λ (ks : List (Bor (List ℕ))). is_among c.args.key.now (texts ks)) (sym rest) ∙ sym c.in_ok-is_met.ensures.found ∙ c.if-branch.false)
    (subst (λ (ks : List (Bor (List ℕ))). Lists c.is_met.new.listed (texts ks ++ c.args.key.now ∷ [])) rest c.in_ok-is_met.ensures.lists)
