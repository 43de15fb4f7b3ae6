use Rattle.std.proofs.Common.{◌≡◌, refl, sym, Some, rules}
use Rattle.std.specs.Cow.{cow_str_bytes}
use Rattle.sj_object.specs.Pairs.{value_at}
use Rattle.sj_keys.proofs.Puts.{set_puts}
use Rattle.sj_keys.proofs.object.ObjectKnownKeyTargetMut.get_known_or_insert.Goals as goal

pub returns-then-is_some : goal.returns-then-is_some
returns-then-is_some g c =
    let text = g.K.ObjectKey.text in
    let es = c.args.self.now in
    let k = cow_str_bytes c.args.key.now in
    let found : Some c.unwrap.result.now ≡ value_at text es k = search rules in
    ((refl, (λ w ok. set_puts text es k w _ found), tt), record { writes_back = tt; value = rw (sym found) refl; succeeds = λ there. refl; err = tt })
