use Rattle.std.specs.Cow.{cow_str_bytes}
use Rattle.sj_keys.proofs.Puts.{set_puts}
use Rattle.sj_keys.proofs.object.ObjectKnownKeyTargetMut.insert_known.Goals as goal

pub returns-in-Some-clause-put : goal.returns-in-Some-clause-put
returns-in-Some-clause-put g c =
    rw c.replace.ensures.after (set_puts g.K.ObjectKey.text c.args.self.now (cow_str_bytes c.args.key.now) c.args.value _ c.in-Some.ensures.value)
