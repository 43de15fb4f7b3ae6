-- A container that has nothing yet: its node and its frame.
use Rattle.std.proofs.Common.{List, [], ◌∷◌, ◌++◌, sym, refl, subst, arith}
use Rattle.sj_tape.specs.declared.node.Node.{Node}
use Rattle.sj_tape.specs.declared.node.Node.TheVariants.{Object, Array}
use Rattle.sj_parse.specs.Nodes.{HaveCarriers}
use Rattle.sj_parse.proofs.OpenContainers.{carriers-one, opens-array, opens-object, opens-not}
use Rattle.sj_parse.proofs.containers.open.Goals as goal

pub returns-then-len-limit-clause-opens : goal.returns-then-len-limit-clause-opens
returns-then-len-limit-clause-opens c = λ ws es st. (refl, opens-not c.args.limit ws c.args.stack.now.items st (let n = c.args.stack.now.ok in omega arith))

pub returns-then-is_object-clause-opens : goal.returns-then-is_object-clause-opens
returns-then-is_object-clause-opens c = λ ws es st.
    opens-object c.args.is_object c.args.limit ws c.args.nodes.now.items c.push_reserved-then-is_object.new.self.items c.args.stack.now.items c.push_reserved.new.self.items c.len-2.result es st c.if-is_object.true
    c.push_reserved-then-is_object.ensures.items c.push_reserved.ensures.items (let n = c.args.nodes.now.ok in omega arith) (let n = c.args.stack.now.ok in omega arith)

pub returns-then-is_object-clause-carriers : goal.returns-then-is_object-clause-carriers
returns-then-is_object-clause-carriers c = λ ts t makes h.
    subst (λ (ns : List Node). HaveCarriers (ts ++ t ∷ []) ns) (sym c.push_reserved-then-is_object.ensures.items) (carriers-one ts c.args.nodes.now.items t (Object 0 0) makes tt h)

pub returns-else-is_object-clause-opens : goal.returns-else-is_object-clause-opens
returns-else-is_object-clause-opens c = λ ws es st.
    opens-array c.args.is_object c.args.limit ws c.args.nodes.now.items c.push_reserved-else-is_object.new.self.items c.args.stack.now.items c.push_reserved.new.self.items c.len-2.result es st c.if-is_object.false
    c.push_reserved-else-is_object.ensures.items c.push_reserved.ensures.items (let n = c.args.nodes.now.ok in omega arith) (let n = c.args.stack.now.ok in omega arith)

pub returns-else-is_object-clause-carriers : goal.returns-else-is_object-clause-carriers
returns-else-is_object-clause-carriers c = λ ts t makes h.
    subst (λ (ns : List Node). HaveCarriers (ts ++ t ∷ []) ns) (sym c.push_reserved-else-is_object.ensures.items) (carriers-one ts c.args.nodes.now.items t (Array 0 0) makes tt h)
