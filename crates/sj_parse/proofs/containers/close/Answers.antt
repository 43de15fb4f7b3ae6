-- The frame on top is that of the innermost container, whose node gets its counts.
use Rattle.std.proofs.Common.{ℕ, ◌-◌, ap, sym, ◌∙◌}
use Rattle.sj_base.specs.Tree.{list, object}
use Rattle.sj_parse.proofs.OpenContainers.{after_value-entries, closes-array, closes-object, carriers-set, snoc_parts}
use Rattle.sj_parse.specs.inside.Machine.{waiting_stack, array_frame, object_frame}
use Rattle.sj_parse.proofs.containers.close.Goals as goal

pub returns-clause-array : goal.returns-clause-array
returns-clause-array c = λ xs ws es st.
    let top = sym st ∙ c.in-Some.ensures.items in
    let below = sym (snoc_parts (waiting_stack ws) c.pop.new.self.items (array_frame xs ws) c.in-Some.frame top).0 in
    record {
      state_is = c.after_value.ensures.state ws (list xs) below;
      entries_are =
          closes-array xs ws c.args.nodes.now.items c.pop.new.self.items c.in-Some.frame (c.len.result - c.in-Some.frame.start - 1) c.node.result es top (ap (λ (n : ℕ). n - c.in-Some.frame.start - 1) (c.len.ensures ∙ c.args.nodes.now.ok.0)) c.node.ensures.entry
          ∙ after_value-entries ws (list xs);
      stack_is = c.after_value.ensures.stack ws (list xs) below;
    }

pub returns-clause-object : goal.returns-clause-object
returns-clause-object c = λ ms ws es st.
    let top = sym st ∙ c.in-Some.ensures.items in
    let below = sym (snoc_parts (waiting_stack ws) c.pop.new.self.items (object_frame ms ws) c.in-Some.frame top).0 in
    record {
      state_is = c.after_value.ensures.state ws (object ms) below;
      entries_are =
          closes-object ms ws c.args.nodes.now.items c.pop.new.self.items c.in-Some.frame (c.len.result - c.in-Some.frame.start - 1) c.node.result es top (ap (λ (n : ℕ). n - c.in-Some.frame.start - 1) (c.len.ensures ∙ c.args.nodes.now.ok.0)) c.node.ensures.entry
          ∙ after_value-entries ws (object ms);
      stack_is = c.after_value.ensures.stack ws (object ms) below;
    }

pub returns-clause-carriers : goal.returns-clause-carriers
returns-clause-carriers c = λ ts h. carriers-set ts c.args.nodes.now.items c.in-Some.frame.start c.node.result c.node.ensures.carrier h
