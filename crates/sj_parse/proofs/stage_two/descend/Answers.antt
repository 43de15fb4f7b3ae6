use Rattle.std.proofs.Common.{ℕ, List, length, ap, ◌∙◌, arith, subst}
use Rattle.sj_base.specs.Reads.{reads_places}
use Rattle.sj_parse.specs.Counts.{ReadsEachOnce, ReadsAll}
use Rattle.sj_parse.proofs.Underway.{start, whole, once, nodes-few, stack-few}
use Rattle.sj_parse.proofs.stage_two.descend.Goals as goal

pub read_root-requires : goal.read_root-requires
read_root-requires c = record { at = (c.args.input.now, reads_places c.args.places.now, start c.args.places.now c.at.new.self c.requires.scanned c.requires.places c.requires.short c.requires.empty c.requires.nodes c.requires.stack c.in-Some.ensures.item c.at.ensures.items c.at.ensures.places) }

pub returns-in-Ok-clause-tape : goal.returns-in-Ok-clause-tape
returns-in-Ok-clause-tape c = let w = whole (c.in-Ok.ensures.reads c.args.input.now (reads_places c.args.places.now) (start c.args.places.now c.at.new.self c.requires.scanned c.requires.places c.requires.short c.requires.empty c.requires.nodes c.requires.stack c.in-Some.ensures.item c.at.ensures.items c.at.ensures.places)) in (w.0, w.1)

pub returns-in-Ok-clause-once : goal.returns-in-Ok-clause-once
returns-in-Ok-clause-once c =
    subst (λ (xs : List ℕ). ReadsEachOnce (length xs) (reads_places c.args.places.now) (reads_places c.read_root.new.places)) (c.in-Ok.ensures.items ∙ c.at.ensures.items)
    (once (c.in-Ok.ensures.reads c.args.input.now (reads_places c.args.places.now) (start c.args.places.now c.at.new.self c.requires.scanned c.requires.places c.requires.short c.requires.empty c.requires.nodes c.requires.stack c.in-Some.ensures.item c.at.ensures.items c.at.ensures.places)))

pub returns-in-Ok-clause-all : goal.returns-in-Ok-clause-all
returns-in-Ok-clause-all c =
    let w = whole (c.in-Ok.ensures.reads c.args.input.now (reads_places c.args.places.now) (start c.args.places.now c.at.new.self c.requires.scanned c.requires.places c.requires.short c.requires.empty c.requires.nodes c.requires.stack c.in-Some.ensures.item c.at.ensures.items c.at.ensures.places)) in
    subst (λ (xs : List ℕ). ReadsAll (length xs) (reads_places c.args.places.now) (reads_places c.read_root.new.places)) (c.in-Ok.ensures.items ∙ c.at.ensures.items) w.2

pub returns-in-Ok-clause-nodes : goal.returns-in-Ok-clause-nodes
returns-in-Ok-clause-nodes c =
    let few = nodes-few (c.in-Ok.ensures.reads c.args.input.now (reads_places c.args.places.now) (start c.args.places.now c.at.new.self c.requires.scanned c.requires.places c.requires.short c.requires.empty c.requires.nodes c.requires.stack c.in-Some.ensures.item c.at.ensures.items c.at.ensures.places)) in
    let same = ap length (c.in-Ok.ensures.items ∙ c.at.ensures.items) in omega arith

pub returns-in-Ok-clause-stack : goal.returns-in-Ok-clause-stack
returns-in-Ok-clause-stack c =
    let few = stack-few (c.in-Ok.ensures.reads c.args.input.now (reads_places c.args.places.now) (start c.args.places.now c.at.new.self c.requires.scanned c.requires.places c.requires.short c.requires.empty c.requires.nodes c.requires.stack c.in-Some.ensures.item c.at.ensures.items c.at.ensures.places)) in
    let same = ap length (c.in-Ok.ensures.items ∙ c.at.ensures.items) in omega arith

pub returns-in-Err-clause-fault : goal.returns-in-Err-clause-fault
returns-in-Err-clause-fault c = (c.in-Err.ensures.reads c.args.input.now (reads_places c.args.places.now) (start c.args.places.now c.at.new.self c.requires.scanned c.requires.places c.requires.short c.requires.empty c.requires.nodes c.requires.stack c.in-Some.ensures.item c.at.ensures.items c.at.ensures.places)).is_first

pub returns-in-Err-clause-once : goal.returns-in-Err-clause-once
returns-in-Err-clause-once c =
    subst (λ (xs : List ℕ). ReadsEachOnce (length xs) (reads_places c.args.places.now) (reads_places c.read_root.new.places)) (c.in-Err.ensures.items ∙ c.at.ensures.items) (c.in-Err.ensures.reads c.args.input.now (reads_places c.args.places.now) (start c.args.places.now c.at.new.self c.requires.scanned c.requires.places c.requires.short c.requires.empty c.requires.nodes c.requires.stack c.in-Some.ensures.item c.at.ensures.items c.at.ensures.places)).once

pub returns-in-Err-clause-nodes : goal.returns-in-Err-clause-nodes
returns-in-Err-clause-nodes c =
    let few = (c.in-Err.ensures.reads c.args.input.now (reads_places c.args.places.now) (start c.args.places.now c.at.new.self c.requires.scanned c.requires.places c.requires.short c.requires.empty c.requires.nodes c.requires.stack c.in-Some.ensures.item c.at.ensures.items c.at.ensures.places)).nodes_few in
    let same = ap length (c.in-Err.ensures.items ∙ c.at.ensures.items) in omega arith

pub returns-in-Err-clause-stack : goal.returns-in-Err-clause-stack
returns-in-Err-clause-stack c =
    let few = (c.in-Err.ensures.reads c.args.input.now (reads_places c.args.places.now) (start c.args.places.now c.at.new.self c.requires.scanned c.requires.places c.requires.short c.requires.empty c.requires.nodes c.requires.stack c.in-Some.ensures.item c.at.ensures.items c.at.ensures.places)).stack_few in
    let same = ap length (c.in-Err.ensures.items ∙ c.at.ensures.items) in omega arith
