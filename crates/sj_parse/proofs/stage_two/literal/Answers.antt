-- The word is tested that begins with the literal's letter.
use Rattle.std.proofs.Common.{rules, refl, true, false, Ok, Err}
use Rattle.sj_base.specs.declared.static_node.StaticNode.TheVariants.{Null, Bool as Boolean}
use Rattle.sj_parse.specs.declared.descent_fault.DescentKind.TheVariants.{ExpectedTrue, ExpectedFalse, ExpectedNull}
use Rattle.sj_parse.specs.Escapes.{stop}
use Rattle.sj_parse.proofs.LiteralTokens.{true_reads, false_reads, null_reads}
use Rattle.sj_parse.proofs.stage_two.literal.Goals as goal
use Rattle.sj_parse.proofs.stage_two.literal.Goals.{in-116, in-102, in_default}

pub returns-then-is_valid-clause-reads : goal.returns-then-is_valid-clause-reads
returns-then-is_valid-clause-reads c = λ before. elim c.match-bytes.branch [
  | in-116 w ↦ rw w.is_valid-is (true_reads c.args.place before c.args.bytes.now c.requires.some _ (Ok (Boolean true)) w.in-116.is w.is_valid_true_atom.ensures (rw (rw w.is_valid-is at c.if-is_valid.true) refl))
  | in-102 w ↦ rw w.is_valid-is (false_reads c.args.place before c.args.bytes.now c.requires.some _ (Ok (Boolean false)) w.in-102.is w.is_valid_false_atom.ensures (rw (rw w.is_valid-is at c.if-is_valid.true) refl))
  | in_default w ↦ rw w.is_valid-is (null_reads c.args.place before c.args.bytes.now c.requires.some _ (Ok Null) (search rules) w.is_valid_null_atom.ensures (rw (rw w.is_valid-is at c.if-is_valid.true) refl))
]

pub returns-else-is_valid-clause-reads : goal.returns-else-is_valid-clause-reads
returns-else-is_valid-clause-reads c = λ before. elim c.match-bytes.branch [
  | in-116 w ↦ rw w.is_valid-is (true_reads c.args.place before c.args.bytes.now c.requires.some _ (Err (stop ExpectedTrue c.args.place)) w.in-116.is w.is_valid_true_atom.ensures (rw (rw w.is_valid-is at c.if-is_valid.false) refl))
  | in-102 w ↦ rw w.is_valid-is (false_reads c.args.place before c.args.bytes.now c.requires.some _ (Err (stop ExpectedFalse c.args.place)) w.in-102.is w.is_valid_false_atom.ensures (rw (rw w.is_valid-is at c.if-is_valid.false) refl))
  | in_default w ↦ rw w.is_valid-is (null_reads c.args.place before c.args.bytes.now c.requires.some _ (Err (stop ExpectedNull c.args.place)) (search rules) w.is_valid_null_atom.ensures (rw (rw w.is_valid-is at c.if-is_valid.false) refl))
]
