use Rattle.std.proofs.Common.{◌≡◌, ◌+◌, ◌-◌, length}
use Rattle.sj_base.specs.Buffer.{buffer_text}
use Rattle.sj_base.proofs.buffer.TextBuffer.grow.Given as goal

abbrev pub invariant-loop-self : goal.invariant-loop-self
invariant-loop-self l = (l.self.len ≡ l.initial.self.len) × (buffer_text l.self ≡ buffer_text l.initial.self)

abbrev pub decreases-loop-self : goal.decreases-loop-self
decreases-loop-self l = l.additional + l.self.len - length l.self.bytes.items
