-- A buffer that refuses has nothing appended to it.
use Rattle.std.specs.Prelude.{◌≡◌, ℕ, List, [], ◌++◌}
use Rattle.std.proofs.Common.{refl, sym, append-nil}
use Rattle.sj_base.specs.Buffer.{buffer_text}
use Rattle.sj_base.specs.declared.buffer.TextBuffer.{TextBuffer}

pub refuses_all : (old : TextBuffer) (bytes : List ℕ) → (taken rest : List ℕ) × (bytes ≡ taken ++ rest) × (buffer_text old ≡ buffer_text old ++ taken)
refuses_all old bytes = ([], bytes, refl, sym (append-nil (buffer_text old)))
